use Rattle.std.proofs.Common.{length}
use Rattle.site_base.proofs.config.+no_till_twice.Given as goal

abbrev pub decreases-no_till_twice : goal.decreases-no_till_twice
decreases-no_till_twice l = length l.tills.now
