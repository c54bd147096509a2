use Rattle.std.proofs.Common.{length}
use Rattle.site_base.proofs.config.+no_point_twice.Given as goal

abbrev pub decreases-no_point_twice : goal.decreases-no_point_twice
decreases-no_point_twice l = length l.points.now
