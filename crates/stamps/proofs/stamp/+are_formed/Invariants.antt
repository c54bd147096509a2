use Rattle.std.proofs.Common.{length}
use Rattle.stamps.proofs.stamp.+are_formed.Given as goal

abbrev pub decreases-are_formed : goal.decreases-are_formed
decreases-are_formed l = length l.form.now
