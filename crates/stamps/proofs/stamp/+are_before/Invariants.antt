use Rattle.std.proofs.Common.{length}
use Rattle.stamps.proofs.stamp.+are_before.Given as goal

abbrev pub decreases-are_before : goal.decreases-are_before
decreases-are_before l = length l.first.now
