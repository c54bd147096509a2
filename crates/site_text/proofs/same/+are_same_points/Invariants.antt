use Rattle.std.proofs.Common.{length}
use Rattle.site_text.proofs.same.+are_same_points.Given as goal

abbrev pub decreases-are_same_points : goal.decreases-are_same_points
decreases-are_same_points l = length l.left.now
