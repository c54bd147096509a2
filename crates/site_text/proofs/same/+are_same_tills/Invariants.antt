use Rattle.std.proofs.Common.{length}
use Rattle.site_text.proofs.same.+are_same_tills.Given as goal

abbrev pub decreases-are_same_tills : goal.decreases-are_same_tills
decreases-are_same_tills l = length l.left.now
