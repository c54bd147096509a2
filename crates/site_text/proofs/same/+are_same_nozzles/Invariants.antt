use Rattle.std.proofs.Common.{length}
use Rattle.site_text.proofs.same.+are_same_nozzles.Given as goal

abbrev pub decreases-are_same_nozzles : goal.decreases-are_same_nozzles
decreases-are_same_nozzles l = length l.left.now
