use Rattle.std.proofs.Common.{length}
use Rattle.site_text.proofs.same.+are_same_products.Given as goal

abbrev pub decreases-are_same_products : goal.decreases-are_same_products
decreases-are_same_products l = length l.left.now
