use Rattle.std.proofs.Common.{length}
use Rattle.site_base.proofs.config.+no_product_twice.Given as goal

abbrev pub decreases-no_product_twice : goal.decreases-no_product_twice
decreases-no_product_twice l = length l.products.now
