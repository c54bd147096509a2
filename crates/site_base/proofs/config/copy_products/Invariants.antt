use Rattle.std.proofs.Common.{◌≡◌, take}
use Rattle.site_base.proofs.config.copy_products.Given as goal

abbrev pub invariant-loop-product : goal.invariant-loop-product
invariant-loop-product l = l.copies.items ≡ take l.product-index l.products
