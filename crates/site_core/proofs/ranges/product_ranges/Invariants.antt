use Rattle.std.proofs.Common.{◌≡◌, true, take}
use Rattle.std.specs.List.{list_all}
use Rattle.site_base.specs.declared.limits.TheConstants.{PRODUCTS}
use Rattle.site_base.specs.Ranges.{is_between}
use Rattle.site_core.proofs.ranges.product_ranges.Given as goal

abbrev pub invariant-loop-product : goal.invariant-loop-product
invariant-loop-product l = list_all (λ p. is_between 1 PRODUCTS p.number)
    (take l.product-index l.products) ≡ true
