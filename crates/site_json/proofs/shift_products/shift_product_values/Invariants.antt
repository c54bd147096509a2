use Rattle.std.proofs.Common.{◌≡◌, map, take}
use Rattle.serde_json.specs.View.{view}
use Rattle.site_json.specs.ShiftProducts.{shift_product}
use Rattle.site_json.proofs.shift_products.shift_product_values.Given as goal

abbrev pub invariant-loop-product : goal.invariant-loop-product
invariant-loop-product l =
    map view l.values.items ≡ map (shift_product l.row) (take l.product-index l.products)
