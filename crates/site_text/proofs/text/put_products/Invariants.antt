use Rattle.std.proofs.Common.{◌≡◌, ◌++◌, string_bytes, drop, flat_map}
use Rattle.site_text.specs.SiteText.{product_text}
use Rattle.site_text.proofs.text.put_products.Given as goal

-- what is to follow is the products that are left
abbrev pub invariant-loop-product : goal.invariant-loop-product
invariant-loop-product l =
    string_bytes l.text ++ flat_map product_text (drop l.product-index l.products)
    ≡ string_bytes l.fn.text ++ flat_map product_text l.products
