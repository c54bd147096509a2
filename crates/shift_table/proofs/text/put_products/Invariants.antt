use Rattle.std.proofs.Common.{◌≡◌, ◌++◌, string_bytes, drop, flat_map}
use Rattle.shift_table.specs.ShiftLines.{product_words}
use Rattle.shift_table.proofs.text.put_products.Given as goal

-- what is to follow is the words of the products that are left
abbrev pub invariant-loop-product : goal.invariant-loop-product
invariant-loop-product l =
    string_bytes l.text ++ flat_map (product_words l.row) (drop l.product-index l.products)
    ≡ string_bytes l.fn.text ++ flat_map (product_words l.row) l.products
