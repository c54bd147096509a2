use Rattle.std.proofs.Common.{◌≡◌, ◌++◌, string_bytes, drop}
use Rattle.day_report.specs.Text.{product_lines}
use Rattle.day_report.proofs.text.put_products.Given as goal

-- what is to follow is the lines of the products that are left
abbrev pub invariant-loop-at : goal.invariant-loop-at
invariant-loop-at l =
    string_bytes l.text ++ product_lines (drop l.at l.products) (drop l.at l.views)
    ≡ string_bytes l.fn.text ++ product_lines l.products l.views
