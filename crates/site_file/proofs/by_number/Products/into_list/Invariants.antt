use Rattle.std.proofs.Common.{◌≡◌, ◌++◌}
use Rattle.site_file.proofs.by_number.Products.into_list.Given as goal

abbrev pub invariant-loop-product : goal.invariant-loop-product
invariant-loop-product l = l.list.items ++ l.product-iterator ≡ l.fn.self
