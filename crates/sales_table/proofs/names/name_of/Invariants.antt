use Rattle.std.proofs.Common.{◌≡◌, drop}
use Rattle.sales_table.specs.Tables.{name_of}
use Rattle.sales_table.proofs.names.name_of.Given as goal

abbrev pub invariant-loop-product : goal.invariant-loop-product
invariant-loop-product l =
    name_of l.q l.products ≡ name_of l.q (drop l.product-index l.products)
