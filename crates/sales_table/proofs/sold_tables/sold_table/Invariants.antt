use Rattle.std.proofs.Common.{◌≡◌, ◌++◌, drop, flat_map}
use Rattle.sales_table.specs.SoldLists.{sold_line, table_of_span}
use Rattle.sales_table.specs.TimedSales.{asked_sales}
use Rattle.sales_table.proofs.sold_tables.sold_table.Given as goal

-- what is to follow is the lines of those of the sales left that are asked for
abbrev pub invariant-loop-sale : goal.invariant-loop-sale
invariant-loop-sale l =
    l.text.items
    ++ flat_map (sold_line l.form l.book) (asked_sales l.span (drop l.sale-index l.sales))
    ≡ table_of_span l.form l.book l.span l.sales
