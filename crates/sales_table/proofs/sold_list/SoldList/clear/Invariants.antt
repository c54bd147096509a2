use Rattle.std.proofs.Common.{◌≡◌, ◌≤◌, false, drop, length}
use Rattle.std.specs.List.{list_any}
use Rattle.sales_table.specs.TimedSales.{is_named}
use Rattle.sales_table.proofs.sold_list.SoldList.clear.Given as goal

-- of the sales from there on none has the name
abbrev pub invariant-loop-at : goal.invariant-loop-at
invariant-loop-at l = record {
  same : l.self-inside.sales.items ≡ l.fn.self;
  within : l.at ≤ length l.self-inside.sales.items;
  none : list_any (is_named l.name) (drop l.at l.self-inside.sales.items) ≡ false;
}

abbrev pub decreases-loop-at : goal.decreases-loop-at
decreases-loop-at l = l.at
