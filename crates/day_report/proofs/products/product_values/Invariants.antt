use Rattle.std.proofs.Common.{◌≡◌, ◌++◌, drop, length, map, min}
use Rattle.serde_json.specs.View.{view}
use Rattle.day_report.specs.Products.{products_data}
use Rattle.day_report.proofs.products.product_values.Given as goal

abbrev pub invariant-loop-at : goal.invariant-loop-at
invariant-loop-at l = record {
  so_far : map view l.values.items ++ products_data (drop l.at l.products) (drop l.at l.views)
      ≡ products_data l.products l.views;
  end : l.at-end ≡ min (length l.products) (length l.views);
}
