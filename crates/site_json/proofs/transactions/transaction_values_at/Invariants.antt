use Rattle.std.proofs.Common.{◌≡◌, Some, map, take}
use Rattle.serde_json.specs.View.{view}
use Rattle.site_json.specs.Transactions.{sales_at, transaction_data}
use Rattle.site_json.proofs.transactions.transaction_values_at.Given as goal

abbrev pub invariant-loop-sale : goal.invariant-loop-sale
invariant-loop-sale l =
    map view l.values.items ≡ map transaction_data (sales_at (Some l.p) (take l.sale-index l.sales))
