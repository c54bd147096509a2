use Rattle.std.proofs.Common.{◌≡◌, map, take}
use Rattle.serde_json.specs.View.{view}
use Rattle.site_json.specs.Transactions.{transaction_data}
use Rattle.site_json.proofs.transactions.transaction_values.Given as goal

abbrev pub invariant-loop-sale : goal.invariant-loop-sale
invariant-loop-sale l =
    map view l.values.items ≡ map transaction_data (take l.sale-index l.sales)
