use Rattle.std.proofs.Common.{◌≡◌, map, take}
use Rattle.serde_json.specs.View.{view}
use Rattle.site_gaps.specs.MomentData.{sale_data}
use Rattle.site_gaps.proofs.moments.sale_values.Given as goal

abbrev pub invariant-loop-sale : goal.invariant-loop-sale
invariant-loop-sale l = map view l.values.items ≡ map sale_data (take l.sale-index l.sold)
