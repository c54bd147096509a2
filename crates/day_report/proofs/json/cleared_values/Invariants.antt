use Rattle.std.proofs.Common.{◌≡◌, map, take}
use Rattle.serde_json.specs.View.{view}
use Rattle.day_report.specs.Json.{cleared_data}
use Rattle.day_report.proofs.json.cleared_values.Given as goal

abbrev pub invariant-loop-till : goal.invariant-loop-till
invariant-loop-till l =
    map view l.values.items ≡ map cleared_data (take l.till-index l.tills)
