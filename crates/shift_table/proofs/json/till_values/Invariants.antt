use Rattle.std.proofs.Common.{◌≡◌, ◌+◌, ◌++◌, map, drop}
use Rattle.serde_json.specs.View.{view}
use Rattle.shift_table.specs.ShiftObjects.{tills_data}
use Rattle.shift_table.proofs.json.till_values.Given as goal

-- what is to follow is the tills that are left
abbrev pub invariant-loop-cell : goal.invariant-loop-cell
invariant-loop-cell l =
    map view l.values.items ++ tills_data (l.cell + 1) (drop l.cell l.tills) ≡ tills_data 1 l.tills
