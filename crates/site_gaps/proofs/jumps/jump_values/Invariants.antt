use Rattle.std.proofs.Common.{◌≡◌, ◌++◌, drop, map}
use Rattle.serde_json.specs.View.{view}
use Rattle.site_gaps.specs.JumpData.{jumps_from}
use Rattle.site_gaps.proofs.jumps.jump_values.Given as goal

abbrev pub invariant-loop-cell : goal.invariant-loop-cell
invariant-loop-cell l =
    map view l.values.items ++ jumps_from l.cell (drop l.cell l.jumps) ≡ jumps_from 0 l.jumps
