use Rattle.std.proofs.Common.{◌≡◌, map, take}
use Rattle.serde_json.specs.View.{view}
use Rattle.site_gaps.specs.GapData.{gap_data}
use Rattle.site_gaps.proofs.gaps.run_values.Given as goal

abbrev pub invariant-loop-run : goal.invariant-loop-run
invariant-loop-run l = map view l.values.items ≡ map gap_data (take l.run-index l.runs)
