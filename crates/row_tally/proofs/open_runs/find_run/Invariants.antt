use Rattle.std.proofs.Common.{◌≡◌, ◌+◌, drop, option_map}
use Rattle.row_tally.specs.Runs.{run_place}
use Rattle.row_tally.proofs.open_runs.find_run.Given as goal

-- the run's place is counted from here
abbrev pub invariant-loop-place : goal.invariant-loop-place
invariant-loop-place l = run_place l.told.point l.told.nozzle l.runs
    ≡ option_map (λ i. i + l.place) (run_place l.told.point l.told.nozzle (drop l.place l.runs))
