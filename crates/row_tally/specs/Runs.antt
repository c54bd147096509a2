-- Runs of refused readings: none of the nozzle is accepted between them.
use Rattle.std.specs.Prelude.{ℕ, ◌+◌, Bool, ◌==◌, ◌&&◌, List, [], ◌∷◌, option_map, Option}
use Rattle.std.specs.Prelude.{Some, None, if◌then◌else◌}
use Rattle.site_base.specs.declared.refusal.Refusal.{Refusal}
use Rattle.row_tally.specs.declared.meter_reading.MeterReading.{MeterReading}
use Rattle.row_tally.specs.declared.refused_run.RefusedRun.{RefusedRun}
use Rattle.row_tally.specs.declared.refused_run.RowPlace.{RowPlace}
use Rattle.row_tally.specs.Readings.{is_of_meter}

-- the run is of nozzle n of point p
abbrev pub is_of_nozzle : ℕ → ℕ → RefusedRun → Bool
is_of_nozzle p n run = run.point == p && run.nozzle == n

-- a run that begins with this refused reading, where the meter reads what is expected
abbrev pub run_begun : RowPlace → MeterReading → ℕ → Refusal → RefusedRun
run_begun place x expected refusal = record {
  first = place;
  last = place.row;
  point = x.point;
  nozzle = x.nozzle;
  refusal = refusal;
  expected = expected;
  reported = x.reading;
  settled = None;
}

-- a run that goes on with one more refused reading
abbrev pub run_longer : RowPlace → MeterReading → Refusal → RefusedRun → RefusedRun
run_longer place x refusal run = record run {
  last = place.row;
  refusal = refusal;
  reported = x.reading;
}

-- the place of the nozzle's run among the open ones, if it has one
abbrev pub run_place : ℕ → ℕ → List RefusedRun → Option ℕ
run_place p n [] = None
run_place p n (run ∷ runs) =
    if is_of_nozzle p n run then Some 0 else option_map (λ i. i + 1) (run_place p n runs)

-- the open runs, with a refused reading more: it goes on with the run of its nozzle, or begins one
abbrev pub with_refused : RowPlace → MeterReading → ℕ → Refusal → List RefusedRun
    → List RefusedRun
with_refused place x expected refusal [] = run_begun place x expected refusal ∷ []
with_refused place x expected refusal (run ∷ runs) =
    if is_of_nozzle x.point x.nozzle run then run_longer place x refusal run ∷ runs
    else run ∷ with_refused place x expected refusal runs

-- the open runs without that of the nozzle
abbrev pub without_run : ℕ → ℕ → List RefusedRun → List RefusedRun
without_run p n [] = []
without_run p n (run ∷ runs) =
    if is_of_nozzle p n run then runs else run ∷ without_run p n runs

-- a run that this row settles
abbrev pub run_settled : ℕ → RefusedRun → RefusedRun
run_settled row run = record run { settled = Some row }

-- the nozzle's run, which this row settles, if it has an open one
abbrev pub settled_run : ℕ → ℕ → ℕ → List RefusedRun → List RefusedRun
settled_run row p n [] = []
settled_run row p n (run ∷ runs) =
    if is_of_nozzle p n run then run_settled row run ∷ [] else settled_run row p n runs

-- the open runs, once a reading is refused: where its meter refuses it, it stands in a run; where
-- it is refused for another reason, they are as before
abbrev pub runs_refused : RowPlace → ℕ → Refusal → MeterReading → List RefusedRun → List RefusedRun
runs_refused place expected refusal x runs =
    if is_of_meter (Some refusal) then with_refused place x expected refusal runs else runs
