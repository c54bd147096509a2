-- The tally of rows: how many were refused with each refusal, the open runs of refused readings,
-- the jumps of replaced meters, and the moments that rows tell.
use Rattle.std.specs.Prelude.{ℕ, ◌+◌, ◌-◌, ◌^◌, List, [], ◌∷◌, min, Option, Some, None}
use Rattle.std.specs.Prelude.{Result, Ok, Err}
use Rattle.std.specs.Prelude.{replicate, slice_index, slice_index_or, slice_set, unwrap_or}
use Rattle.site_base.specs.declared.answer.Answer.{Answer}
use Rattle.site_base.specs.declared.limits.TheConstants.{NOZZLE_CELLS}
use Rattle.site_base.specs.declared.refusal.Refusal.{Refusal}
use Rattle.site_base.specs.declared.row.Row.{Row}
use Rattle.site_base.specs.Configured.{Configured}
use Rattle.site_base.specs.Refusals.{refusal_number}
use Rattle.meters.specs.Nozzles.{Nozzle, opening_nozzles, reading_of}
use Rattle.meters.specs.Places.{nozzle_cell}
use Rattle.row_tally.specs.declared.meter_jumps.MeterJumps.{MeterJumps}
use Rattle.row_tally.specs.declared.meter_reading.MeterReading.{MeterReading}
use Rattle.row_tally.specs.declared.refused_run.RefusedRun.{RefusedRun}
use Rattle.row_tally.specs.declared.refused_run.RowPlace.{RowPlace}
use Rattle.row_tally.specs.declared.row_tally.TheConstants.{REFUSAL_CELLS}
use Rattle.row_tally.specs.Jumps.{no_jumps, with_jump}
use Rattle.row_tally.specs.Moments.{Moments, moments_after, no_moments}
use Rattle.row_tally.specs.Readings.{reading_told, refusal_told, replaced_told}
use Rattle.row_tally.specs.Runs.{runs_refused, without_run}

-- What rows tell: the nozzles before them, how many rows there are, the last accepted reading of
-- each nozzle in its cell, the jumps of each nozzle in its cell, how many rows were refused with
-- each refusal, the open runs, and the moments.
pub record Tally : Type 0 where
  pub opening : List Nozzle
  pub rows : ℕ
  pub readings : List (Option ℕ)
  pub jumps : List MeterJumps
  pub refused : List ℕ
  pub runs : List RefusedRun
  pub moments : Moments

-- no row yet
abbrev pub no_rows : Configured → Tally
no_rows c = record {
  opening = opening_nozzles c;
  rows = 0;
  readings = replicate NOZZLE_CELLS None;
  jumps = replicate NOZZLE_CELLS no_jumps;
  refused = replicate REFUSAL_CELLS 0;
  runs = [];
  moments = no_moments;
}

-- one more, counted up to 2^64 - 1
abbrev pub one_more : ℕ → ℕ
one_more n = min (n + 1) (2 ^ 64 - 1)

-- how many rows were refused with the refusal of this number
abbrev pub refused_as : ℕ → Tally → ℕ
refused_as number t = slice_index_or t.refused (number - 1) 0

-- ---- readings

-- what a nozzle's meter reads: its last accepted reading, or else that of the opening
abbrev pub last_reading : ℕ → ℕ → Tally → ℕ
last_reading p n t =
    unwrap_or (slice_index_or t.readings (nozzle_cell p n) None) (reading_of p n t.opening)

-- an accepted reading is the last one of its nozzle, and settles its run
abbrev pub told_accepted : MeterReading → Tally → Tally
told_accepted x t = record t {
  readings = slice_set t.readings (nozzle_cell x.point x.nozzle) (Some x.reading);
  runs = without_run x.point x.nozzle t.runs;
}

-- a reading that its meter refuses stands in the run of its nozzle
abbrev pub told_refused : RowPlace → Refusal → MeterReading → Tally → Tally
told_refused place refusal x t = record t {
  runs = runs_refused place (last_reading x.point x.nozzle t) refusal x t.runs;
}

-- a reading was replied to so
abbrev pub told_with : RowPlace → MeterReading → Result Answer Refusal → Tally → Tally
told_with place x (Ok answer) t = told_accepted x t
told_with place x (Err refusal) t = told_refused place refusal x t

-- a meter was replaced, and begins with this reading: it jumps from its nozzle's last one
abbrev pub replaced : MeterReading → Tally → Tally
replaced x t = record t {
  jumps = slice_set t.jumps (nozzle_cell x.point x.nozzle)
      (with_jump (last_reading x.point x.nozzle t) x.reading
      (slice_index_or t.jumps (nozzle_cell x.point x.nozzle) no_jumps));
}

-- a meter, if one was to be replaced, was replied to so
abbrev pub replaced_with : Option MeterReading → Result Answer Refusal → Tally → Tally
replaced_with None reply t = t
replaced_with (Some x) (Ok answer) t = replaced x t
replaced_with (Some x) (Err refusal) t = t

-- a row, which may have a reading, was replied to so
abbrev pub told : RowPlace → Option MeterReading → Result Answer Refusal → Tally → Tally
told place None reply t = t
told place (Some x) reply t = told_with place x reply t

-- ---- rows

-- the counts, with this refusal once more
abbrev pub refused_once : Refusal → List ℕ → List ℕ
refused_once refusal counts =
    slice_set counts (refusal_number refusal - 1)
    (one_more (slice_index counts (refusal_number refusal - 1)))

abbrev pub refused_with : Option Refusal → List ℕ → List ℕ
refused_with None counts = counts
refused_with (Some refusal) counts = refused_once refusal counts

-- the tally, with one more row that was replied to so
abbrev pub counted : Result Answer Refusal → Tally → Tally
counted reply t = record t {
  rows = one_more t.rows;
  refused = refused_with (refusal_told reply) t.refused;
}

-- the tally, whose moments are with one more row, which has this time
abbrev pub timed : Option (List ℕ) → Row → Tally → Tally
timed time r t = record t { moments = moments_after time r t.moments }

-- the tally with a row more, which has this time: a replaced meter jumps before its reading is the
-- last one
abbrev pub with_row : Option (List ℕ) → Row → Tally → Tally
with_row time r t =
    counted r.reply (told (record { row = t.rows; at = time }) (reading_told r.event) r.reply
    (replaced_with (replaced_told r.event) r.reply (timed time r t)))

-- the tally with these rows more, one after another, which have this time
abbrev pub with_all : Option (List ℕ) → List Row → Tally → Tally
with_all time [] t = t
with_all time (r ∷ rows) t = with_all time rows (with_row time r t)
