-- Replaced meters: how far the readings of a nozzle jumped.
use Rattle.std.specs.Prelude.{ℕ, ◌+◌, ◌-◌, ◌^◌, min}
use Rattle.row_tally.specs.declared.meter_jumps.MeterJumps.{MeterJumps}

-- a sum, counted up to 2^64 - 1
abbrev pub counted_sum : ℕ → ℕ → ℕ
counted_sum n m = min (n + m) (2 ^ 64 - 1)

-- no meter was replaced
abbrev pub no_jumps : MeterJumps
no_jumps = record { replaced = 0; raised = 0; lowered = 0 }

-- a meter more was replaced: its reading before, and the one that it begins with
abbrev pub with_jump : ℕ → ℕ → MeterJumps → MeterJumps
with_jump before begun x = record {
  replaced = counted_sum x.replaced 1;
  raised = counted_sum x.raised (begun - before);
  lowered = counted_sum x.lowered (before - begun);
}
