use Rattle.std.proofs.Common.{◌≡◌, ℕ, ◌<◌, ◌≤◌, slice_get, slice_index_or}
use Rattle.demo.specs.declared.dispenser.TheConstants.{METERS}
use Rattle.demo.specs.Reports.{reading_of}
use Rattle.demo.proofs.dispenser.readings_of.Given as goal

abbrev pub invariant-loop-cell : goal.invariant-loop-cell
invariant-loop-cell l = record {
  taken : (k : ℕ) → k < l.cell → slice_index_or l.readings k 0 ≡ reading_of (slice_get l.nozzles k);
  others : (k : ℕ) → l.cell ≤ k → k < METERS → slice_index_or l.readings k 0 ≡ 0;
}
