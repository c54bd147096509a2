-- What the buffer keeps beside its sales.
use Rattle.std.specs.Prelude.{◌≡◌, ℕ, ◌+◌, ◌<◌, List, length, slice_index_or}
use Rattle.site_base.specs.declared.limits.TheConstants.{POINT_CELLS}
use Rattle.transaction_buffer.specs.declared.locked_points.LockedPoints.{LockedPoints}
use Rattle.transaction_buffer.specs.declared.sums.Sums.{Sums}
use Rattle.transaction_buffer.specs.KeptSums.{AreSums}
use Rattle.transaction_buffer.specs.LockedSales.{AreTold, IsNoted}
use Rattle.transaction_buffer.specs.Shelves.{Shelf, sales_on}

-- there is a shelf for each point; the tills' sets have its point just where they have locked the
-- sales at its unpaid places; no other sale on it is locked
pub record AreNoted (shelves : List Shelf) (locked : LockedPoints) : Type 0 where
  pub cells : length shelves ≡ POINT_CELLS
  pub each : (i : ℕ) (d : Shelf) → i < length shelves
      → IsNoted (i + 1) (slice_index_or shelves i d).lockers locked
  pub told : (i : ℕ) (d : Shelf) → i < length shelves
      → AreTold (slice_index_or shelves i d).sales (slice_index_or shelves i d).lockers

-- the kept sums are those of the sales, and the tills' sets have what they have locked
pub record IsKept (shelves : List Shelf) (totals : Sums) (locked : LockedPoints) : Type 0 where
  pub sums : AreSums (sales_on shelves) totals
  pub noted : AreNoted shelves locked
