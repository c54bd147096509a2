-- Shelves on which a till's locked sales are let go, at some points.
use Rattle.std.specs.Prelude.{◌≡◌, ℕ, ◌+◌, ◌<◌, Bool, true, false, List, map, length}
use Rattle.std.specs.Prelude.{slice_index_or}
use Rattle.site_base.specs.PointSets.{has_point}
use Rattle.transaction_buffer.specs.LockedSales.{AreTold, lockers_without}
use Rattle.transaction_buffer.specs.Shelves.{Shelf}
use Rattle.transaction_buffer.specs.TransactionTable.{unlock_all_of}

-- on this shelf till t's locked sales are payable, and it is no locker any more; its room stays
pub record IsLetGo (t : ℕ) (old new : Shelf) : Type 0 where
  pub sales : new.sales ≡ map (unlock_all_of t) old.sales
  pub room : new.room ≡ old.room
  pub lockers : new.lockers ≡ lockers_without t old.lockers
  pub told : AreTold new.sales new.lockers

-- this shelf is let go, or it is as it was
abbrev pub IsLetGoWhere : ℕ → Bool → Shelf → Shelf → Type 0
IsLetGoWhere t true old new = IsLetGo t old new
IsLetGoWhere t false old new = new ≡ old

-- just the shelves of these points are let go
abbrev pub AreLetGo : ℕ → ℕ → List Shelf → List Shelf → Type 0
AreLetGo t points old new = (i : ℕ) (d : Shelf) → i < length old
    → IsLetGoWhere t (has_point (i + 1) points) (slice_index_or old i d) (slice_index_or new i d)
