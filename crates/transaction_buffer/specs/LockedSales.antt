-- Which till has locked the sales at the two unpaid places of a point, and for each till the points
-- where it has.
use Rattle.std.specs.Prelude.{◌≡◌, ◌≢◌, ℕ, ◌+◌, ◌<◌, ◌≤◌, Bool, false, not, ◌&&◌, ◌||◌, ◌==◌}
use Rattle.std.specs.Prelude.{if◌then◌else◌, List, map, Option, option_and_then, Some, None}
use Rattle.std.specs.Prelude.{slice_get, slice_index}
use Rattle.site_base.specs.declared.limits.TheConstants.{POINTS, TILL_CELLS}
use Rattle.site_base.specs.PointSets.{has_point}
use Rattle.transaction_buffer.specs.declared.locked_points.Lockers.{Lockers}
use Rattle.transaction_buffer.specs.declared.locked_points.LockedPoints.{LockedPoints}
use Rattle.transaction_buffer.specs.Sales.{Sale}
use Rattle.transaction_buffer.specs.TransactionTable.{unlock_all_of, locker}

-- the till that has locked the sale at this place
abbrev pub locker_at : Option ℕ → List Sale → Option ℕ
locker_at None xs = None
locker_at (Some place) xs = option_and_then (λ x. locker x.standing) (slice_get xs place)

-- the tills that have locked the sales at these two places
abbrev pub lockers_at : Option ℕ → Option ℕ → List Sale → Lockers
lockers_at one other xs = record { one = locker_at one xs; other = locker_at other xs }

abbrev pub no_lockers : Lockers
no_lockers = record { one = None; other = None }

-- the till is the locker
abbrev pub is_locker : ℕ → Option ℕ → Bool
is_locker t None = false
is_locker t (Some u) = u == t

-- the locker, unless it is this till
abbrev pub locker_without : ℕ → Option ℕ → Option ℕ
locker_without t None = None
locker_without t (Some u) = if u == t then None else Some u

abbrev pub lockers_without : ℕ → Lockers → Lockers
lockers_without t lockers = record {
  one = locker_without t lockers.one;
  other = locker_without t lockers.other;
}

-- the sign-off of a till that isn't one of the lockers leaves these sales
abbrev pub AreTold : List Sale → Lockers → Type 0
AreTold xs lockers = (t : ℕ) → is_locker t lockers.one ≡ false → is_locker t lockers.other ≡ false
    → map (unlock_all_of t) xs ≡ xs

-- in the sets of the tills point p stands just where these are its lockers
abbrev pub IsNoted : ℕ → Lockers → LockedPoints → Type 0
IsNoted p lockers locked = (k : ℕ) → k < TILL_CELLS
    → (has_point p (slice_index locked.one k) ≡ is_locker (k + 1) lockers.one)
    × (has_point p (slice_index locked.other k) ≡ is_locker (k + 1) lockers.other)

-- the sets of the tills have every point but p as they had
abbrev pub KeepsOthers : ℕ → LockedPoints → LockedPoints → Type 0
KeepsOthers p old new = (q k : ℕ) → q ≢ p → 1 ≤ q → q ≤ POINTS → k < TILL_CELLS
    → (has_point q (slice_index new.one k) ≡ has_point q (slice_index old.one k))
    × (has_point q (slice_index new.other k) ≡ has_point q (slice_index old.other k))

-- the sets of till t have no point, every other is as it was
abbrev pub IsForgotten : ℕ → LockedPoints → LockedPoints → Type 0
IsForgotten t old new = (q k : ℕ) → k < TILL_CELLS
    → (has_point q (slice_index new.one k)
    ≡ (not (k + 1 == t) && has_point q (slice_index old.one k)))
    × (has_point q (slice_index new.other k)
    ≡ (not (k + 1 == t) && has_point q (slice_index old.other k)))

-- point p has left the set of this till; all else stays
abbrev pub IsLeft : ℕ → Option ℕ → List ℕ → List ℕ → Type 0
IsLeft p till old new = (q k : ℕ) → 1 ≤ q → q ≤ POINTS → k < TILL_CELLS
    → has_point q (slice_index new k)
    ≡ (not (q == p && is_locker (k + 1) till) && has_point q (slice_index old k))

-- point p has entered the set of this till; all else stays
abbrev pub IsEntered : ℕ → Option ℕ → List ℕ → List ℕ → Type 0
IsEntered p till old new = (q k : ℕ) → 1 ≤ q → q ≤ POINTS → k < TILL_CELLS
    → has_point q (slice_index new k)
    ≡ (q == p && is_locker (k + 1) till || has_point q (slice_index old k))
