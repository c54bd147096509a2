-- The holds of a site: the finite map from the points that are held to the tills that hold them.
use Rattle.std.specs.Prelude.{◌≡◌, ℕ, ◌+◌, ◌<◌, Bool, true, false, List, map, filter, length}
use Rattle.std.specs.Prelude.{Option, Some, None, ◌==◌, slice_index, slice_index_or}
use Rattle.std.specs.Ordering.{nat_cmp}
use Rattle.std.specs.FinMap.{FinMap, entries}
use Rattle.site_base.specs.declared.limits.TheConstants.{POINT_CELLS, TILL_CELLS}
use Rattle.site_base.specs.PointSets.{has_point}

-- no other till than t is the holder
abbrev pub is_free_for : ℕ → Option ℕ → Bool
is_free_for t None = true
is_free_for t (Some holder) = holder == t

-- the till is the holder
abbrev pub is_held_by : ℕ → Option ℕ → Bool
is_held_by t None = false
is_held_by t (Some holder) = holder == t

-- the points of this till among such pairs, in their order
abbrev pub points_of : ℕ → List (ℕ × ℕ) → List ℕ
points_of t holds = map (λ hold. hold.0) (filter (λ hold. hold.1 == t) holds)

-- the points that the till holds: a finite map's entries stand in rising order
abbrev pub points_held : ℕ → FinMap nat_cmp ℕ → List ℕ
points_held t holds = points_of t (entries holds)

-- the holders have a cell for each point, and the set in each till's cell has just the points that
-- the till holds
pub record AreIndexed (holders : List (Option ℕ)) (held : List ℕ) : Type 0 where
  pub cells : length holders ≡ POINT_CELLS
  pub same : (i k : ℕ) → i < POINT_CELLS → k < TILL_CELLS
      → has_point (i + 1) (slice_index held k)
      ≡ is_held_by (k + 1) (slice_index_or holders i None)
