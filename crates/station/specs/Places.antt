-- The places of a station: those without a door, and behind them four for each door.
use Rattle.std.specs.Prelude.{◌≡◌, ℕ, ◌+◌, ◌*◌, Bool, true, ◌&&◌, nat_le, nat_lt, List}
use Rattle.std.specs.Prelude.{Option, Some, None, slice_get}
use Rattle.station.specs.declared.sizes.TheConstants.{FREE_PLACES, NODE_SESSIONS}

-- the first of a door's places; door after door, each has four
abbrev pub first_place : ℕ → ℕ
first_place door = FREE_PLACES + NODE_SESSIONS * door

-- a key is a place of this door
abbrev pub is_place_at : ℕ → ℕ → Bool
is_place_at door key = nat_le (first_place door) key && nat_lt key (first_place (door + 1))

-- a key is a place for whoever comes at a door of this node, of those with these nodes, or without
-- a door
abbrev pub IsPlaceFor : List (List ℕ) → ℕ → Option (List ℕ) → Type 0
IsPlaceFor doors key None = nat_lt key FREE_PLACES ≡ true
IsPlaceFor doors key (Some node) =
    (door : ℕ) × (is_place_at door key ≡ true) × (slice_get doors door ≡ Some node)
