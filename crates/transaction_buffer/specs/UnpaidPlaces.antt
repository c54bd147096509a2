-- The two places at which a shelf's unpaid sales stand.
use Rattle.std.specs.Prelude.{◌≡◌, ℕ, ◌+◌, ◌<◌, List, Bool, true, false, Option, Some, None, ◌||◌}
use Rattle.std.specs.Prelude.{◌==◌, if◌then◌else◌, length, option_map, slice_get, slice_index_or}
use Rattle.std.specs.Prelude.{unwrap_or}
use Rattle.transaction_buffer.specs.Sales.{Sale, is_unpaid, unpaid_among}
use Rattle.transaction_buffer.specs.TransactionTable.{unlock_all_of}

-- this place is the one that is kept
abbrev pub is_at : Option ℕ → ℕ → Bool
is_at None i = false
is_at (Some place) i = place == i

-- how many places are kept
abbrev pub one_if_kept : Option ℕ → ℕ
one_if_kept None = 0
one_if_kept (Some place) = 1

-- the first place once this one is kept too: it, where none was
abbrev pub place_with : Option ℕ → ℕ → Option ℕ
place_with None place = Some place
place_with (Some old) place = Some old

-- the second place once this one is kept too: it, where the first was taken
abbrev pub place_kept : Option ℕ → Option ℕ → ℕ → Option ℕ
place_kept None other place = other
place_kept (Some old) other place = Some place

-- the place, unless it is this one
abbrev pub place_without : Option ℕ → ℕ → Option ℕ
place_without None place = None
place_without (Some old) place = if old == place then None else Some old

-- just the sales at these two places are unpaid
pub record AreUnpaid (xs : List Sale) (first second : Option ℕ) : Type 0 where
  pub each : (i : ℕ) (d : Sale) → i < length xs
      → is_unpaid (slice_index_or xs i d).standing ≡ (is_at first i || is_at second i)
  pub within : (i : ℕ) → (is_at first i || is_at second i) ≡ true → i < length xs
  pub apart : (i : ℕ) → first ≡ Some i → second ≡ Some i → ⊥
  pub counted : unpaid_among xs ≡ one_if_kept first + one_if_kept second

-- a figure of the sale at this place; 0 where there is none
abbrev pub figure_at : (Sale → ℕ) → Option ℕ → List Sale → ℕ
figure_at figure None xs = 0
figure_at figure (Some place) xs = unwrap_or (option_map figure (slice_get xs place)) 0

-- the sale at this place is let go by till t, and every other is as it was
pub record IsLetGoAt (t : ℕ) (place : Option ℕ) (old new : List Sale) : Type 0 where
  pub long : length new ≡ length old
  pub each : (i : ℕ) (d : Sale) → i < length old
      → slice_index_or new i d
      ≡ (if is_at place i then unlock_all_of t (slice_index_or old i d) else slice_index_or old i d)
