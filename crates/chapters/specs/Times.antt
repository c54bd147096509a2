-- The times that a text tells, one after another.
use Rattle.std.specs.Prelude.{◌≡◌, ℕ, List, [], ◌∷◌, Option, Some, true, filter_map}
use Rattle.stamps.specs.Stamps.{is_later, stamp_in}

-- the times that lines tell
abbrev pub times_in : List (List ℕ) → List (List ℕ)
times_in lines = filter_map stamp_in lines

-- times rise behind a last one, if there is one: each is later than the one before it; the last one
-- behind them is this
abbrev pub Rise : Option (List ℕ) → List (List ℕ) → Option (List ℕ) → Type 0
Rise last [] behind = behind ≡ last
Rise last (time ∷ times) behind = (is_later last time ≡ true) × Rise (Some time) times behind
