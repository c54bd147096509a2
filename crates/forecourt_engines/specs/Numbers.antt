-- How a number isn't written, and where it ends.
use Rattle.std.specs.Prelude.{ℕ, ◌==◌, ◌||◌, ◌<◌, ◌≢◌, Bool, false, List, [], ◌∷◌, length}
use Rattle.std.specs.Prelude.{slice_index}

-- it begins with a plus, or with a zero that isn't all
abbrev pub is_signed_or_padded : List ℕ → Bool
is_signed_or_padded [] = false
is_signed_or_padded (b ∷ []) = b == 43
is_signed_or_padded (b ∷ c ∷ bs) = b == 43 || b == 48

-- no octet is this one
abbrev pub IsWithout : ℕ → List ℕ → Type 0
IsWithout octet text = (k : ℕ) → k < length text → slice_index text k ≢ octet
