-- A list that is read one by one.
use Rattle.std.specs.Prelude.{◌≡◌, List, [], ◌∷◌, Option, Some, None}

-- the next of these, and those behind it; or none, where none is left
abbrev pub IsNext : {A : Type 0} → List A → Option A → List A → Type 0
IsNext xs (Some x) left = xs ≡ x ∷ left
IsNext xs None left = (xs ≡ []) × (left ≡ [])
