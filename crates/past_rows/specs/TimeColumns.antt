-- The times of rows that are printed in words.
use Rattle.std.specs.Prelude.{◌≡◌, ℕ, List, ◌++◌, Option, Some, None, codes, length, take}

-- the time of a row and a space, or a dash, as wide, where none is told yet
abbrev pub time_column : Option (List ℕ) → List ℕ
time_column None = codes "-                       " ++ codes " "
time_column (Some time) = time ++ codes " "

-- a text begins with these octets
abbrev pub BeginsWith : List ℕ → List ℕ → Type 0
BeginsWith front text = take (length front) text ≡ front
