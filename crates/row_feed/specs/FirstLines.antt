-- The line that a peer begins with.
use Rattle.std.specs.Prelude.{◌≡◌, ◌≢◌, ℕ, ◌<◌, ◌^◌, List, ◌++◌, codes, decimal, ◌⊎◌, Option, Some}
use Rattle.std.specs.Prelude.{None}

-- it asks for the rows from this one on: `from end`, where this row is next, or `from N`
abbrev pub IsFrom : ℕ → List ℕ → ℕ → Type 0
IsFrom next line n =
    ((line ≡ codes "from end") × (n ≡ next))
    ⊎ ((line ≡ codes "from " ++ decimal n) × (n < 2 ^ 64))

-- the row from which on it asks to be fed, or none
abbrev pub AsksFrom : ℕ → List ℕ → Option ℕ → Type 0
AsksFrom next line (Some n) = IsFrom next line n
AsksFrom next line None =
    (line ≢ codes "from end") × ((n : ℕ) → n < 2 ^ 64 → line ≢ codes "from " ++ decimal n)
