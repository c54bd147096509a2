-- Tables that have a cell for each number, from 1 on.
use Rattle.std.specs.Prelude.{ℕ, ◌+◌, List, [], ◌∷◌, Option, Some, None}

-- what stands in the cells of the numbers from n on: each number whose cell holds something, with
-- that
abbrev pub entries_from : {V : Type 0} → ℕ → List (Option V) → List (ℕ × V)
entries_from n [] = []
entries_from n (None ∷ cells) = entries_from (n + 1) cells
entries_from n (Some v ∷ cells) = (n, v) ∷ entries_from (n + 1) cells
