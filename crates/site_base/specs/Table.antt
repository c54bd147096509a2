-- Tables whose rows are found by a number: by the number itself, or by a key that has one.
use Rattle.std.specs.Prelude.{◌≡◌, ℕ, ◌<◌, List, [], ◌∷◌, length, Option, Some, None, ◌==◌}
use Rattle.std.specs.Prelude.{if◌then◌else◌, slice_index_or, slice_set}

-- the row of a key: the first whose key has its number
abbrev pub row_by : {K V : Type 0} → (K → ℕ) → K → List (K × V) → Option V
row_by number key [] = None
row_by number key (e ∷ es) = if number e.0 == number key then Some e.1 else row_by number key es

-- the table with v as the row of a key, if the key has one
abbrev pub with_row_by : {K V : Type 0} → (K → ℕ) → K → V → List (K × V) → List (K × V)
with_row_by number key v [] = []
with_row_by number key v (e ∷ es) =
    if number e.0 == number key then (e.0, v) ∷ es else e ∷ with_row_by number key v es

-- the row of number p
abbrev pub row_of : {V : Type 0} → ℕ → List (ℕ × V) → Option V
row_of p es = row_by (λ n. n) p es

-- the table with v as the row of number p, if p has one
abbrev pub with_row : {V : Type 0} → ℕ → V → List (ℕ × V) → List (ℕ × V)
with_row p v es = with_row_by (λ n. n) p v es

-- the row of a key stands at i, and a write there replaces it
pub record IsPlace {K V : Type 0} (number : K → ℕ) (key : K) (es : List (K × V)) (i : ℕ) : Type 0
  where
    pub within : i < length es
    pub same : (d : K × V) → number (slice_index_or es i d).0 ≡ number key
    pub row : (d : K × V) → row_by number key es ≡ Some (slice_index_or es i d).1
    pub write : (v : V) (d : K × V)
        → with_row_by number key v es ≡ slice_set es i ((slice_index_or es i d).0, v)
