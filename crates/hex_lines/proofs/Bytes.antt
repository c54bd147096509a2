-- Where a byte stands in a text, and where it doesn't.
use Rattle.std.proofs.Common.{◌≡◌, ℕ, zero, suc, ◌-◌, ◌<◌, List, [], ◌∷◌, ◌++◌, length, take, drop}
use Rattle.std.proofs.Common.{get_or, Bool, true, false, not, eqb, filter, refl, ap, arith}
use Rattle.std.proofs.lemmas.Bool.{eqb-true}
use Rattle.std.proofs.lemmas.List.{take_all}
use Rattle.std.specs.List.{list_all}
use Rattle.memchr.specs.Find.{Nowhere, NoneBefore, Passes, is_byte}

not_it : (b : Bool) → (b ≡ true → ⊥) → not b ≡ true
not_it true h = absurd (h refl)
not_it false h = refl

-- a byte that stands nowhere: each byte is another
pub absent : (a : ℕ) (xs : List ℕ) → Nowhere (Passes (is_byte a) xs) 0 (length xs)
    → list_all (λ b. not (eqb b a)) xs ≡ true
absent a [] h = refl
absent a (x ∷ xs) h =
    let first = not_it (eqb x a) (h 0 (omega arith) (omega arith)) in
    let others = absent a xs (λ k low high. h (suc k) (omega arith) (omega arith)) in
    rw (first, others) refl

-- so it does before the first place where it stands
pub absent_before : (a : ℕ) (xs : List ℕ) (k : ℕ) → Nowhere (Passes (is_byte a) xs) 0 k
    → list_all (λ b. not (eqb b a)) (take k xs) ≡ true
absent_before a [] zero h = refl
absent_before a [] (suc k) h = refl
absent_before a (x ∷ xs) zero h = refl
absent_before a (x ∷ xs) (suc k) h =
    let first = not_it (eqb x a) (h 0 (omega arith) (omega arith)) in
    let others = absent_before a xs k (λ j low high. h (suc j) (omega arith) (omega arith)) in
    rw (first, others) refl

-- nothing is dropped where it is absent
pub filter_absent : (a : ℕ) (xs : List ℕ) → Nowhere (Passes (is_byte a) xs) 0 (length xs)
    → filter (λ b. not (eqb b a)) xs ≡ xs
filter_absent a [] h = refl
filter_absent a (x ∷ xs) h =
    let first = not_it (eqb x a) (h 0 (omega arith) (omega arith)) in
    let others = filter_absent a xs (λ k low high. h (suc k) (omega arith) (omega arith)) in
    rw first (ap (λ (l : List ℕ). x ∷ l) others)

-- the first place where it stands: the bytes before it, and those from it on
pub record Found (a : ℕ) (xs : List ℕ) (k : ℕ) : Type 0 where
  pub within : k < length xs
  pub before : list_all (λ b. not (eqb b a)) (take k xs) ≡ true
  pub parts : xs ≡ (take k xs ++ a ∷ []) ++ drop (suc k) xs

found_parts : (a : ℕ) (xs : List ℕ) (k : ℕ) → k < length xs → get_or xs k 0 ≡ a
    → xs ≡ (take k xs ++ a ∷ []) ++ drop (suc k) xs
found_parts a [] k within is = absurd (omega arith)
found_parts a (x ∷ xs) zero within is = ap (λ (b : ℕ). b ∷ xs) is
found_parts a (x ∷ xs) (suc k) within is =
    ap (λ (l : List ℕ). x ∷ l) (found_parts a xs k (omega arith) is)

pub found : (a : ℕ) (xs : List ℕ) (k : ℕ)
    → NoneBefore (Passes (is_byte a) xs) 0 (length xs) k × Passes (is_byte a) xs k → Found a xs k
found a xs k h = record {
  within = h.0.high;
  before = absent_before a xs k h.0.before;
  parts = found_parts a xs k h.0.high (eqb-true _ _ h.1);
}

-- what stands behind the byte at a place
pub behind_byte : (xs : List ℕ) (k : ℕ) → k < length xs
    → take (length (drop k xs) - 1) (drop 1 (drop k xs)) ≡ drop (suc k) xs
behind_byte [] k within = absurd (omega arith)
behind_byte (x ∷ xs) zero within = take_all (length (x ∷ xs) - 1) xs (omega arith)
behind_byte (x ∷ xs) (suc k) within = behind_byte xs k (omega arith)
