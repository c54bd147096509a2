-- What there is of the numbers from one on, one after another.
use Rattle.std.proofs.Common.{◌≡◌, ℕ, zero, suc, ◌+◌, List, [], ◌∷◌, ◌++◌, ap, ◌∙◌, append-nil}
use Rattle.std.proofs.Common.{arith}
use Rattle.std.specs.Prelude.{flat_map}
use Rattle.std.specs.List.{range_with_len}
use Rattle.std.proofs.lemmas.Grind.{flat_map-append}

-- the numbers with one more
numbers_more : (a n j : ℕ) → a + n ≡ j → range_with_len a (suc n) ≡ range_with_len a n ++ j ∷ []
numbers_more a zero j is = ap (λ (k : ℕ). k ∷ []) (omega (arith, is))
numbers_more a (suc n) j is =
    ap (λ (ks : List ℕ). a ∷ ks) (numbers_more (a + 1) n j (omega (arith, is)))

-- what there is with one number more
pub one_more : {A : Type 0} (f : ℕ → List A) (a n : ℕ)
    → flat_map f (range_with_len a (n + 1)) ≡ flat_map f (range_with_len a n) ++ f (a + n)
one_more {A} f a n =
    let more : n + 1 ≡ suc n = omega arith in
    ap (λ (k : ℕ). flat_map f (range_with_len a k)) more
    ∙ ap (flat_map f) (numbers_more a n (a + n) (omega arith))
    ∙ flat_map-append f (range_with_len a n) ((a + n) ∷ [])
    ∙ ap (λ (xs : List A). flat_map f (range_with_len a n) ++ xs) (append-nil (f (a + n)))
