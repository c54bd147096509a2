-- What is made of pairs, one after another.
use Rattle.std.proofs.Common.{◌≡◌, ℕ, zero, suc, ◌≤◌, List, [], ◌∷◌, ◌++◌, drop, length, min}
use Rattle.std.proofs.Common.{sym, ap, ◌∙◌, append-nil, arith}

-- where nothing is made without a first or a second, nothing is left after the last pair
pub none_left : {X Y A : Type 0} (made : List X → List Y → List A)
    → ((ys : List Y) → made [] ys ≡ []) → ((xs : List X) → made xs [] ≡ [])
    → (xs : List X) (ys : List Y) (i : ℕ)
    → min (length xs) (length ys) ≤ i → made (drop i xs) (drop i ys) ≡ []
none_left made first second [] ys zero h = first ys
none_left made first second [] ys (suc i) h = first (drop (suc i) ys)
none_left made first second (x ∷ xs) [] zero h = second (x ∷ xs)
none_left made first second (x ∷ xs) [] (suc i) h = second (drop i xs)
none_left made first second (x ∷ xs) (y ∷ ys) zero h = absurd (omega (arith, h))
none_left made first second (x ∷ xs) (y ∷ ys) (suc i) h =
    none_left made first second xs ys i (omega (arith, h))

-- so what is there is all
pub all_there : {A : Type 0} (there rest all : List A) → there ++ rest ≡ all → rest ≡ []
    → there ≡ all
all_there {A} there rest all is none =
    sym (append-nil there) ∙ sym (ap (λ (x : List A). there ++ x) none) ∙ is
