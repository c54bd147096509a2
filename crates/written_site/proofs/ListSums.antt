-- What lists add up to.
use Rattle.std.proofs.Common.{◌≡◌, ℕ, ◌+◌, List, [], ◌∷◌, map, refl, arith}
use Rattle.written_site.specs.RowWords.{total}

pub total_zero : {A : Type 0} (xs : List A) → total (λ (x : A). 0) xs ≡ 0
total_zero [] = refl
total_zero (x ∷ xs) = let rest = total_zero xs in omega (arith, rest)

pub total_same : {A : Type 0} (f g : A → ℕ) (xs : List A) → ((x : A) → f x ≡ g x)
    → total f xs ≡ total g xs
total_same f g [] same = refl
total_same f g (x ∷ xs) same =
    let rest = total_same f g xs same in let here = same x in omega (arith, rest, here)

pub total_both : {A : Type 0} (f g : A → ℕ) (xs : List A)
    → total (λ x. f x + g x) xs ≡ total f xs + total g xs
total_both f g [] = refl
total_both f g (x ∷ xs) = let rest = total_both f g xs in omega (arith, rest)

pub total_map : {A B : Type 0} (f : B → ℕ) (g : A → B) (xs : List A)
    → total f (map g xs) ≡ total (λ x. f (g x)) xs
total_map f g [] = refl
total_map f g (x ∷ xs) = let rest = total_map f g xs in omega (arith, rest)

-- line by line, or column by column
pub total_swapped : {A B : Type 0} (f : A → B → ℕ) (xs : List A) (ys : List B)
    → total (λ x. total (f x) ys) xs ≡ total (λ y. total (λ x. f x y) xs) ys
total_swapped {A} {B} f [] ys = let none = total_zero ys in omega (arith, none)
total_swapped {A} {B} f (x ∷ xs) ys =
    let rest = total_swapped f xs ys in
    let here = total_both (f x) (λ (y : B). total (λ x. f x y) xs) ys in
    omega (arith, rest, here)
