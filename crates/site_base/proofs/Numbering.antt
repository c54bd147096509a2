-- Members that are found by their numbers, the first one having 1.
use Rattle.std.proofs.Common.{◌≡◌, ◌≢◌, ℕ, zero, suc, ◌+◌, ◌-◌, ◌<◌, ◌≤◌, true, false, List, []}
use Rattle.std.proofs.Common.{◌∷◌, ◌++◌, length, length-set, get_or, map, option_map, Some, None}
use Rattle.std.proofs.Common.{is_some, ◌==◌, refl, sym, ap, ◌∙◌, arith}
use Rattle.std.proofs.lemmas.List.{set-get_or}
use Rattle.std.proofs.lemmas.Option.{get_or_from_slice_get}
use Rattle.std.specs.List.{slice_get}
use Rattle.std.proofs.Math.ListN.{set}
use Rattle.std.proofs.lemmas.Bool.Decides.{nat_tests}
use Rattle.site_base.specs.Members.{member, with_numbered}

slice_get-within : {A : Type 0} (xs : List A) (i : ℕ) (d : A) → i < length xs
    → slice_get xs i ≡ Some (get_or xs i d)
slice_get-within [] i d within = absurd (omega arith)
slice_get-within (x ∷ xs) zero d within = refl
slice_get-within (x ∷ xs) (suc i) d within = slice_get-within xs i d (omega arith)

slice_get-there : {A : Type 0} (xs : List A) (i : ℕ) → is_some (slice_get xs i) ≡ true
    → i < length xs
slice_get-there [] i there = cc
slice_get-there (x ∷ xs) zero there = omega arith
slice_get-there (x ∷ xs) (suc i) there = let later : i < length xs =
    slice_get-there xs i there in omega arith

-- a number from 1 on is that of the place before it
pub numbered_place : {A : Type 0} (n : ℕ) (xs : List A) → 1 ≤ n
    → member n xs ≡ slice_get xs (n - 1)
numbered_place n xs low = let apart : (n == 0) ≡ false = grind (arith, nat_tests) in rw apart refl

pub with_numbered_place : {A : Type 0} (n : ℕ) (y : A) (xs : List A) → 1 ≤ n
    → with_numbered n y xs ≡ set xs (n - 1) y
with_numbered_place n y xs low = let apart : (n == 0) ≡ false =
    grind (arith, nat_tests) in rw apart refl

-- the member at i has the number i + 1
pub numbered_within : {A : Type 0} (n : ℕ) (xs : List A) (i : ℕ) (d : A) → i + 1 ≡ n → i < length xs
    → member n xs ≡ Some (get_or xs i d)
numbered_within n xs i d place within =
    let back : n - 1 ≡ i = omega arith in
    numbered_place n xs (omega arith) ∙ ap (slice_get xs) back ∙ slice_get-within xs i d within

-- where a number has a member, the place before it is in the list
pub numbered_there : {A : Type 0} (n : ℕ) (xs : List A) → 1 ≤ n → is_some (member n xs) ≡ true
    → n - 1 < length xs
numbered_there n xs low there =
    slice_get-there xs (n - 1) (ap is_some (sym (numbered_place n xs low)) ∙ there)

slice_get-set_same : {A : Type 0} (xs : List A) (i : ℕ) (x y : A) → slice_get xs i ≡ Some x
    → slice_get (set xs i y) i ≡ Some y
slice_get-set_same [] i x y is = cc
slice_get-set_same (z ∷ zs) zero x y is = refl
slice_get-set_same (z ∷ zs) (suc i) x y is = slice_get-set_same zs i x y is

slice_get-set_other : {A : Type 0} (xs : List A) (i j : ℕ) (y : A) → j ≢ i
    → slice_get (set xs i y) j ≡ slice_get xs j
slice_get-set_other [] i j y other = refl
slice_get-set_other (z ∷ zs) zero zero y other = absurd (other refl)
slice_get-set_other (z ∷ zs) zero (suc j) y other = refl
slice_get-set_other (z ∷ zs) (suc i) zero y other = refl
slice_get-set_other (z ∷ zs) (suc i) (suc j) y other = slice_get-set_other zs i j y (omega arith)

slice_get-push_here : {A : Type 0} (xs : List A) (y : A)
    → slice_get (xs ++ y ∷ []) (length xs) ≡ Some y
slice_get-push_here [] y = refl
slice_get-push_here (x ∷ xs) y = slice_get-push_here xs y

slice_get-push_other : {A : Type 0} (xs : List A) (y : A) (i : ℕ) → i ≢ length xs
    → slice_get (xs ++ y ∷ []) i ≡ slice_get xs i
slice_get-push_other [] y zero other = absurd (other refl)
slice_get-push_other [] y (suc i) other = refl
slice_get-push_other (x ∷ xs) y zero other = refl
slice_get-push_other (x ∷ xs) y (suc i) other = slice_get-push_other xs y i (omega arith)

slice_get-map : {A B : Type 0} (f : A → B) (xs : List A) (i : ℕ)
    → slice_get (map f xs) i ≡ option_map f (slice_get xs i)
slice_get-map f [] i = refl
slice_get-map f (x ∷ xs) zero = refl
slice_get-map f (x ∷ xs) (suc i) = slice_get-map f xs i

-- the number 0 has no member
numbered_from_one : {A : Type 0} (n : ℕ) (xs : List A) (x : A) → member n xs ≡ Some x → 1 ≤ n
numbered_from_one zero xs x is = cc
numbered_from_one (suc n) xs x is = omega arith

-- the member that was written
pub numbered_with_same : {A : Type 0} (n : ℕ) (xs : List A) (x y : A) → member n xs ≡ Some x
    → member n (with_numbered n y xs) ≡ Some y
numbered_with_same n xs x y is =
    let low : 1 ≤ n = numbered_from_one n xs x is in
    ap (member n) (with_numbered_place n y xs low) ∙ numbered_place n (set xs (n - 1) y) low
    ∙ slice_get-set_same xs (n - 1) x y (sym (numbered_place n xs low) ∙ is)

-- a member that wasn't
pub numbered_with_other : {A : Type 0} (n m : ℕ) (xs : List A) (y : A) → m ≢ n
    → member m (with_numbered n y xs) ≡ member m xs
numbered_with_other zero m xs y other = refl
numbered_with_other (suc n) zero xs y other = refl
numbered_with_other (suc n) (suc m) xs y other =
    ap (member (suc m)) (with_numbered_place (suc n) y xs (omega arith))
    ∙ numbered_place (suc m) (set xs (suc n - 1) y) (omega arith)
    ∙ slice_get-set_other xs (suc n - 1) (suc m - 1) y (omega arith)
    ∙ sym (numbered_place (suc m) xs (omega arith))

-- the member that was added at the end
pub numbered_push_here : {A : Type 0} (xs : List A) (y : A)
    → member (length xs + 1) (xs ++ y ∷ []) ≡ Some y
numbered_push_here xs y =
    let place : length xs + 1 - 1 ≡ length xs = omega arith in
    numbered_place (length xs + 1) (xs ++ y ∷ []) (omega arith)
    ∙ ap (slice_get (xs ++ y ∷ [])) place ∙ slice_get-push_here xs y

-- a member that wasn't
pub numbered_push_other : {A : Type 0} (m : ℕ) (xs : List A) (y : A) → m ≢ length xs + 1
    → member m (xs ++ y ∷ []) ≡ member m xs
numbered_push_other zero xs y other = refl
numbered_push_other (suc m) xs y other =
    numbered_place (suc m) (xs ++ y ∷ []) (omega arith)
    ∙ slice_get-push_other xs y (suc m - 1) (omega arith)
    ∙ sym (numbered_place (suc m) xs (omega arith))

-- a member of the list whose members are all changed
pub numbered_map : {A B : Type 0} (f : A → B) (n : ℕ) (xs : List A)
    → member n (map f xs) ≡ option_map f (member n xs)
numbered_map f zero xs = refl
numbered_map f (suc n) xs =
    numbered_place (suc n) (map f xs) (omega arith) ∙ slice_get-map f xs (suc n - 1)
    ∙ ap (option_map f) (sym (numbered_place (suc n) xs (omega arith)))

-- a member written in its own place
pub with_numbered_same : {A : Type 0} (n : ℕ) (xs : List A) (x : A) → member n xs ≡ Some x
    → with_numbered n x xs ≡ xs
with_numbered_same n xs x is =
    let low : 1 ≤ n = numbered_from_one n xs x is in
    let at : get_or xs (n - 1) x ≡ x =
    get_or_from_slice_get xs (n - 1) x x (sym (numbered_place n xs low) ∙ is) in
    with_numbered_place n x xs low ∙ ap (set xs (n - 1)) (sym at) ∙ set-get_or xs (n - 1) x

pub length-with_numbered : {A : Type 0} (n : ℕ) (y : A) (xs : List A)
    → length (with_numbered n y xs) ≡ length xs
length-with_numbered zero y xs = refl
length-with_numbered (suc n) y xs = ap length (with_numbered_place (suc n) y xs (omega arith))
    ∙ length-set xs (suc n - 1) y

slice_get-end : {A : Type 0} (xs : List A) → slice_get xs (length xs) ≡ None
slice_get-end [] = refl
slice_get-end (x ∷ xs) = slice_get-end xs

-- the number behind the last has no member
pub numbered_next : {A : Type 0} (xs : List A) → member (length xs + 1) xs ≡ None
numbered_next xs =
    let place : length xs + 1 - 1 ≡ length xs = omega arith in
    numbered_place (length xs + 1) xs (omega arith) ∙ ap (slice_get xs) place ∙ slice_get-end xs
