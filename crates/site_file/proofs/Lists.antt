-- Lists of which no two members are alike.
use Rattle.std.proofs.Common.{◌≡◌, ℕ, ◌+◌, Bool, true, false, not, ◌||◌, List, [], ◌∷◌, ◌++◌}
use Rattle.std.proofs.Common.{length, nat_eq, refl, inl, inr, arith}
use Rattle.std.proofs.lemmas.Bool.{cases_Bool, and_parts}
use Rattle.std.proofs.lemmas.Bool.Decides.{nat_tests}
use Rattle.std.specs.List.{list_any, list_all}
use Rattle.site_base.specs.Configured.{none_alike}

pub any-push : {A : Type 0} (test : A → Bool) (xs : List A) (y : A)
    → list_any test (xs ++ y ∷ []) ≡ (list_any test xs || test y)
any-push test [] y = grind arith
any-push test (x ∷ xs) y =
    elim (cases_Bool (test x)) [
      | inl is ↦ rw is refl
      | inr is ↦ rw is (any-push test xs y)
    ]

pub all-push : {A : Type 0} (test : A → Bool) (xs : List A) (y : A) → list_all test xs ≡ true
    → test y ≡ true → list_all test (xs ++ y ∷ []) ≡ true
all-push test [] y all here = rw here refl
all-push test (x ∷ xs) y all here =
    let (first, rest) = and_parts (test x) (list_all test xs) all in
    rw (first, all-push test xs y rest here)

pub any_parts : (a b : Bool) → (a || b) ≡ false → (a ≡ false) × (b ≡ false)
any_parts true b is = cc
any_parts false b is = (refl, is)

pub not_false : (b : Bool) → not b ≡ true → b ≡ false
not_false true is = cc
not_false false is = refl

pub alike-push : {A : Type 0} (alike : A → A → Bool) (xs : List A) (y : A)
    → none_alike alike xs ≡ true
    → list_any (λ x. alike x y) xs ≡ false → none_alike alike (xs ++ y ∷ []) ≡ true
alike-push alike [] y none new = refl
alike-push alike (x ∷ xs) y none new =
    let (first, rest) = and_parts (not (list_any (λ z. alike x z) xs)) (none_alike alike xs) none in
    let (here, there) = any_parts (alike x y) (list_any (λ z. alike z y) xs) new in
    let apart : list_any (λ z. alike x z) (xs ++ y ∷ []) ≡ false =
    rw (any-push (λ z. alike x z) xs y, not_false _ first, here) refl in
    rw (apart, alike-push alike xs y rest there)

pub any_or : {A : Type 0} (f g : A → Bool) (xs : List A) → list_any f xs ≡ false
    → list_any g xs ≡ false → list_any (λ x. f x || g x) xs ≡ false
any_or f g [] a b = refl
any_or f g (x ∷ xs) a b =
    let (fx, fs) = any_parts (f x) (list_any f xs) a in
    let (gx, gs) = any_parts (g x) (list_any g xs) b in
    rw (fx, gx, any_or f g xs fs gs)

pub any_turned : (n : ℕ) (ns : List ℕ) → list_any (nat_eq n) ns ≡ false
    → list_any (λ m. nat_eq m n) ns ≡ false
any_turned n [] is = refl
any_turned n (m ∷ ns) is =
    let (here, rest) = any_parts (nat_eq n m) (list_any (nat_eq n) ns) is in
    let turned : nat_eq m n ≡ false = grind (arith, nat_tests) in
    rw (turned, any_turned n ns rest)

pub length-push : {A : Type 0} (xs : List A) (y : A) → length (xs ++ y ∷ []) ≡ length xs + 1
length-push [] y = refl
length-push (x ∷ xs) y = grind (arith, length-push xs y)

-- ---- a member between others

any-middle : {A : Type 0} (test : A → Bool) (xs ys : List A) (y : A)
    → list_any test (xs ++ y ∷ ys) ≡ false → test y ≡ false
any-middle test [] ys y none = (any_parts (test y) (list_any test ys) none).0
any-middle test (x ∷ xs) ys y none =
    any-middle test xs ys y (any_parts (test x) (list_any test (xs ++ y ∷ ys)) none).1

-- a member isn't like one before it
pub alike-middle : {A : Type 0} (alike : A → A → Bool) (xs ys : List A) (y : A)
    → none_alike alike (xs ++ y ∷ ys) ≡ true → list_any (λ x. alike x y) xs ≡ false
alike-middle alike [] ys y none = refl
alike-middle alike (x ∷ xs) ys y none =
    let (first, rest) = and_parts (not (list_any (λ z. alike x z) (xs ++ y ∷ ys))) _ none in
    let unlike = any-middle (λ z. alike x z) xs ys y (not_false _ first) in
    rw (unlike, alike-middle alike xs ys y rest) refl

pub neither : {A : Type 0} (f g : A → Bool) (xs : List A) → list_any (λ x. f x || g x) xs ≡ false
    → (list_any f xs ≡ false) × (list_any g xs ≡ false)
neither f g [] none = (refl, refl)
neither f g (x ∷ xs) none =
    let (here, rest) = any_parts (f x || g x) (list_any (λ y. f y || g y) xs) none in
    let (fx, gx) = any_parts (f x) (g x) here in
    let (fs, gs) = neither f g xs rest in
    (rw (fx, fs) refl, rw (gx, gs) refl)

pub any_turned_back : (n : ℕ) (ns : List ℕ) → list_any (λ m. nat_eq m n) ns ≡ false
    → list_any (nat_eq n) ns ≡ false
any_turned_back n [] is = refl
any_turned_back n (m ∷ ns) is =
    let (here, rest) = any_parts (nat_eq m n) (list_any (λ k. nat_eq k n) ns) is in
    let turned : nat_eq n m ≡ false = grind (arith, nat_tests) in
    rw (turned, any_turned_back n ns rest)
