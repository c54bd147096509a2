-- What is looked up of a nozzle, where it stands, and what a change of one nozzle leaves.
use Rattle.std.proofs.Common.{◌≡◌, ℕ, zero, suc, ◌+◌, ◌<◌, true, false, Bool, List, [], ◌∷◌, length}
use Rattle.std.proofs.Common.{get_or, Option, Some, None, option_map, is_some, unwrap_or, IfSome}
use Rattle.std.proofs.Common.{◌&&◌, ◌==◌, arith, refl, sym, ap, subst, ◌∙◌}
use Rattle.std.proofs.Math.ListN.{set}
use Rattle.std.proofs.lemmas.Bool.{false≢true}
use Rattle.std.proofs.lemmas.Grind.{common_steps}
use Rattle.meters.specs.Nozzles.{Nozzle, is_nozzle, nozzle_of, has_nozzle, last_of, reading_of}
use Rattle.meters.specs.Nozzles.{times_replaced, with_nozzle, read_at, replaced_at}
use Rattle.meters.specs.Places.{place_in, IsPlace}

-- ---- a nozzle of which something is told

-- there is a nozzle, and this is told of it
pub record IsTold (o : Option Nozzle) (tells : Nozzle → ℕ) (v : ℕ) : Type 0 where
  pub nozzle : Nozzle
  pub is : o ≡ Some nozzle
  pub told : tells nozzle ≡ v

pub told : (o : Option Nozzle) (tells : Nozzle → ℕ) (v : ℕ) → option_map tells o ≡ Some v
    → IsTold o tells v
told None tells v is = absurd cc
told (Some x) tells v is = record {
  nozzle = x;
  is = refl;
  told = (let same : Some (tells x) ≡ Some v = is in cc);
}

-- the nozzle that is there
pub record IsThere (o : Option Nozzle) : Type 0 where
  pub nozzle : Nozzle
  pub is : o ≡ Some nozzle

pub there : (o : Option Nozzle) → is_some o ≡ true → IsThere o
there None is = absurd (false≢true is)
there (Some x) is = record { nozzle = x; is = refl }

-- ---- where it stands

-- a nozzle's place, and what a write there changes
pub record StandsAt (p n : ℕ) (xs : List Nozzle) (i : ℕ) : Type 0 where
  pub within : i < length xs
  pub nozzle : (d : Nozzle) → nozzle_of p n xs ≡ Some (get_or xs i d)
  pub write : (change : Nozzle → Nozzle) (d : Nozzle)
      → with_nozzle p n change xs ≡ set xs i (change (get_or xs i d))

here_is : (x : Nozzle) (xs : List Nozzle) (p n : ℕ) → is_nozzle p n x ≡ true
    → StandsAt p n (x ∷ xs) 0
here_is x xs p n is = record {
  within = omega arith;
  nozzle = λ d. rw is refl;
  write = λ change d. rw is refl;
}

later_is : (x : Nozzle) (xs : List Nozzle) (p n i : ℕ) → is_nozzle p n x ≡ false
    → StandsAt p n xs i → StandsAt p n (x ∷ xs) (suc i)
later_is x xs p n i is behind = record {
  within = let within : i < length xs = behind.within in omega arith;
  nozzle = λ d. rw is (behind.nozzle d);
  write = λ change d. rw is (ap (λ ys. x ∷ ys) (behind.write change d));
}

-- a place that was one further on
one_further : (o : Option ℕ) (i : ℕ) → option_map (λ j. j + 1) o ≡ Some i → (i ≡ 0 → ⊥)
    × ((j : ℕ) → i ≡ suc j → o ≡ Some j)
one_further None i is = absurd cc
one_further (Some k) i is =
    let same : k + 1 ≡ i = (let both : Some (k + 1) ≡ Some i = is in cc) in
    (λ none. omega arith, λ j next. ap (λ x. Some x) (omega arith))

pub stands : (p n : ℕ) (xs : List Nozzle) (i : ℕ) → place_in p n xs ≡ Some i → StandsAt p n xs i
stands p n [] i is = absurd cc
stands p n (x ∷ xs) i is = by_test (is_nozzle p n x) refl i is (stands p n xs)
  where
    by_test : (b : Bool) → is_nozzle p n x ≡ b → (i : ℕ) → place_in p n (x ∷ xs) ≡ Some i
        → ((i : ℕ) → place_in p n xs ≡ Some i → StandsAt p n xs i) → StandsAt p n (x ∷ xs) i
    by_test true at i is behind =
        let first : place_in p n (x ∷ xs) ≡ Some 0 = rw at refl in
        let same : 0 ≡ i = (let both : Some 0 ≡ Some i = sym first ∙ is in cc) in
        subst (StandsAt p n (x ∷ xs)) same (here_is x xs p n at)
    by_test false at zero is behind =
        let later : place_in p n (x ∷ xs) ≡ option_map (λ j. j + 1) (place_in p n xs) =
        rw at refl in
        absurd ((one_further (place_in p n xs) 0 (sym later ∙ is)).0 refl)
    by_test false at (suc i) is behind =
        let later : place_in p n (x ∷ xs) ≡ option_map (λ j. j + 1) (place_in p n xs) =
        rw at refl in
        later_is x xs p n i at (behind i
        ((one_further (place_in p n xs) (suc i) (sym later ∙ is)).1 i refl))

-- so what is told of the nozzle is told of what stands there
pub is_place : (p n : ℕ) (xs : List Nozzle) (o : Option ℕ) → o ≡ place_in p n xs
    → IfSome o (IsPlace p n xs)
is_place p n xs None is = tt
is_place p n xs (Some i) is =
    let at : StandsAt p n xs i = stands p n xs i (sym is) in
    record {
      within = at.within;
      nozzle = at.nozzle;
      product = λ d. ap (option_map (λ (x : Nozzle). x.product)) (at.nozzle d);
      last = λ d. ap (option_map (λ (x : Nozzle). x.last)) (at.nozzle d);
      replaced = λ d. ap (option_map (λ (x : Nozzle). x.replaced)) (at.nozzle d);
      reads = λ reading d. at.write (read_at reading) d;
      replaces = λ reading d. at.write (replaced_at reading) d;
    }

-- without a place there is no nozzle
pub nowhere : (p n : ℕ) (xs : List Nozzle) → place_in p n xs ≡ None → nozzle_of p n xs ≡ None
nowhere p n [] is = refl
nowhere p n (x ∷ xs) is = by_test (is_nozzle p n x) refl (nowhere p n xs)
  where
    none : (o : Option ℕ) → option_map (λ j. j + 1) o ≡ None → o ≡ None
    none None is = refl
    none (Some i) is = absurd cc

    by_test : (b : Bool) → is_nozzle p n x ≡ b
        → (place_in p n xs ≡ None → nozzle_of p n xs ≡ None) → nozzle_of p n (x ∷ xs) ≡ None
    by_test true at behind =
        let first : place_in p n (x ∷ xs) ≡ Some 0 = rw at refl in absurd cc
    by_test false at behind =
        let later : place_in p n (x ∷ xs) ≡ option_map (λ j. j + 1) (place_in p n xs) =
        rw at refl in
        rw at (behind (none (place_in p n xs) (sym later ∙ is)))

pub is_there : (p n : ℕ) (xs : List Nozzle) (o : Option ℕ) → o ≡ place_in p n xs
    → is_some o ≡ has_nozzle p n xs
is_there p n xs None is = ap (λ (x : Option Nozzle). is_some x) (sym (nowhere p n xs (sym is)))
is_there p n xs (Some i) is = by_nozzle (nozzle_of p n xs) (stands p n xs i (sym is)).nozzle
  where
    nothing : ℕ → Nozzle
    nothing k = record {
      point = k;
      number = k;
      product = k;
      began = k;
      last = k;
      replaced = k;
      earlier = k;
    }

    none_there : (x : Nozzle) → None ≡ Some x → ⊥
    none_there x is = cc

    by_nozzle : (x : Option Nozzle) → ((d : Nozzle) → x ≡ Some (get_or xs i d)) → true ≡ is_some x
    by_nozzle None at = absurd (none_there _ (at (nothing p)))
    by_nozzle (Some x) at = refl

-- ---- a change of one nozzle

-- a change that leaves a nozzle the nozzle that it is
pub record KeepsName (change : Nozzle → Nozzle) : Type 0 where
  pub point : (x : Nozzle) → (change x).point ≡ x.point
  pub number : (x : Nozzle) → (change x).number ≡ x.number

same_name : (change : Nozzle → Nozzle) (q m : ℕ) (x : Nozzle) → KeepsName change
    → is_nozzle q m (change x) ≡ is_nozzle q m x
same_name change q m x keeps =
    ap (λ (y : ℕ). y == q && (change x).number == m) (keeps.point x)
    ∙ ap (λ (y : ℕ). x.point == q && y == m) (keeps.number x)

-- every nozzle stands where it stood
pub place_in-with_nozzle : (p n q m : ℕ) (change : Nozzle → Nozzle) (xs : List Nozzle)
    → KeepsName change → place_in q m (with_nozzle p n change xs) ≡ place_in q m xs
place_in-with_nozzle p n q m change [] keeps = refl
place_in-with_nozzle p n q m change (x ∷ xs) keeps =
    by_test (is_nozzle p n x) refl (place_in-with_nozzle p n q m change xs keeps)
  where
    by_test : (b : Bool) → is_nozzle p n x ≡ b
        → place_in q m (with_nozzle p n change xs) ≡ place_in q m xs
        → place_in q m (with_nozzle p n change (x ∷ xs)) ≡ place_in q m (x ∷ xs)
    by_test true is rest = rw (is, same_name change q m x keeps) refl
    by_test false is rest = rw (is, rest) refl

pub length-with_nozzle : (p n : ℕ) (change : Nozzle → Nozzle) (xs : List Nozzle)
    → length (with_nozzle p n change xs) ≡ length xs
length-with_nozzle p n change [] = refl
length-with_nozzle p n change (x ∷ xs) =
    by_test (is_nozzle p n x) refl (length-with_nozzle p n change xs)
  where
    by_test : (b : Bool) → is_nozzle p n x ≡ b → length (with_nozzle p n change xs) ≡ length xs
        → length (with_nozzle p n change (x ∷ xs)) ≡ length (x ∷ xs)
    by_test true is rest = rw is refl
    by_test false is rest = rw is (ap suc rest)

-- the nozzle that was changed
pub nozzle_of-here : (p n : ℕ) (change : Nozzle → Nozzle) (xs : List Nozzle) → KeepsName change
    → nozzle_of p n (with_nozzle p n change xs) ≡ option_map change (nozzle_of p n xs)
nozzle_of-here p n change [] keeps = refl
nozzle_of-here p n change (x ∷ xs) keeps =
    by_test (is_nozzle p n x) refl (nozzle_of-here p n change xs keeps)
  where
    by_test : (b : Bool) → is_nozzle p n x ≡ b
        → nozzle_of p n (with_nozzle p n change xs) ≡ option_map change (nozzle_of p n xs)
        → nozzle_of p n (with_nozzle p n change (x ∷ xs))
        ≡ option_map change (nozzle_of p n (x ∷ xs))
    by_test true is rest = rw (is, same_name change p n x keeps, is) refl
    by_test false is rest = rw (is, is) rest

-- a nozzle isn't two
one_of : (p n q m : ℕ) (x : Nozzle) → (p == q && n == m) ≡ false → is_nozzle p n x ≡ true
    → is_nozzle q m x ≡ false
one_of p n q m x other is = grind (arith, common_steps)

-- a nozzle that wasn't
pub nozzle_of-other : (p n q m : ℕ) (change : Nozzle → Nozzle) (xs : List Nozzle)
    → (p == q && n == m) ≡ false → KeepsName change
    → nozzle_of q m (with_nozzle p n change xs) ≡ nozzle_of q m xs
nozzle_of-other p n q m change [] other keeps = refl
nozzle_of-other p n q m change (x ∷ xs) other keeps =
    by_test (is_nozzle p n x) refl (nozzle_of-other p n q m change xs other keeps)
  where
    by_test : (b : Bool) → is_nozzle p n x ≡ b
        → nozzle_of q m (with_nozzle p n change xs) ≡ nozzle_of q m xs
        → nozzle_of q m (with_nozzle p n change (x ∷ xs)) ≡ nozzle_of q m (x ∷ xs)
    by_test true is rest =
        let apart : is_nozzle q m x ≡ false = one_of p n q m x other is in
        rw (is, same_name change q m x keeps, apart) refl
    by_test false is rest = rw (is, rest) refl

-- the last reading of a nozzle that is there
pub read_there : (p n : ℕ) (xs : List Nozzle) → has_nozzle p n xs ≡ true
    → last_of p n xs ≡ Some (reading_of p n xs)
read_there p n xs there = by_nozzle (nozzle_of p n xs) there
  where
    by_nozzle : (o : Option Nozzle) → is_some o ≡ true
        → option_map (λ x. x.last) o ≡ Some (unwrap_or (option_map (λ x. x.last) o) 0)
    by_nozzle None there = absurd (false≢true there)
    by_nozzle (Some x) there = refl

pub reading_is : (p n : ℕ) (xs : List Nozzle) (x : Nozzle) → nozzle_of p n xs ≡ Some x
    → reading_of p n xs ≡ x.last
reading_is p n xs x is = ap (λ (o : Option Nozzle). unwrap_or (option_map (λ y. y.last) o) 0) is

pub times_is : (p n : ℕ) (xs : List Nozzle) (x : Nozzle) → nozzle_of p n xs ≡ Some x
    → times_replaced p n xs ≡ x.replaced
times_is p n xs x is = ap (λ (o : Option Nozzle). unwrap_or (option_map (λ y. y.replaced) o) 0) is
