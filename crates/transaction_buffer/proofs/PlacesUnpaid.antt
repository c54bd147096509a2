-- The places of the unpaid sales after each change of a shelf.
use Rattle.std.proofs.Common.{◌≡◌, ◌≢◌, ℕ, ◌+◌, ◌<◌, ◌==◌, ◌||◌, Bool, true, false, cond}
use Rattle.std.proofs.Common.{if◌then◌else◌, List, [], ◌∷◌, ◌++◌, length, get_or, map, Option, Some}
use Rattle.std.proofs.Common.{None, inl, inr, refl, sym, ap, ◌∙◌, arith}
use Rattle.std.proofs.Math.ListN.{set}
use Rattle.std.proofs.lemmas.Bool.{cases_eq, cases_lt, false≢true}
use Rattle.std.proofs.lemmas.Bool.Decides.{nat_tests}
use Rattle.std.proofs.lemmas.Grind.{get_or-set_at}
use Rattle.std.proofs.lemmas.List.{get_or-set_other, length_push, length-set, get_or_append_left}
use Rattle.std.proofs.lemmas.List.{get_or-map, length-map}
use Rattle.transaction_buffer.specs.Sales.{Sale, is_unpaid, unpaid_among}
use Rattle.transaction_buffer.specs.UnpaidPlaces.{is_at, one_if_kept, place_with, place_kept}
use Rattle.transaction_buffer.specs.UnpaidPlaces.{place_without, AreUnpaid}
use Rattle.std.proofs.Math.Seq.{get_or-append_seam}
use Rattle.transaction_buffer.specs.TransactionTable.{unlock_all_of}
use Rattle.transaction_buffer.proofs.Unpaid.{unpaid_pushed, unpaid_let_go, unlock_unpaid}

is_same : (n m : ℕ) → n ≡ m → (n == m) ≡ true
is_same n m is = grind (arith, nat_tests)

is_apart : (n m : ℕ) → n ≢ m → (n == m) ≡ false
is_apart n m isnt = grind (arith, nat_tests)

same : (n m : ℕ) → (n == m) ≡ true → n ≡ m
same n m is = grind (arith, nat_tests)

either : (a : Bool) → (a || true) ≡ true
either true = refl
either false = refl

neither : (a : Bool) → (a || false) ≡ a
neither true = refl
neither false = refl

one_number : (i j : ℕ) → Some i ≡ Some j → i ≡ j
one_number i j is = cc

-- no sales
pub none_unpaid : AreUnpaid [] None None
none_unpaid = record {
  each = λ i d within. absurd (omega arith);
  within = λ i is. absurd (false≢true is);
  apart = λ i is also. cc;
  counted = refl;
}

-- which of the sales are unpaid, once there is one more
module _ (xs : List Sale) (y : Sale) (old new : ℕ → Bool)
    (each : (i : ℕ) (d : Sale) → i < length xs → is_unpaid (get_or xs i d).standing ≡ old i)
    (before : (i : ℕ) → i < length xs → new i ≡ old i)
    (here : new (length xs) ≡ is_unpaid y.standing) where
  each_pushed : (i : ℕ) (d : Sale) → i < length (xs ++ y ∷ [])
      → is_unpaid (get_or (xs ++ y ∷ []) i d).standing ≡ new i
  each_pushed i d within =
      let count : length (xs ++ y ∷ []) ≡ length xs + 1 = length_push xs y in
      elim (cases_lt i (length xs)) [
        | inl earlier ↦
            ap (λ (x : Sale). is_unpaid x.standing) (get_or_append_left xs (y ∷ []) d i earlier)
            ∙ each i d earlier ∙ sym (before i earlier)
        | inr last ↦
            let at : i ≡ length xs = omega (arith, count) in
            ap (λ k. is_unpaid (get_or (xs ++ y ∷ []) k d).standing) at
            ∙ ap (λ (x : Sale). is_unpaid x.standing) (get_or-append_seam xs y [] d)
            ∙ sym here ∙ ap new (sym at)
      ]

one_more_unpaid : (xs : List Sale) (y : Sale) → is_unpaid y.standing ≡ true
    → unpaid_among (xs ++ y ∷ []) ≡ unpaid_among xs + 1
one_more_unpaid xs y unpaid = unpaid_pushed xs y
    ∙ ap (λ (b : Bool). unpaid_among xs + cond b 1 0) unpaid

-- one more unpaid sale
pub places_pushed : (xs : List Sale) (y : Sale) (a b : Option ℕ) → AreUnpaid xs a b
    → is_unpaid y.standing ≡ true → unpaid_among xs < 2
    → AreUnpaid (xs ++ y ∷ []) (place_with a (length xs)) (place_kept a b (length xs))
places_pushed xs y None None are unpaid fewer = record {
  each = each_pushed xs y (λ i. false) (λ i. (length xs == i) || false) are.each
      (λ i earlier. ap (λ c. c || false) (is_apart (length xs) i (λ e. absurd (omega arith))))
      (ap (λ c. c || false) (is_same (length xs) (length xs) refl) ∙ sym unpaid);
  within = λ i is.
      let at = same (length xs) i (sym (neither (length xs == i)) ∙ is) in
      omega (arith, length_push xs y);
  apart = λ i is also. cc;
  counted = omega (arith, one_more_unpaid xs y unpaid, are.counted);
}
places_pushed xs y None (Some j) are unpaid fewer = record {
  each = each_pushed xs y (λ i. j == i) (λ i. (length xs == i) || (j == i)) are.each
      (λ i earlier. ap (λ c. c || (j == i)) (is_apart (length xs) i (λ e. absurd (omega arith))))
      (ap (λ c. c || (j == length xs)) (is_same (length xs) (length xs) refl) ∙ sym unpaid);
  within = λ i is. by_test i (length xs == i) refl is;
  apart = λ i is also.
      let first : length xs ≡ i = one_number (length xs) i is in
      let second : j ≡ i = one_number j i also in
      let old : j < length xs = are.within j (is_same j j refl) in
      absurd (omega arith);
  counted = omega (arith, one_more_unpaid xs y unpaid, are.counted);
}
  where
    by_test : (i : ℕ) (c : Bool) → (length xs == i) ≡ c → (c || (j == i)) ≡ true
        → i < length (xs ++ y ∷ [])
    by_test i true at is = let e = same (length xs) i at in omega (arith, length_push xs y)
    by_test i false at is = let e = are.within i is in omega (arith, length_push xs y)
places_pushed xs y (Some k) None are unpaid fewer = record {
  each = each_pushed xs y (λ i. (k == i) || false) (λ i. (k == i) || (length xs == i)) are.each
      (λ i earlier. ap (λ c. (k == i) || c) (is_apart (length xs) i (λ e. absurd (omega arith))))
      (ap (λ c. (k == length xs) || c) (is_same (length xs) (length xs) refl)
      ∙ either (k == length xs) ∙ sym unpaid);
  within = λ i is. by_test i (k == i) refl is;
  apart = λ i is also.
      let first : k ≡ i = one_number k i is in
      let second : length xs ≡ i = one_number (length xs) i also in
      let old : k < length xs = are.within k (ap (λ c. c || false) (is_same k k refl)) in
      absurd (omega arith);
  counted = omega (arith, one_more_unpaid xs y unpaid, are.counted);
}
  where
    by_test : (i : ℕ) (c : Bool) → (k == i) ≡ c → (c || (length xs == i)) ≡ true
        → i < length (xs ++ y ∷ [])
    by_test i true at is =
        let e = are.within i (ap (λ c. c || false) at) in omega (arith, length_push xs y)
    by_test i false at is = let e = same (length xs) i is in omega (arith, length_push xs y)
places_pushed xs y (Some k) (Some j) are unpaid fewer = absurd (omega (arith, are.counted))

-- one more sale that is paid
pub places_stay : (xs : List Sale) (y : Sale) (a b : Option ℕ) → AreUnpaid xs a b
    → is_unpaid y.standing ≡ false → AreUnpaid (xs ++ y ∷ []) a b
places_stay xs y a b are paid = record {
  each = each_pushed xs y (λ i. is_at a i || is_at b i) (λ i. is_at a i || is_at b i) are.each
      (λ i earlier. refl) (beyond (is_at a (length xs) || is_at b (length xs)) refl ∙ sym paid);
  within = λ i is. let e = are.within i is in omega (arith, length_push xs y);
  apart = are.apart;
  counted = unpaid_pushed xs y
      ∙ ap (λ (c : Bool). unpaid_among xs + cond c 1 0) paid ∙ omega (arith, are.counted);
}
  where
    beyond : (c : Bool) → (is_at a (length xs) || is_at b (length xs)) ≡ c → c ≡ false
    beyond true is = let e = are.within (length xs) is in absurd (omega arith)
    beyond false is = refl

-- one more sale
pub places_sold : (xs : List Sale) (y : Sale) (a b : Option ℕ) → AreUnpaid xs a b
    → unpaid_among xs < 2 → (c : Bool) → c ≡ is_unpaid y.standing
    → AreUnpaid (xs ++ y ∷ []) (if c then place_with a (length xs) else a)
    (if c then place_kept a b (length xs) else b)
places_sold xs y a b are fewer true is = places_pushed xs y a b are (sym is) fewer
places_sold xs y a b are fewer false is = places_stay xs y a b are (sym is)

-- an unpaid sale in the place of an unpaid one
pub places_kept : (xs : List Sale) (i : ℕ) (y d : Sale) (a b : Option ℕ) → AreUnpaid xs a b
    → i < length xs → is_unpaid (get_or xs i d).standing ≡ true → is_unpaid y.standing ≡ true
    → unpaid_among (set xs i y) + 1 ≡ unpaid_among xs + 1 → AreUnpaid (set xs i y) a b
places_kept xs i y d a b are inside was unpaid count = record {
  each = λ j e within. elim (cases_eq j i) [
    | inl here ↦
        ap (λ (x : Sale). is_unpaid x.standing) (get_or-set_at xs i j y e here inside) ∙ unpaid
        ∙ sym was ∙ are.each i d inside
        ∙ ap (λ k. is_at a k || is_at b k) (sym here)
    | inr other ↦
        ap (λ (x : Sale). is_unpaid x.standing) (get_or-set_other xs i j y e other)
        ∙ are.each j e (omega (arith, length-set xs i y))
  ];
  within = λ j is. let e = are.within j is in omega (arith, length-set xs i y);
  apart = are.apart;
  counted = omega (arith, count, are.counted);
}

-- a place that is left
left_at : (a : Option ℕ) (i j : ℕ) → j ≢ i → is_at (place_without a i) j ≡ is_at a j
left_at None i j other = refl
left_at (Some k) i j other = by_test (k == i) refl
  where
    by_test : (c : Bool) → (k == i) ≡ c → is_at (cond c None (Some k)) j ≡ (k == j)
    by_test true at =
        let e = same k i at in sym (is_apart k j (λ f. other (omega arith)))
    by_test false at = refl

gone_at : (a : Option ℕ) (i : ℕ) → is_at (place_without a i) i ≡ false
gone_at None i = refl
gone_at (Some k) i = by_test (k == i) refl
  where
    by_test : (c : Bool) → (k == i) ≡ c → is_at (cond c None (Some k)) i ≡ false
    by_test true at = refl
    by_test false at = at

of_left : (a : Option ℕ) (i j : ℕ) → place_without a i ≡ Some j → a ≡ Some j
of_left None i j is = is
of_left (Some k) i j is = by_test (k == i) is
  where
    by_test : (c : Bool) → cond c None (Some k) ≡ Some j → Some k ≡ Some j
    by_test true is = cc
    by_test false is = is

fewer_at : (a : Option ℕ) (i : ℕ)
    → one_if_kept (place_without a i) + cond (is_at a i) 1 0 ≡ one_if_kept a
fewer_at None i = refl
fewer_at (Some k) i = by_test (k == i)
  where
    by_test : (c : Bool) → one_if_kept (cond c None (Some k)) + cond c 1 0 ≡ 1
    by_test true = refl
    by_test false = refl

at_some : (a : Option ℕ) (i : ℕ) → is_at a i ≡ true → a ≡ Some i
at_some None i is = absurd (false≢true is)
at_some (Some k) i is = ap (λ n. Some n) (same k i is)

-- a paid sale in the place of an unpaid one
pub places_left : (xs : List Sale) (i : ℕ) (y d : Sale) (a b : Option ℕ) → AreUnpaid xs a b
    → i < length xs → is_unpaid (get_or xs i d).standing ≡ true → is_unpaid y.standing ≡ false
    → unpaid_among (set xs i y) + 1 ≡ unpaid_among xs
    → AreUnpaid (set xs i y) (place_without a i) (place_without b i)
places_left xs i y d a b are inside was paid count = record {
  each = λ j e within. elim (cases_eq j i) [
    | inl here ↦
        ap (λ (x : Sale). is_unpaid x.standing) (get_or-set_at xs i j y e here inside) ∙ paid
        ∙ sym (ap (λ k. is_at (place_without a i) k || is_at (place_without b i) k) here
        ∙ ap (λ c. c || is_at (place_without b i) i) (gone_at a i) ∙ gone_at b i)
    | inr other ↦
        ap (λ (x : Sale). is_unpaid x.standing) (get_or-set_other xs i j y e other)
        ∙ are.each j e (omega (arith, length-set xs i y))
        ∙ sym (ap (λ c. c || is_at (place_without b i) j) (left_at a i j other)
        ∙ ap (λ c. is_at a j || c) (left_at b i j other))
  ];
  within = λ j is. elim (cases_eq j i) [
    | inl here ↦ omega (arith, length-set xs i y)
    | inr other ↦
        let e = are.within j (sym (ap (λ c. c || is_at (place_without b i) j) (left_at a i j other)
        ∙ ap (λ c. is_at a j || c) (left_at b i j other)) ∙ is) in
        omega (arith, length-set xs i y)
  ];
  apart = λ j is also. are.apart j (of_left a i j is) (of_left b i j also);
  counted = omega (arith, count, are.counted, fewer_at a i, fewer_at b i, just_one);
}
  where
    one_of : (c e : Bool) → (c || e) ≡ true → (c ≡ true → e ≡ true → ⊥)
        → cond c 1 0 + cond e 1 0 ≡ 1
    one_of true true is both = absurd (both refl refl)
    one_of true false is both = refl
    one_of false true is both = refl
    one_of false false is both = absurd (false≢true is)

    just_one : cond (is_at a i) 1 0 + cond (is_at b i) 1 0 ≡ 1
    just_one = one_of (is_at a i) (is_at b i) (sym (are.each i d inside) ∙ was)
        (λ p q. are.apart i (at_some a i p) (at_some b i q))

-- any sale in the place of an unpaid one
pub places_put : (xs : List Sale) (i : ℕ) (y d : Sale) (a b : Option ℕ) → AreUnpaid xs a b
    → i < length xs → is_unpaid (get_or xs i d).standing ≡ true
    → unpaid_among (set xs i y) + 1 ≡ unpaid_among xs + cond (is_unpaid y.standing) 1 0
    → (c : Bool) → c ≡ is_unpaid y.standing
    → AreUnpaid (set xs i y) (if c then a else place_without a i)
    (if c then b else place_without b i)
places_put xs i y d a b are inside was count true is =
    places_kept xs i y d a b are inside was (sym is)
    (count ∙ ap (λ (e : Bool). unpaid_among xs + cond e 1 0) (sym is))
places_put xs i y d a b are inside was count false is =
    places_left xs i y d a b are inside was (sym is)
    (count ∙ ap (λ (e : Bool). unpaid_among xs + cond e 1 0) (sym is) ∙ omega arith)

-- after a sign-off
pub places_let_go : (t : ℕ) (xs : List Sale) (a b : Option ℕ) → AreUnpaid xs a b
    → AreUnpaid (map (unlock_all_of t) xs) a b
places_let_go t xs a b are = record {
  each = λ i d within.
      let inside : i < length xs = omega (arith, length-map xs (unlock_all_of t)) in
      ap (λ (x : Sale). is_unpaid x.standing) (get_or-map (unlock_all_of t) xs i d d inside)
      ∙ unlock_unpaid t (get_or xs i d) ∙ are.each i d inside;
  within = λ i is. let e = are.within i is in omega (arith, length-map xs (unlock_all_of t));
  apart = are.apart;
  counted = unpaid_let_go t xs ∙ are.counted;
}
