-- What the two unpaid places tell of all sales: a change of unpaid sales alone, and a figure of
-- unpaid sales alone.
use Rattle.std.proofs.Common.{◌≡◌, ℕ, zero, suc, ◌+◌, ◌<◌, ◌==◌, ◌||◌, Bool, true, false, cond}
use Rattle.std.proofs.Common.{if◌then◌else◌, List, [], ◌∷◌, length, get_or, map, Option, Some, None}
use Rattle.std.proofs.Common.{IfSome, refl, sym, ap, ◌∙◌, arith}
use Rattle.std.proofs.lemmas.Bool.{false≢true}
use Rattle.std.proofs.lemmas.Bool.Decides.{nat_tests}
use Rattle.std.proofs.lemmas.List.{same_lists, get_or-map, length-map}
use Rattle.transaction_buffer.specs.declared.standing.Standing.{Standing}
use Rattle.transaction_buffer.specs.declared.standing.Standing.TheVariants.{Payable, LockedBy}
use Rattle.transaction_buffer.specs.declared.standing.Standing.TheVariants.{ClearedBy}
use Rattle.transaction_buffer.specs.Sales.{Sale, is_unpaid}
use Rattle.transaction_buffer.specs.Sums.{sum_among, volume_in, volume_locked_by}
use Rattle.transaction_buffer.specs.TransactionTable.{unlock_all_of, is_locked_by}
use Rattle.transaction_buffer.specs.UnpaidPlaces.{is_at, figure_at, AreUnpaid, IsLetGoAt}

same : (n m : ℕ) → (n == m) ≡ true → n ≡ m
same n m is = grind (arith, nat_tests)

-- a paid sale isn't locked
paid_unlocked : (t : ℕ) (standing : Standing) → is_unpaid standing ≡ false
    → is_locked_by t standing ≡ false
paid_unlocked t Payable is = cc
paid_unlocked t (LockedBy u) is = cc
paid_unlocked t (ClearedBy u shift) is = refl

paid_stays : (t : ℕ) (x : Sale) → is_unpaid x.standing ≡ false → unlock_all_of t x ≡ x
paid_stays t x is = ap (λ (b : Bool). cond b (record x { standing = Payable }) x)
    (paid_unlocked t x.standing is)

paid_nothing : (q t : ℕ) (x : Sale) → is_unpaid x.standing ≡ false → volume_locked_by q t x ≡ 0
paid_nothing q t x is = ap (λ (b : Bool). cond b (volume_in q x) 0) (paid_unlocked t x.standing is)

at_some : (a : Option ℕ) (i : ℕ) → is_at a i ≡ true → a ≡ Some i
at_some None i is = absurd (false≢true is)
at_some (Some k) i is = ap (λ n. Some n) (same k i is)

-- where the sales at both places are let go, all are
pub let_go_both : (t : ℕ) (xs ys zs : List Sale) (a b : Option ℕ) → AreUnpaid xs a b
    → IsLetGoAt t a xs ys → IsLetGoAt t b ys zs → zs ≡ map (unlock_all_of t) xs
let_go_both t xs ys zs a b are first second =
    same_lists zs (map (unlock_all_of t) xs)
    (second.long ∙ first.long ∙ sym (length-map xs (unlock_all_of t)))
    (λ i d within.
    let in_ys : i < length ys = omega (arith, second.long) in
    let in_xs : i < length xs = omega (arith, first.long) in
    second.each i d in_ys
    ∙ by_tests i d (is_at a i) refl (is_at b i) refl (first.each i d in_xs)
    (are.each i d in_xs)
    ∙ sym (get_or-map (unlock_all_of t) xs i d d in_xs))
  where
    by_tests : (i : ℕ) (d : Sale) (m : Bool) → is_at a i ≡ m → (n : Bool) → is_at b i ≡ n
        → get_or ys i d ≡ (if is_at a i then unlock_all_of t (get_or xs i d) else get_or xs i d)
        → is_unpaid (get_or xs i d).standing ≡ (is_at a i || is_at b i)
        → (if is_at b i then unlock_all_of t (get_or ys i d) else get_or ys i d)
        ≡ unlock_all_of t (get_or xs i d)
    by_tests i d true p true q y unpaid =
        absurd (are.apart i (at_some a i p) (at_some b i q))
    by_tests i d true p false q y unpaid =
        let step : (if is_at a i then unlock_all_of t (get_or xs i d) else get_or xs i d)
        ≡ unlock_all_of t (get_or xs i d) = rw p refl in
        rw q (y ∙ step)
    by_tests i d false p true q y unpaid =
        let step : (if is_at a i then unlock_all_of t (get_or xs i d) else get_or xs i d)
        ≡ get_or xs i d = rw p refl in
        rw q (ap (unlock_all_of t) (y ∙ step))
    by_tests i d false p false q y unpaid =
        let neither : (is_at a i || is_at b i) ≡ false = rw (p, q) refl in
        let step : (if is_at a i then unlock_all_of t (get_or xs i d) else get_or xs i d)
        ≡ get_or xs i d = rw p refl in
        rw q (y ∙ step ∙ sym (paid_stays t (get_or xs i d) (unpaid ∙ neither)))

-- both places are among the sales
pub places_within : (xs : List Sale) (a b : Option ℕ) → AreUnpaid xs a b
    → IfSome a (λ i. i < length xs) × IfSome b (λ i. i < length xs)
places_within xs a b are = (
  of_first a (λ i is. are.within i is),
  of_second a b (λ i is. are.within i is),
)
  where
    either : (e : Bool) → (e || true) ≡ true
    either true = refl
    either false = refl

    of_first : (c : Option ℕ) → ((i : ℕ) → (is_at c i || is_at b i) ≡ true → i < length xs)
        → IfSome c (λ i. i < length xs)
    of_first None within = tt
    of_first (Some k) within =
        within k (ap (λ e. e || is_at b k)
        (let same_k : (k == k) ≡ true = grind (arith, nat_tests) in same_k))

    of_second : (c d : Option ℕ) → ((i : ℕ) → (is_at c i || is_at d i) ≡ true → i < length xs)
        → IfSome d (λ i. i < length xs)
    of_second c None within = tt
    of_second c (Some k) within =
        within k (ap (λ e. is_at c k || e)
        (let same_k : (k == k) ≡ true = grind (arith, nat_tests) in same_k)
        ∙ either (is_at c k))

-- ---- a figure of unpaid sales

-- the place among the sales behind the first
prev : Option ℕ → Option ℕ
prev None = None
prev (Some zero) = None
prev (Some (suc k)) = Some k

prev_at : (a : Option ℕ) (i : ℕ) → is_at (prev a) i ≡ is_at a (suc i)
unfolding prev
prev_at None i = refl
prev_at (Some zero) i = is_none
  where
    is_none : false ≡ (zero == suc i)
    is_none = grind (arith, nat_tests)
prev_at (Some (suc k)) i = by_test (k == i) refl
  where
    by_test : (c : Bool) → (k == i) ≡ c → c ≡ (suc k == suc i)
    by_test true is = grind (arith, nat_tests)
    by_test false is = grind (arith, nat_tests)

prev_some : (a : Option ℕ) (i : ℕ) → prev a ≡ Some i → a ≡ Some (suc i)
unfolding prev
prev_some None i is = cc
prev_some (Some zero) i is = cc
prev_some (Some (suc k)) i is = cc

figure_split : (f : Sale → ℕ) (a : Option ℕ) (x : Sale) (xs : List Sale)
    → figure_at f a (x ∷ xs) ≡ cond (is_at a 0) (f x) 0 + figure_at f (prev a) xs
unfolding prev
figure_split f None x xs = refl
figure_split f (Some zero) x xs = omega arith
figure_split f (Some (suc k)) x xs =
    let none : (suc k == 0) ≡ false = grind (arith, nat_tests) in
    let off : cond (suc k == 0) (f x) 0 ≡ 0 = ap (λ c. cond c (f x) 0) none in
    let plus : figure_at f (Some k) xs ≡ 0 + figure_at f (Some k) xs = omega arith in
    plus ∙ sym (ap (λ n. n + figure_at f (Some k) xs) off)

-- the sum of such a figure is that of the two places
pub two_places : (f : Sale → ℕ) (xs : List Sale) (a b : Option ℕ)
    → ((x : Sale) → is_unpaid x.standing ≡ false → f x ≡ 0)
    → ((i : ℕ) (d : Sale) → i < length xs
    → is_unpaid (get_or xs i d).standing ≡ (is_at a i || is_at b i))
    → ((i : ℕ) → a ≡ Some i → b ≡ Some i → ⊥)
    → sum_among f xs ≡ figure_at f a xs + figure_at f b xs
two_places f [] None None none each apart = refl
two_places f [] None (Some j) none each apart = refl
two_places f [] (Some i) None none each apart = refl
two_places f [] (Some i) (Some j) none each apart = refl
two_places f (x ∷ xs) a b none each apart =
    let rest = two_places f xs (prev a) (prev b) none
    (λ i d within. each (suc i) d (omega arith)
    ∙ sym (ap (λ c. c || is_at (prev b) i) (prev_at a i)
    ∙ ap (λ c. is_at a (suc i) || c) (prev_at b i)))
    (λ i p q. apart (suc i) (prev_some a i p) (prev_some b i q)) in
    let here : f x ≡ cond (is_at a 0) (f x) 0 + cond (is_at b 0) (f x) 0 =
    by_tests (is_at a 0) refl (is_at b 0) refl (each 0 x (omega arith)) in
    omega (arith, rest, here, figure_split f a x xs, figure_split f b x xs)
  where
    by_tests : (m : Bool) → is_at a 0 ≡ m → (n : Bool) → is_at b 0 ≡ n
        → is_unpaid x.standing ≡ (is_at a 0 || is_at b 0)
        → f x ≡ cond m (f x) 0 + cond n (f x) 0
    by_tests true p true q unpaid = absurd (apart 0 (at_some a 0 p) (at_some b 0 q))
    by_tests true p false q unpaid = omega arith
    by_tests false p true q unpaid = omega arith
    by_tests false p false q unpaid =
        let neither : (is_at a 0 || is_at b 0) ≡ false = rw (p, q) refl in
        none x (unpaid ∙ neither)

pub locked_at_places : (q t : ℕ) (xs : List Sale) (a b : Option ℕ) → AreUnpaid xs a b
    → sum_among (volume_locked_by q t) xs
    ≡ figure_at (volume_locked_by q t) a xs + figure_at (volume_locked_by q t) b xs
locked_at_places q t xs a b are =
    two_places (volume_locked_by q t) xs a b (paid_nothing q t) are.each are.apart
