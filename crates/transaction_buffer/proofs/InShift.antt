-- A point's sales of one shift: what is found, replaced, added and counted among them.
use Rattle.std.proofs.Common.{◌≡◌, ◌≢◌, ℕ, ◌+◌, ◌-◌, ◌<◌, ◌==◌, ◌&&◌, Bool, true, false, cond}
use Rattle.std.proofs.Common.{if◌then◌else◌, List, [], ◌∷◌, ◌++◌, map, Option, option_map, Some}
use Rattle.std.proofs.Common.{None, refl, sym, ap, ◌∙◌, arith}
use Rattle.std.proofs.lemmas.Bool.Decides.{nat_tests}
use Rattle.transaction_buffer.specs.Sales.{Sale, sale_in, made_in, with_in}
use Rattle.transaction_buffer.specs.Sums.{sum_among}

same : (n m : ℕ) → (n == m) ≡ true → n ≡ m
same n m is = grind (arith, nat_tests)

apart : (n m : ℕ) → (n == m) ≡ false → n ≢ m
apart n m is = grind (arith, nat_tests)

is_same : (n m : ℕ) → n ≡ m → (n == m) ≡ true
is_same n m is = grind (arith, nat_tests)

is_apart : (n m : ℕ) → n ≢ m → (n == m) ≡ false
is_apart n m isnt = grind (arith, nat_tests)

one_some : (x y : Sale) → Some x ≡ Some y → x ≡ y
one_some x y is = cc

-- the sale of a shift is of that shift
pub of_shift : (h n : ℕ) (xs : List Sale) (x : Sale) → sale_in h n xs ≡ Some x → x.shift ≡ h
of_shift h n [] x is = cc
of_shift h n (y ∷ ys) x is =
    by_tests (y.shift == h) refl (n == 1) refl (λ m. of_shift h m ys x)
  where
    by_tests : (a : Bool) → (y.shift == h) ≡ a → (b : Bool) → (n == 1) ≡ b
        → ((m : ℕ) → sale_in h m ys ≡ Some x → x.shift ≡ h) → x.shift ≡ h
    by_tests true here true first behind =
        let found : sale_in h n (y ∷ ys) ≡ Some y = rw (here, first) refl in
        ap (λ (z : Sale). z.shift) (sym (one_some y x (sym found ∙ is))) ∙ same y.shift h here
    by_tests true here false later behind =
        let past : sale_in h n (y ∷ ys) ≡ sale_in h (n - 1) ys = rw (here, later) refl in
        behind (n - 1) (sym past ∙ is)
    by_tests false there b is_first behind =
        let past : sale_in h n (y ∷ ys) ≡ sale_in h n ys = rw there refl in
        behind n (sym past ∙ is)

-- the sale that was put in the place of another
pub with_same : (h n : ℕ) (xs : List Sale) (x y : Sale) → sale_in h n xs ≡ Some x → y.shift ≡ h
    → sale_in h n (with_in h n y xs) ≡ Some y
with_same h n [] x y is its = cc
with_same h n (z ∷ zs) x y is its =
    by_tests (z.shift == h) refl (n == 1) refl (λ m at. with_same h m zs x y at its)
  where
    by_tests : (a : Bool) → (z.shift == h) ≡ a → (b : Bool) → (n == 1) ≡ b
        → ((m : ℕ) → sale_in h m zs ≡ Some x → sale_in h m (with_in h m y zs) ≡ Some y)
        → sale_in h n (with_in h n y (z ∷ zs)) ≡ Some y
    by_tests true here true first behind =
        let its_too : (y.shift == h) ≡ true = is_same y.shift h its in
        rw (here, first, its_too, first) refl
    by_tests true here false later behind =
        let past : sale_in h n (z ∷ zs) ≡ sale_in h (n - 1) zs = rw (here, later) refl in
        rw (here, later, here, later) (behind (n - 1) (sym past ∙ is))
    by_tests false there b is_first behind =
        let past : sale_in h n (z ∷ zs) ≡ sale_in h n zs = rw there refl in
        rw (there, there) (behind n (sym past ∙ is))

-- a sale of another shift or number
pub with_other : (h n g m : ℕ) (xs : List Sale) (y : Sale) → (g ≡ h → m ≢ n) → y.shift ≡ h
    → sale_in g m (with_in h n y xs) ≡ sale_in g m xs
with_other h n g m [] y other its = refl
with_other h n g m (z ∷ zs) y other its =
    by_tests (z.shift == h) refl (n == 1) refl (z.shift == g) refl (m == 1) refl
    (λ n' m' other'. with_other h n' g m' zs y other' its)
  where
    by_tests : (a : Bool) → (z.shift == h) ≡ a → (b : Bool) → (n == 1) ≡ b
        → (c : Bool) → (z.shift == g) ≡ c → (d : Bool) → (m == 1) ≡ d
        → ((n' m' : ℕ) → (g ≡ h → m' ≢ n') → sale_in g m' (with_in h n' y zs) ≡ sale_in g m' zs)
        → sale_in g m (with_in h n y (z ∷ zs)) ≡ sale_in g m (z ∷ zs)
    by_tests true is true first true at true one behind =
        absurd (other (sym (same z.shift g at) ∙ same z.shift h is)
        (same m 1 one ∙ sym (same n 1 first)))
    by_tests true is true first true at false more behind =
        let its_too : (y.shift == g) ≡ true =
        is_same y.shift g (its ∙ sym (same z.shift h is) ∙ same z.shift g at) in
        rw (is, first, its_too, more, at) refl
    by_tests true is true first false at d one behind =
        let its_too : (y.shift == g) ≡ false =
        is_apart y.shift g (λ e. apart z.shift g at (same z.shift h is ∙ sym its ∙ e)) in
        rw (is, first, its_too, at) refl
    by_tests true is false later true at true one behind = rw (is, later, at, one) refl
    by_tests true is false later true at false more behind =
        rw (is, later, at, more) (behind (n - 1) (m - 1) (λ e k.
        let m_more : m ≢ 1 = apart m 1 more in
        let n_more : n ≢ 1 = apart n 1 later in
        let differ : m ≢ n = other e in
        omega arith))
    by_tests true is false later false at d one behind =
        rw (is, later, at) (behind (n - 1) m (λ e k.
        apart z.shift g at (same z.shift h is ∙ sym e)))
    by_tests false is b first true at true one behind = rw (is, at, one) refl
    by_tests false is b first true at false more behind =
        rw (is, at, more) (behind n (m - 1) (λ e k.
        apart z.shift h is (same z.shift g at ∙ e)))
    by_tests false is b first false at d one behind = rw (is, at) (behind n m other)

-- after one more sale
pub pushed : (g m : ℕ) (xs : List Sale) (x : Sale)
    → sale_in g m (xs ++ x ∷ [])
    ≡ (if x.shift == g && m == made_in g xs + 1 then Some x else sale_in g m xs)
pushed g m [] x = by_tests (x.shift == g) (m == 1)
  where
    by_tests : (a b : Bool)
        → cond a (cond b (Some x) None) None ≡ cond (a && b) (Some x) None
    by_tests true b = refl
    by_tests false b = refl
pushed g m (z ∷ zs) x =
    by_tests (z.shift == g) refl (m == 1) refl (λ m'. pushed g m' zs x)
  where
    -- the first sale is of the shift
    counted : (z.shift == g) ≡ true → made_in g (z ∷ zs) ≡ 1 + made_in g zs
    counted at = rw at refl

    uncounted : (z.shift == g) ≡ false → made_in g (z ∷ zs) ≡ made_in g zs
    uncounted at = rw at (omega arith)

    next : (z.shift == g) ≡ true → m ≢ 1 → (b : Bool) → (m == made_in g (z ∷ zs) + 1) ≡ b
        → (m - 1 == made_in g zs + 1) ≡ b
    next at more true is =
        let count = counted at in
        let e = same m (made_in g (z ∷ zs) + 1) is in
        is_same (m - 1) (made_in g zs + 1) (omega (arith, count, e))
    next at more false is =
        let count = counted at in
        let e = apart m (made_in g (z ∷ zs) + 1) is in
        is_apart (m - 1) (made_in g zs + 1) (λ f. e (omega (arith, count, f)))

    absent : (a b : Bool) (o : Option Sale) → b ≡ false → o ≡ (if a && b then Some x else o)
    absent true b o is = rw is refl
    absent false b o is = refl

    by_tests : (a : Bool) → (z.shift == g) ≡ a → (b : Bool) → (m == 1) ≡ b
        → ((m' : ℕ) → sale_in g m' (zs ++ x ∷ [])
        ≡ (if x.shift == g && m' == made_in g zs + 1 then Some x else sale_in g m' zs))
        → sale_in g m (z ∷ zs ++ x ∷ [])
        ≡ (if x.shift == g && m == made_in g (z ∷ zs) + 1 then Some x else sale_in g m (z ∷ zs))
    by_tests true at true one behind =
        let count = counted at in
        let first = same m 1 one in
        let beyond : (m == made_in g (z ∷ zs) + 1) ≡ false =
        is_apart m (made_in g (z ∷ zs) + 1) (λ e. absurd (omega (arith, e, count, first))) in
        let here : sale_in g m (z ∷ zs ++ x ∷ []) ≡ sale_in g m (z ∷ zs) = rw (at, one) refl in
        here ∙ absent (x.shift == g) (m == made_in g (z ∷ zs) + 1) (sale_in g m (z ∷ zs)) beyond
    by_tests true at false more behind =
        let past : sale_in g m (z ∷ zs ++ x ∷ []) ≡ sale_in g (m - 1) (zs ++ x ∷ []) =
        rw (at, more) refl in
        let old : sale_in g m (z ∷ zs) ≡ sale_in g (m - 1) zs = rw (at, more) refl in
        past ∙ behind (m - 1)
        ∙ ap (λ (b : Bool). cond (x.shift == g && b) (Some x) (sale_in g (m - 1) zs))
        (next at (apart m 1 more) (m == made_in g (z ∷ zs) + 1) refl)
        ∙ ap (λ (o : Option Sale). cond (x.shift == g && m == made_in g (z ∷ zs) + 1) (Some x) o)
        (sym old)
    by_tests false at b one behind =
        let past : sale_in g m (z ∷ zs ++ x ∷ []) ≡ sale_in g m (zs ++ x ∷ []) = rw at refl in
        let old : sale_in g m (z ∷ zs) ≡ sale_in g m zs = rw at refl in
        past ∙ behind m
        ∙ ap (λ (k : ℕ). cond (x.shift == g && m == k + 1) (Some x) (sale_in g m zs))
        (sym (uncounted at))
        ∙ ap (λ (o : Option Sale). cond (x.shift == g && m == made_in g (z ∷ zs) + 1) (Some x) o)
        (sym old)

-- the sales of a point, each changed
pub mapped : (change : Sale → Sale) (g m : ℕ) (xs : List Sale)
    → ((x : Sale) → (change x).shift ≡ x.shift)
    → sale_in g m (map change xs) ≡ option_map change (sale_in g m xs)
mapped change g m [] keeps = refl
mapped change g m (z ∷ zs) keeps =
    ap (λ (h : ℕ). if h == g then (if m == 1 then Some (change z)
    else sale_in g (m - 1) (map change zs)) else sale_in g m (map change zs)) (keeps z)
    ∙ by_tests (z.shift == g) (m == 1) (mapped change g (m - 1) zs keeps)
    (mapped change g m zs keeps)
  where
    by_tests : (a b : Bool)
        → sale_in g (m - 1) (map change zs) ≡ option_map change (sale_in g (m - 1) zs)
        → sale_in g m (map change zs) ≡ option_map change (sale_in g m zs)
        → (if a then (if b then Some (change z) else sale_in g (m - 1) (map change zs))
        else sale_in g m (map change zs))
        ≡ option_map change (if a then (if b then Some z else sale_in g (m - 1) zs)
        else sale_in g m zs)
    by_tests true true before after = refl
    by_tests true false before after = before
    by_tests false b before after = after

-- a sale put in its own place
pub with_self : (h n : ℕ) (xs : List Sale) (x : Sale) → sale_in h n xs ≡ Some x
    → with_in h n x xs ≡ xs
with_self h n [] x is = refl
with_self h n (z ∷ zs) x is =
    by_tests (z.shift == h) refl (n == 1) refl (λ m. with_self h m zs x)
  where
    by_tests : (a : Bool) → (z.shift == h) ≡ a → (b : Bool) → (n == 1) ≡ b
        → ((m : ℕ) → sale_in h m zs ≡ Some x → with_in h m x zs ≡ zs)
        → with_in h n x (z ∷ zs) ≡ z ∷ zs
    by_tests true here true first behind =
        let found : sale_in h n (z ∷ zs) ≡ Some z = rw (here, first) refl in
        rw (here, first) (ap (λ (y : Sale). y ∷ zs) (sym (one_some z x (sym found ∙ is))))
    by_tests true here false later behind =
        let past : sale_in h n (z ∷ zs) ≡ sale_in h (n - 1) zs = rw (here, later) refl in
        rw (here, later) (ap (λ ys. z ∷ ys) (behind (n - 1) (sym past ∙ is)))
    by_tests false there b is_first behind =
        let past : sale_in h n (z ∷ zs) ≡ sale_in h n zs = rw there refl in
        rw there (ap (λ ys. z ∷ ys) (behind n (sym past ∙ is)))

-- ---- how many

pub made_with : (h n g : ℕ) (xs : List Sale) (y : Sale) → y.shift ≡ h
    → made_in g (with_in h n y xs) ≡ made_in g xs
made_with h n g [] y its = refl
made_with h n g (z ∷ zs) y its =
    by_tests (z.shift == h) refl (n == 1) refl (λ m. made_with h m g zs y its)
  where
    by_tests : (a : Bool) → (z.shift == h) ≡ a → (b : Bool) → (n == 1) ≡ b
        → ((m : ℕ) → made_in g (with_in h m y zs) ≡ made_in g zs)
        → made_in g (with_in h n y (z ∷ zs)) ≡ made_in g (z ∷ zs)
    by_tests true here true first behind =
        rw (here, first)
        (ap (λ (k : ℕ). (if k == g then 1 else 0) + made_in g zs)
        (its ∙ sym (same z.shift h here)))
    by_tests true here false later behind =
        rw (here, later) (ap (λ (k : ℕ). (if z.shift == g then 1 else 0) + k) (behind (n - 1)))
    by_tests false there b is_first behind =
        rw there (ap (λ (k : ℕ). (if z.shift == g then 1 else 0) + k) (behind n))

pub made_pushed : (g : ℕ) (xs : List Sale) (x : Sale)
    → made_in g (xs ++ x ∷ []) ≡ made_in g xs + (if x.shift == g then 1 else 0)
made_pushed g [] x = omega arith
made_pushed g (z ∷ zs) x = omega (arith, made_pushed g zs x)

pub made_mapped : (change : Sale → Sale) (g : ℕ) (xs : List Sale)
    → ((x : Sale) → (change x).shift ≡ x.shift) → made_in g (map change xs) ≡ made_in g xs
made_mapped change g [] keeps = refl
made_mapped change g (z ∷ zs) keeps =
    ap (λ (k : ℕ). (if k == g then 1 else 0) + made_in g (map change zs)) (keeps z)
    ∙ ap (λ (k : ℕ). (if z.shift == g then 1 else 0) + k) (made_mapped change g zs keeps)

-- no number above the last is found
pub none_above : (h n : ℕ) (xs : List Sale) → made_in h xs < n → sale_in h n xs ≡ None
none_above h n [] above = refl
none_above h n (z ∷ zs) above =
    by_tests (z.shift == h) refl (n == 1) refl (λ m. none_above h m zs)
  where
    by_tests : (a : Bool) → (z.shift == h) ≡ a → (b : Bool) → (n == 1) ≡ b
        → ((m : ℕ) → made_in h zs < m → sale_in h m zs ≡ None) → sale_in h n (z ∷ zs) ≡ None
    by_tests true here true first behind =
        let count : made_in h (z ∷ zs) ≡ 1 + made_in h zs = rw here refl in
        let one = same n 1 first in absurd (omega arith)
    by_tests true here false later behind =
        let count : made_in h (z ∷ zs) ≡ 1 + made_in h zs = rw here refl in
        rw (here, later) (behind (n - 1) (omega arith))
    by_tests false there b is_first behind =
        let count : made_in h (z ∷ zs) ≡ 0 + made_in h zs = rw there refl in
        rw there (behind n (omega arith))

pub none_next : (h : ℕ) (xs : List Sale) → sale_in h (made_in h xs + 1) xs ≡ None
none_next h xs = none_above h (made_in h xs + 1) xs (omega arith)

-- ---- sums

-- a sale in the place of another of the same point
pub with_sum : (figure : Sale → ℕ) (h n : ℕ) (xs : List Sale) (old new : Sale)
    → sale_in h n xs ≡ Some old
    → sum_among figure (with_in h n new xs) + figure old ≡ sum_among figure xs + figure new
with_sum figure h n [] old new is = cc
with_sum figure h n (z ∷ zs) old new is =
    by_tests (z.shift == h) refl (n == 1) refl (λ m. with_sum figure h m zs old new)
  where
    by_tests : (a : Bool) → (z.shift == h) ≡ a → (b : Bool) → (n == 1) ≡ b
        → ((m : ℕ) → sale_in h m zs ≡ Some old
        → sum_among figure (with_in h m new zs) + figure old ≡ sum_among figure zs + figure new)
        → sum_among figure (with_in h n new (z ∷ zs)) + figure old
        ≡ sum_among figure (z ∷ zs) + figure new
    by_tests true here true first behind =
        let found : sale_in h n (z ∷ zs) ≡ Some z = rw (here, first) refl in
        let its : figure z ≡ figure old = ap figure (one_some z old (sym found ∙ is)) in
        rw (here, first) (omega (arith, its))
    by_tests true here false later behind =
        let past : sale_in h n (z ∷ zs) ≡ sale_in h (n - 1) zs = rw (here, later) refl in
        rw (here, later) (omega (arith, behind (n - 1) (sym past ∙ is)))
    by_tests false there b is_first behind =
        let past : sale_in h n (z ∷ zs) ≡ sale_in h n zs = rw there refl in
        rw there (omega (arith, behind n (sym past ∙ is)))
