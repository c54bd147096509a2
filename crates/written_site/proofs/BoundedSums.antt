-- Figures that are bounded at each sale have bounded sums.
use Rattle.std.proofs.Common.{◌≡◌, ℕ, suc, ◌-◌, ◌*◌, ◌≤◌, ◌<◌, ◌==◌, T, Bool, true, false, cond}
use Rattle.std.proofs.Common.{List, [], ◌∷◌, Option, Some, None, unwrap_or, refl, sym, ap, ◌∙◌}
use Rattle.std.proofs.Common.{arith}
use Rattle.std.proofs.lemmas.Bool.Decides.{nat_tests}
use Rattle.std.specs.declared.cmp.Ordering.{Ordering}
use Rattle.std.specs.declared.cmp.Ordering.TheVariants.{Less, Equal, Greater}
use Rattle.std.specs.Ordering.{nat_cmp, eq_by_cmp, is_lt}
use Rattle.std.specs.Cmp.{unsigned_tied}
use Rattle.std.proofs.lemmas.Cmp.{ranked}
use Rattle.std.proofs.Math.Nat.{mul-zero, mul-add}
use Rattle.std.specs.FinMap.{find, entries, entries_sorted, get-entries, is_sorted}
use Rattle.std.specs.FinMap.Entries.{below_all}
use Rattle.transaction_buffer.specs.Sales.{key, Sale, Sales, sale_in}
use Rattle.transaction_buffer.specs.Sums.{sum_among, sum_over, sum_of}
use Rattle.transaction_buffer.proofs.Maps.{first_half, second_half}
use Rattle.written_site.proofs.EachSale.{Each}
use Rattle.written_site.proofs.SoundTables.{itself}

-- ---- the sales of a point

-- each sale that a point's list finds is so
abbrev Found : (Sale → Type 0) → List Sale → Type 0
Found P xs = (h n : ℕ) (x : Sale) → sale_in h n xs ≡ Some x → P x

found_first : (x : Sale) (xs : List Sale) → sale_in x.shift 1 (x ∷ xs) ≡ Some x
found_first x xs = rw (itself x.shift) refl

from_one : (h n : ℕ) (xs : List Sale) (x : Sale) → sale_in h n xs ≡ Some x → 1 ≤ n
from_one h n [] x is = cc
from_one h n (y ∷ ys) x is = by_tests (y.shift == h) refl (n == 1) refl (λ m. from_one h m ys x)
  where
    by_tests : (a : Bool) → (y.shift == h) ≡ a → (b : Bool) → (n == 1) ≡ b
        → ((m : ℕ) → sale_in h m ys ≡ Some x → 1 ≤ m) → 1 ≤ n
    by_tests true here true first behind = grind (arith, nat_tests)
    by_tests true here false later behind =
        let past : sale_in h n (y ∷ ys) ≡ sale_in h (n - 1) ys = rw (here, later) refl in
        let low = behind (n - 1) (sym past ∙ is) in omega (arith, low)
    by_tests false there b is_first behind =
        let past : sale_in h n (y ∷ ys) ≡ sale_in h n ys = rw there refl in
        behind n (sym past ∙ is)

above : (n : ℕ) → 1 ≤ n → (suc n == 1) ≡ false
above n low = grind (arith, nat_tests)

-- a later sale is found in the whole list
found_later : (P : Sale → Type 0) (y : Sale) (ys : List Sale) → Found P (y ∷ ys) → Found P ys
found_later P y ys all h n x is = by_test (y.shift == h) refl
  where
    low : 1 ≤ n
    low = from_one h n ys x is

    later : (suc n == 1) ≡ false
    later = above n low

    back : suc n - 1 ≡ n
    back = omega arith

    by_test : (b : Bool) → (y.shift == h) ≡ b → P x
    by_test true here =
        let past : sale_in h (suc n) (y ∷ ys) ≡ sale_in h (suc n - 1) ys = rw (here, later) refl in
        all h (suc n) x (past ∙ ap (λ (m : ℕ). sale_in h m ys) back ∙ is)
    by_test false there =
        let past : sale_in h n (y ∷ ys) ≡ sale_in h n ys = rw there refl in
        all h n x (past ∙ is)

among : (f g : Sale → ℕ) (xs : List Sale) → Found (λ x. f x ≤ g x) xs
    → sum_among f xs ≤ sum_among g xs
among f g [] all = omega arith
among f g (x ∷ xs) all =
    let first : f x ≤ g x = all x.shift 1 x (found_first x xs) in
    let rest = among f g xs (found_later (λ y. f y ≤ g y) x xs all) in
    omega (arith, first, rest)

-- ---- the sales of all points

-- each sale that these points' lists find is so
abbrev FoundAt : (Sale → Type 0) → List (ℕ × List Sale) → Type 0
FoundAt P es = (p h n : ℕ) (x : Sale) → sale_in h n (unwrap_or (find nat_cmp p es) []) ≡ Some x
    → P x

-- the first point's list
at_first : (P : Sale → Type 0) (e : ℕ × List Sale) (es : List (ℕ × List Sale))
    → FoundAt P (e ∷ es) → Found P e.1
at_first P e es all h n x is =
    let own : eq_by_cmp nat_cmp e.0 e.0 ≡ true = unsigned_tied e.0 e.0 ∙ itself e.0 in
    all e.0 h n x
    (ap (λ (b : Bool). sale_in h n (unwrap_or (cond b (Some e.1) (find nat_cmp e.0 es)) [])) own
    ∙ is)

-- no number that stands below all of a list is found in it
not_found : (p : ℕ) (es : List (ℕ × List Sale)) → T (below_all nat_cmp p es)
    → find nat_cmp p es ≡ None
not_found p [] below = refl
not_found p (e ∷ es) below =
    let under : p < e.0 = less (nat_cmp p e.0) refl
    (first_half (is_lt (nat_cmp p e.0)) (below_all nat_cmp p es) below) in
    let apart : eq_by_cmp nat_cmp p e.0 ≡ false =
    unsigned_tied p e.0 ∙ other under in
    ap (λ (b : Bool). cond b (Some e.1) (find nat_cmp p es)) apart
    ∙ not_found p es (second_half (is_lt (nat_cmp p e.0)) (below_all nat_cmp p es) below)
  where
    less : (o : Ordering) → o ≡ nat_cmp p e.0 → T (is_lt o) → p < e.0
    less Less is lt = ranked p e.0 Less is
    less Equal is lt = absurd lt
    less Greater is lt = absurd lt

    other : p < e.0 → (p == e.0) ≡ false
    other under = grind (arith, nat_tests)

-- the later points' lists
at_later : (P : Sale → Type 0) (e : ℕ × List Sale) (es : List (ℕ × List Sale))
    → T (below_all nat_cmp e.0 es) → FoundAt P (e ∷ es) → FoundAt P es
at_later P e es below all p h n x is = by_test (p == e.0) refl
  where
    by_test : (b : Bool) → (p == e.0) ≡ b → P x
    by_test true at =
        let one : p ≡ e.0 = grind (arith, nat_tests) in
        let none : find nat_cmp p es ≡ None =
        ap (λ (q : ℕ). find nat_cmp q es) one ∙ not_found e.0 es below in
        let gone : None ≡ Some x =
        ap (λ (o : Option (List Sale)). sale_in h n (unwrap_or o [])) (sym none) ∙ is in
        absurd cc
    by_test false at =
        all p h n x
        (ap (λ (b : Bool). sale_in h n (unwrap_or (cond b (Some e.1) (find nat_cmp p es)) []))
        (unsigned_tied p e.0 ∙ at) ∙ is)

over : (f g : Sale → ℕ) (es : List (ℕ × List Sale)) → T (is_sorted nat_cmp es)
    → FoundAt (λ x. f x ≤ g x) es → sum_over f es ≤ sum_over g es
over f g [] rises all = omega arith
over f g (e ∷ es) rises all =
    let below = first_half (below_all nat_cmp e.0 es) (is_sorted nat_cmp es) rises in
    let sorted = second_half (below_all nat_cmp e.0 es) (is_sorted nat_cmp es) rises in
    let here = among f g e.1 (at_first (λ x. f x ≤ g x) e es all) in
    let rest = over f g es sorted (at_later (λ x. f x ≤ g x) e es below all) in
    omega (arith, here, rest)

-- a figure that is no more than another at each sale has no greater sum
pub bounded_sum : (f g : Sale → ℕ) (sales : Sales) → Each (λ x. f x ≤ g x) sales
    → sum_of f sales ≤ sum_of g sales
bounded_sum f g sales all = over f g (entries sales) (entries_sorted sales) (λ p h n x is.
    all (key h p n) x
    (ap (λ (o : Option (List Sale)). sale_in h n (unwrap_or o [])) (get-entries sales p) ∙ is))

-- ---- nothing

none_among : (xs : List Sale) → sum_among (λ x. 0) xs ≡ 0
none_among [] = refl
none_among (x ∷ xs) = omega (arith, none_among xs)

none_over : (es : List (ℕ × List Sale)) → sum_over (λ x. 0) es ≡ 0
none_over [] = refl
none_over (e ∷ es) = omega (arith, none_among e.1, none_over es)

pub none_sum : (sales : Sales) → sum_of (λ x. 0) sales ≡ 0
none_sum sales = none_over (entries sales)

-- a figure that is nothing at each sale sums to nothing
pub empty_sum : (f : Sale → ℕ) (sales : Sales) → Each (λ x. f x ≡ 0) sales → sum_of f sales ≡ 0
empty_sum f sales all =
    let bound = bounded_sum f (λ x. 0) sales (λ k x is. omega (arith, all k x is)) in
    omega (arith, bound, none_sum sales)

-- a figure so many times
times_among : (n : ℕ) (f : Sale → ℕ) (xs : List Sale)
    → sum_among (λ x. n * f x) xs ≡ n * sum_among f xs
times_among n f [] = sym (mul-zero n)
times_among n f (x ∷ xs) = omega (arith, times_among n f xs, mul-add n (f x) (sum_among f xs))

times_over : (n : ℕ) (f : Sale → ℕ) (es : List (ℕ × List Sale))
    → sum_over (λ x. n * f x) es ≡ n * sum_over f es
times_over n f [] = sym (mul-zero n)
times_over n f (e ∷ es) =
    omega (
      arith,
      times_among n f e.1,
      times_over n f es,
      mul-add n (sum_among f e.1) (sum_over f es),
    )

pub times_sum : (n : ℕ) (f : Sale → ℕ) (sales : Sales)
    → sum_of (λ x. n * f x) sales ≡ n * sum_of f sales
times_sum n f sales = times_over n f (entries sales)
