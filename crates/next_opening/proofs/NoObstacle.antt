-- Nothing hinders just where all is paid and no point is released or has a fuelling under way.
use Rattle.std.proofs.Common.{◌≡◌, ℕ, zero, suc, ◌+◌, ◌≤◌, ◌<◌, ◌==◌, Bool, true, false, List}
use Rattle.std.proofs.Common.{[], ◌∷◌, ◌++◌, map, refl, sym, ap, ◌∙◌, arith}
use Rattle.std.specs.Prelude.{filter, flat_map, if◌then◌else◌}
use Rattle.std.specs.List.{list_all, range_with_len}
use Rattle.std.proofs.lemmas.Bool.{and_parts}
use Rattle.std.proofs.lemmas.Bool.Decides.{nat_tests}
use Rattle.site_base.specs.declared.limits.TheConstants.{POINTS}
use Rattle.site_base.specs.Ranges.{is_between}
use Rattle.fuelling_point.specs.KeptPoints.{is_under_way}
use Rattle.site_book.specs.declared.named_sale.NamedSale.{NamedSale}
use Rattle.site_book.specs.Book.{Book, site_of_book}
use Rattle.site_book.specs.Unpaid.{unpaid_sales}
use Rattle.written_site.specs.SiteState.{facts_of}
use Rattle.written_site.proofs.SoundTables.{itself, same}
use Rattle.next_opening.specs.declared.obstacle.Obstacle.{Obstacle}
use Rattle.next_opening.specs.declared.obstacle.Obstacle.TheVariants.{Unpaid, Released, UnderWay}
use Rattle.next_opening.specs.Obstacles.{IsAtRest, at_point, is_at, is_released, obstacles}
use Rattle.next_opening.specs.Obstacles.{of_state}

-- ---- lists

-- two lists are empty where they are together
none_first : {A : Type 0} (xs ys : List A) → xs ++ ys ≡ [] → xs ≡ []
none_first [] ys is = refl
none_first (x ∷ xs) ys is = cc

none_last : {A : Type 0} (xs ys : List A) → xs ++ ys ≡ [] → ys ≡ []
none_last [] ys is = is
none_last (x ∷ xs) ys is = cc

none_mapped : {A B : Type 0} (f : A → B) (xs : List A) → map f xs ≡ [] → xs ≡ []
none_mapped f [] is = refl
none_mapped f (x ∷ xs) is = cc

-- where nothing is of these numbers, nothing is of each
none_of_each : {A : Type 0} (f : ℕ → List A) (a n p : ℕ)
    → flat_map f (range_with_len a n) ≡ [] → a ≤ p → p < a + n → f p ≡ []
none_of_each f a zero p is low high = absurd (omega (arith, low, high))
none_of_each f a (suc n) p is low high =
    by_test (p == a) refl
    (λ above. none_of_each f (a + 1) n p
    (none_last (f a) (flat_map f (range_with_len (a + 1) n)) is) above (omega (arith, high)))
  where
    above_it : (p == a) ≡ false → a + 1 ≤ p
    above_it other = grind (arith, nat_tests)

    by_test : (b : Bool) → (p == a) ≡ b → (a + 1 ≤ p → f p ≡ []) → f p ≡ []
    by_test true at later =
        ap f (same p a at) ∙ none_first (f a) (flat_map f (range_with_len (a + 1) n)) is
    by_test false other later = later (above_it other)

-- and the other way round
each_of_none : {A : Type 0} (f : ℕ → List A) (a n : ℕ)
    → ((p : ℕ) → a ≤ p → p < a + n → f p ≡ []) → flat_map f (range_with_len a n) ≡ []
each_of_none f a zero each = refl
each_of_none {A} f a (suc n) each =
    ap (λ (xs : List A). xs ++ flat_map f (range_with_len (a + 1) n))
    (each a (omega arith) (omega arith))
    ∙ each_of_none f (a + 1) n (λ p low high. each p (omega (arith, low)) (omega (arith, high)))

-- ---- one point

-- the state hinders nothing
free : (p : ℕ) (a b : Bool)
    → (if a then Released p ∷ [] else if b then UnderWay p ∷ [] else []) ≡ []
    → (a ≡ false) × (b ≡ false)
free p true b is = absurd (let none : (Released p ∷ []) ≡ [] = is in cc)
free p false true is = absurd (let none : (UnderWay p ∷ []) ≡ [] = is in cc)
free p false false is = (refl, refl)

in_range : (n : ℕ) → is_between 1 POINTS n ≡ true → (1 ≤ n) × (n ≤ POINTS)
in_range n is = (grind (arith, nat_tests), grind (arith, nat_tests))

-- sales of no point that may be are none
of_no_point : (xs : List NamedSale)
    → ((p : ℕ) → 1 ≤ p → p ≤ POINTS → filter (is_at p) xs ≡ [])
    → list_all (λ x. is_between 1 POINTS x.point) xs ≡ true → xs ≡ []
of_no_point [] none all = refl
of_no_point (x ∷ xs) none all =
    let within = in_range x.point
    (and_parts (is_between 1 POINTS x.point)
    (list_all (λ y. is_between 1 POINTS y.point) xs) all).0 in
    let kept : filter (is_at x.point) (x ∷ xs) ≡ x ∷ filter (is_at x.point) xs =
    rw (itself x.point) refl in
    absurd (
    let none_left : (x ∷ filter (is_at x.point) xs) ≡ [] =
    sym kept ∙ none x.point within.0 within.1 in
    cc
    )

-- ---- all points

-- what was found at each point is all that hinders
pub all_found : (b : Book) (found : List Obstacle) (unpaid : List NamedSale) (n : ℕ)
    → found ≡ flat_map (at_point (site_of_book b) unpaid) (range_with_len 1 n)
    → unpaid ≡ unpaid_sales b → n ≡ POINTS → found ≡ obstacles b
unfolding obstacles
all_found b found unpaid n is own all =
    is
    ∙ ap (λ (xs : List NamedSale).
    flat_map (at_point (site_of_book b) xs) (range_with_len 1 n)) own
    ∙ ap (λ (m : ℕ).
    flat_map (at_point (site_of_book b) (unpaid_sales b)) (range_with_len 1 m)) all

-- where nothing hinders, nothing does at each point
none_at_each : (b : Book) → obstacles b ≡ [] → (p : ℕ) → 1 ≤ p → p ≤ POINTS
    → at_point (site_of_book b) (unpaid_sales b) p ≡ []
unfolding obstacles
none_at_each b is p low high =
    none_of_each (at_point (site_of_book b) (unpaid_sales b)) 1 POINTS p is low
    (omega (arith, high))

none_unpaid : (b : Book) → obstacles b ≡ [] → (p : ℕ) → 1 ≤ p → p ≤ POINTS
    → filter (is_at p) (unpaid_sales b) ≡ []
none_unpaid b is p low high =
    none_mapped Unpaid (filter (is_at p) (unpaid_sales b))
    (none_first (map Unpaid (filter (is_at p) (unpaid_sales b)))
    (of_state p (facts_of (site_of_book b) p).state) (none_at_each b is p low high))

its_state : (b : Book) → obstacles b ≡ [] → (p : ℕ) → 1 ≤ p → p ≤ POINTS
    → (is_released (facts_of (site_of_book b) p).state ≡ false)
    × (is_under_way (facts_of (site_of_book b) p).state ≡ false)
its_state b is p low high =
    free p (is_released (facts_of (site_of_book b) p).state)
    (is_under_way (facts_of (site_of_book b) p).state)
    (none_last (map Unpaid (filter (is_at p) (unpaid_sales b)))
    (of_state p (facts_of (site_of_book b) p).state) (none_at_each b is p low high))

pub at_rest : (b : Book)
    → list_all (λ x. is_between 1 POINTS x.point) (unpaid_sales b) ≡ true
    → obstacles b ≡ [] → IsAtRest b
at_rest b all is = record {
  paid = of_no_point (unpaid_sales b) (none_unpaid b is) all;
  released = λ p low high. (its_state b is p low high).0;
  under_way = λ p low high. (its_state b is p low high).1;
}

pub no_obstacle : (b : Book) → IsAtRest b → obstacles b ≡ []
unfolding obstacles
no_obstacle b rest =
    each_of_none (at_point (site_of_book b) (unpaid_sales b)) 1 POINTS
    (λ p low high. none_at p low (omega (arith, high)))
  where
    none_at : (p : ℕ) → 1 ≤ p → p ≤ POINTS
        → at_point (site_of_book b) (unpaid_sales b) p ≡ []
    none_at p low high = rw (rest.paid, rest.released p low high, rest.under_way p low high) refl
