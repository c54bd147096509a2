-- The members of a set of points in rising order, as a walk from the first one finds them.
use Rattle.std.proofs.Common.{◌≡◌, ◌≢◌, ℕ, zero, suc, ◌+◌, ◌<◌, ◌≤◌, Bool, true, false, not, ◌&&◌}
use Rattle.std.proofs.Common.{◌==◌, List, [], ◌∷◌, length, get_or, Option, Some, None}
use Rattle.std.proofs.Common.{if◌then◌else◌, inl, inr, refl, sym, ap, ◌∙◌, arith}
use Rattle.std.proofs.lemmas.Bool.{cases_eq}
use Rattle.std.proofs.lemmas.Bool.Decides.{nat_tests}
use Rattle.site_base.specs.declared.limits.TheConstants.{POINTS}
use Rattle.site_base.specs.Cells.{entries_from}
use Rattle.site_base.specs.PointSets.{has_point, IsWithout, NoneBefore}
use Rattle.fuelling_point.specs.Holds.{is_held_by, points_of}

-- those of so many numbers from n on that are members of the set
members_from : ℕ → ℕ → ℕ → List ℕ
members_from n zero s = []
members_from n (suc count) s =
    if has_point n s then n ∷ members_from (n + 1) count s else members_from (n + 1) count s

pub members : ℕ → List ℕ
members s = members_from 1 POINTS s

none_from : (n count s : ℕ) → 1 ≤ n → NoneBefore (n + count) s → members_from n count s ≡ []
unfolding members_from
none_from n zero s low none = refl
none_from n (suc count) s low none =
    rw (none n low (omega arith)) (none_from (n + 1) count s (omega arith)
    (λ q from before. none q from (omega arith)))

-- an empty set
pub no_members : (s : ℕ) → NoneBefore (POINTS + 1) s → members s ≡ []
unfolding members
no_members s none = none_from 1 POINTS s (omega arith) (λ q from before. none q from (omega arith))

-- sets with the same points from n on
same_from : (n count a b : ℕ) → ((q : ℕ) → n ≤ q → q < n + count → has_point q a ≡ has_point q b)
    → members_from n count a ≡ members_from n count b
unfolding members_from
same_from n zero a b same = refl
same_from n (suc count) a b same =
    let later : members_from (n + 1) count a ≡ members_from (n + 1) count b =
    same_from (n + 1) count a b (λ q from before. same q (omega arith) (omega arith)) in
    rw (same n (omega arith) (omega arith), later) refl

first_from : (n count p a b : ℕ) → 1 ≤ n → n ≤ p → p < n + count → n + count ≤ POINTS + 1
    → has_point p a ≡ true
    → NoneBefore p a → IsWithout p a b → members_from n count a ≡ p ∷ members_from n count b
unfolding members_from
first_from n zero p a b low from before most member none without = absurd (omega arith)
first_from n (suc count) p a b low from before most member none without =
    elim (cases_eq n p) [
      | inl here ↦
          let gone : has_point n b ≡ false =
          without n low (omega arith) ∙ ap (λ x. not x && has_point n a) (same_number n p here) in
          let is : has_point n a ≡ true = ap (λ x. has_point x a) here ∙ member in
          let later : members_from (n + 1) count a ≡ members_from (n + 1) count b =
          same_from (n + 1) count a b (λ q after within.
          sym (without q (omega arith) (omega arith)
          ∙ ap (λ x. not x && has_point q a) (other_number q p (omega arith)))) in
          rw (gone, is, later) (ap (λ x. x ∷ members_from (n + 1) count b) here)
      | inr other ↦
          let none_here : has_point n a ≡ false = none n low (omega arith) in
          let none_left : has_point n b ≡ false =
          without n low (omega arith)
          ∙ ap (λ x. not x && has_point n a) (other_number n p other) ∙ none_here in
          rw (none_here, none_left)
          (first_from (n + 1) count p a b (omega arith) (omega arith) (omega arith) (omega arith)
          member none without)
    ]
  where
    same_number : (q r : ℕ) → q ≡ r → (q == r) ≡ true
    same_number q r same = grind (arith, nat_tests)

    other_number : (q r : ℕ) → q ≢ r → (q == r) ≡ false
    other_number q r other = grind (arith, nat_tests)

-- the first member, and then those of the set without it
pub first_of_members : (p a b : ℕ) → 1 ≤ p → p ≤ POINTS → has_point p a ≡ true → NoneBefore p a
    → IsWithout p a b
    → members a ≡ p ∷ members b
unfolding members
first_of_members p a b low high member none without =
    first_from 1 POINTS p a b (omega arith) low (omega arith) (omega arith) member none without

-- the members of a till's set are the points that it holds
members_held : (t n s : ℕ) (cells : List (Option ℕ))
    → ((i : ℕ) → i < length cells → has_point (n + i) s ≡ is_held_by t (get_or cells i None))
    → members_from n (length cells) s ≡ points_of t (entries_from n cells)
unfolding members_from
members_held t n s [] each = refl
members_held t n s (None ∷ cells) each =
    let none : has_point n s ≡ false = ap (λ x. has_point x s) (omega arith)
    ∙ each 0 (omega arith) in
    rw none (members_held t (n + 1) s cells (λ i within.
    ap (λ x. has_point x s) (omega arith) ∙ each (suc i) (omega arith)))
members_held t n s (Some holder ∷ cells) each =
    by_test (members_held t (n + 1) s cells (λ i within.
    ap (λ x. has_point x s) (omega arith) ∙ each (suc i) (omega arith)))
    (ap (λ x. has_point x s) (omega arith) ∙ each 0 (omega arith)) (holder == t) refl
  where
    by_test : members_from (n + 1) (length cells) s ≡ points_of t (entries_from (n + 1) cells)
        → has_point n s ≡ (holder == t) → (b : Bool) → (holder == t) ≡ b
        → members_from n (suc (length cells)) s ≡ points_of t (entries_from n (Some holder ∷ cells))
    by_test later here true is = rw (here, is) (ap (λ xs. n ∷ xs) later)
    by_test later here false is = rw (here, is) later

pub all_held : (t s : ℕ) (cells : List (Option ℕ)) → length cells ≡ POINTS
    → ((i : ℕ) → i < length cells → has_point (i + 1) s ≡ is_held_by t (get_or cells i None))
    → members s ≡ points_of t (entries_from 1 cells)
unfolding members
all_held t s cells count each =
    ap (λ x. members_from 1 x s) (sym count)
    ∙ members_held t 1 s cells (λ i within. ap (λ x. has_point x s) (omega arith) ∙ each i within)
