-- A till is a member just where it is marked.
use Rattle.std.proofs.Common.{◌≡◌, ℕ, suc, ◌+◌, ◌-◌, ◌<◌, ◌==◌, not, ◌&&◌, ◌||◌, nat_eq, nat_lt}
use Rattle.std.proofs.Common.{Bool, true, false, List, [], ◌∷◌, length, get_or, refl, sym, ap, ◌∙◌}
use Rattle.std.proofs.Common.{if◌then◌else◌, arith}
use Rattle.std.proofs.Math.ListN.{set}
use Rattle.std.proofs.lemmas.Bool.Decides.{nat_tests}
use Rattle.std.proofs.lemmas.Grind.{get_or-set_at}
use Rattle.std.proofs.lemmas.List.{get_or-set_other}
use Rattle.std.specs.List.{list_any}
use Rattle.std.specs.Ordering.{nat_cmp, eq_by_cmp}
use Rattle.std.specs.Cmp.{nat_cmp_total, unsigned_tied}
use Rattle.std.specs.FinSet.{contains, insert, remove, same_set, contains-insert, contains-remove}
use Rattle.std.specs.FinSet.{contains-from_list_nat, nat_cmp-IsAntisymmetric}
use Rattle.site_core.specs.Tills.{marked_from, members}

-- q is marked, where the marks begin with that of n
abbrev is_marked : ℕ → ℕ → List Bool → Bool
is_marked n q marks = if nat_lt q n then false else get_or marks (q - n) false

nothing_marked : (n q : ℕ) → false ≡ is_marked n q []
nothing_marked n q = by_test (nat_lt q n) refl
  where
    by_test : (b : Bool) → nat_lt q n ≡ b → false ≡ is_marked n q []
    by_test true is = rw is refl
    by_test false is = rw is refl

-- the first mark, and those behind it
mark_more : (n q : ℕ) (b : Bool) (marks : List Bool)
    → ((b && nat_eq n q) || is_marked (n + 1) q marks) ≡ is_marked n q (b ∷ marks)
mark_more n q b marks = by_tests (nat_lt q n) refl (nat_eq n q) refl
  where
    by_tests : (below : Bool) → nat_lt q n ≡ below → (here : Bool) → nat_eq n q ≡ here
        → ((b && nat_eq n q) || is_marked (n + 1) q marks) ≡ is_marked n q (b ∷ marks)
    by_tests true is true is' = absurd (grind (arith, nat_tests))
    by_tests true is false is' =
        let later : nat_lt q (n + 1) ≡ true = grind (arith, nat_tests) in
        rw (is, is', later) (and_no b)
      where
        and_no : (a : Bool) → ((a && false) || false) ≡ false
        and_no true = refl
        and_no false = refl
    by_tests false is true is' =
        let later : nat_lt q (n + 1) ≡ true = grind (arith, nat_tests) in
        let same : n ≡ q = grind (arith, nat_tests) in
        let place : q - n ≡ 0 = omega arith in
        rw (is, is', later, place) (and_yes b)
      where
        and_yes : (a : Bool) → ((a && true) || false) ≡ a
        and_yes true = refl
        and_yes false = refl
    by_tests false is false is' =
        let later : nat_lt q (n + 1) ≡ false = grind (arith, nat_tests) in
        let place : q - n ≡ suc (q - (n + 1)) = grind (arith, nat_tests) in
        rw (is, is', later, place) (and_no b)
      where
        and_no : (a : Bool) → ((a && false) || get_or marks (q - (n + 1)) false)
            ≡ get_or marks (q - (n + 1)) false
        and_no true = refl
        and_no false = refl

among_marked : (n q : ℕ) (marks : List Bool)
    → list_any (λ k. nat_eq k q) (marked_from n marks) ≡ is_marked n q marks
among_marked n q [] = nothing_marked n q
among_marked n q (true ∷ marks) =
    ap (λ b. nat_eq n q || b) (among_marked (n + 1) q marks) ∙ mark_more n q true marks
among_marked n q (false ∷ marks) = among_marked (n + 1) q marks ∙ mark_more n q false marks

-- the mark of till t stands in cell t - 1
pub is_member : (marks : List Bool) (q : ℕ) → contains (members marks) q ≡ is_marked 1 q marks
is_member marks q = contains-from_list_nat (marked_from 1 marks) q ∙ among_marked 1 q marks

pub at_cell : (marks : List Bool) (q cell : ℕ) → cell + 1 ≡ q
    → contains (members marks) q ≡ get_or marks cell false
at_cell marks q cell is =
    let first : nat_lt q 1 ≡ false = grind (arith, nat_tests) in
    let place : q - 1 ≡ cell = omega arith in
    is_member marks q ∙ rw (first, place) refl

-- the marks once that of till t is another
other_mark : (marks : List Bool) (q t cell : ℕ) (b : Bool) → cell + 1 ≡ t → (q == t) ≡ false
    → is_marked 1 q (set marks cell b) ≡ is_marked 1 q marks
other_mark marks q t cell b is apart = by_test (nat_lt q 1) refl
  where
    by_test : (none : Bool) → nat_lt q 1 ≡ none
        → is_marked 1 q (set marks cell b) ≡ is_marked 1 q marks
    by_test true below = rw below refl
    by_test false below = rw below
        (get_or-set_other marks cell (q - 1) b false (λ same. other same))
      where
        other : q - 1 ≡ cell → ⊥
        other same = grind (arith, nat_tests)

own_mark : (marks : List Bool) (t cell : ℕ) (b : Bool) → cell + 1 ≡ t → cell < length marks
    → is_marked 1 t (set marks cell b) ≡ b
own_mark marks t cell b is within =
    let first : nat_lt t 1 ≡ false = grind (arith, nat_tests) in
    let place : t - 1 ≡ cell = omega arith in
    rw (first, place) (get_or-set_at marks cell cell b false refl within)

pub marked : (marks : List Bool) (t cell : ℕ) → cell + 1 ≡ t → cell < length marks
    → members (set marks cell true) ≡ insert (members marks) t
marked marks t cell is within = same_set nat_cmp_total nat_cmp-IsAntisymmetric _ _ (λ q.
    is_member (set marks cell true) q ∙ by_test q (q == t) refl
    ∙ sym (contains-insert nat_cmp_total (members marks) t q))
  where
    by_test : (q : ℕ) (b : Bool) → (q == t) ≡ b
        → is_marked 1 q (set marks cell true)
        ≡ (eq_by_cmp nat_cmp q t || contains (members marks) q)
    by_test q true here =
        let same : q ≡ t = grind (arith, nat_tests) in
        let tied : eq_by_cmp nat_cmp q t ≡ true = unsigned_tied q t ∙ here in
        rw tied (ap (λ (r : ℕ). is_marked 1 r (set marks cell true)) same
        ∙ own_mark marks t cell true is within)
    by_test q false apart =
        let tied : eq_by_cmp nat_cmp q t ≡ false = unsigned_tied q t ∙ apart in
        rw tied (other_mark marks q t cell true is apart ∙ sym (is_member marks q))

pub unmarked : (marks : List Bool) (t cell : ℕ) → cell + 1 ≡ t → cell < length marks
    → members (set marks cell false) ≡ remove (members marks) t
unmarked marks t cell is within = same_set nat_cmp_total nat_cmp-IsAntisymmetric _ _ (λ q.
    is_member (set marks cell false) q ∙ by_test q (q == t) refl
    ∙ sym (contains-remove nat_cmp_total (members marks) t q))
  where
    by_test : (q : ℕ) (b : Bool) → (q == t) ≡ b
        → is_marked 1 q (set marks cell false)
        ≡ (not (eq_by_cmp nat_cmp q t) && contains (members marks) q)
    by_test q true here =
        let same : q ≡ t = grind (arith, nat_tests) in
        let tied : eq_by_cmp nat_cmp q t ≡ true = unsigned_tied q t ∙ here in
        rw tied (ap (λ (r : ℕ). is_marked 1 r (set marks cell false)) same
        ∙ own_mark marks t cell false is within)
    by_test q false apart =
        let tied : eq_by_cmp nat_cmp q t ≡ false = unsigned_tied q t ∙ apart in
        rw tied (other_mark marks q t cell false is apart ∙ sym (is_member marks q))
