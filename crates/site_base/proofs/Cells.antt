-- What a cell says of its number, and what a write to one cell changes.
use Rattle.std.proofs.Common.{◌≡◌, ◌≢◌, ℕ, zero, suc, ◌+◌, ◌<◌, ◌==◌, ◌&&◌, T, Bool, true, false}
use Rattle.std.proofs.Common.{cond, List, [], ◌∷◌, length, get_or, Option, Some, None, Less, refl}
use Rattle.std.proofs.Common.{sym, ap, subst, ◌∙◌, arith}
use Rattle.std.proofs.Math.ListN.{set}
use Rattle.std.proofs.lemmas.Bool.Decides.{nat_tests}
use Rattle.std.specs.Ordering.{nat_cmp, eq_by_cmp, is_lt}
use Rattle.std.specs.Cmp.{nat_cmp_total, nat_cmp_is, unsigned_tied}
use Rattle.std.specs.FinMap as map
use Rattle.std.specs.FinMap.{FinMap, find, entries, same_map, get-from_entries, get-insert}
use Rattle.std.specs.FinMap.{get-remove, get-from_sorted, entries-from_sorted}
use Rattle.std.specs.FinMap.{nat_cmp-IsAntisymmetric, is_sorted}
use Rattle.std.specs.FinMap.Entries.{below_all}
use Rattle.site_base.specs.Cells.{entries_from}

-- the test of a map, at numbers that differ and at numbers that are one
pub apart : (q p : ℕ) → q ≢ p → eq_by_cmp nat_cmp q p ≡ false
apart q p other = unsigned_tied q p ∙ grind (arith, nat_tests)

pub alike : (q p : ℕ) → q ≡ p → eq_by_cmp nat_cmp q p ≡ true
alike q p same = unsigned_tied q p ∙ grind (arith, nat_tests)

tied : (q p : ℕ) → eq_by_cmp nat_cmp q p ≡ true → q ≡ p
tied q p is = let same : (q == p) ≡ true = sym (unsigned_tied q p) ∙ is in grind (arith, nat_tests)

both : (a b : Bool) → T a → T b → T (a && b)
both true b p q = q
both false b p q = p

below : (x p : ℕ) → x < p → T (is_lt (nat_cmp x p))
below x p earlier = subst (λ o. T (is_lt o)) (nat_cmp_is x p Less earlier) tt

-- the cells of the numbers from p on say nothing of a number before them
find_before : {V : Type 0} (p : ℕ) (cells : List (Option V)) (q : ℕ) → q < p
    → find nat_cmp q (entries_from p cells) ≡ None
find_before p [] q below = refl
find_before p (None ∷ cells) q below = find_before (p + 1) cells q (omega arith)
find_before p (Some v ∷ cells) q below =
    rw (apart q p (omega arith)) (find_before (p + 1) cells q (omega arith))

-- the first cell is that of p, and the others are those of the numbers after it
find-cons : {V : Type 0} (p : ℕ) (cell : Option V) (cells : List (Option V)) (q : ℕ)
    → find nat_cmp q (entries_from p (cell ∷ cells))
    ≡ cond (eq_by_cmp nat_cmp q p) cell (find nat_cmp q (entries_from (p + 1) cells))
find-cons p (Some v) cells q = refl
find-cons p None cells q = by_test (eq_by_cmp nat_cmp q p) refl
  where
    by_test : (b : Bool) → eq_by_cmp nat_cmp q p ≡ b
        → find nat_cmp q (entries_from (p + 1) cells)
        ≡ cond b None (find nat_cmp q (entries_from (p + 1) cells))
    by_test true is = let same : q ≡ p = tied q p is in find_before (p + 1) cells q (omega arith)
    by_test false is = refl

-- the cell at i is that of the number p + i
find_cell : {V : Type 0} (p q : ℕ) (cells : List (Option V)) (i : ℕ) → q ≡ p + i → i < length cells
    → find nat_cmp q (entries_from p cells) ≡ get_or cells i None
find_cell p q [] i place within = absurd (omega arith)
find_cell p q (cell ∷ cells) zero place within = find-cons p cell cells q
    ∙ rw (alike q p (omega arith)) refl
find_cell p q (cell ∷ cells) (suc i) place within = find-cons p cell cells q
    ∙ rw (apart q p (omega arith)) (find_cell (p + 1) q cells i (omega arith) (omega arith))

written_here : {V : Type 0} (b : Bool) (cell old rest : Option V)
    → cond b cell rest ≡ cond b cell (cond b old rest)
written_here true cell old rest = refl
written_here false cell old rest = refl

written_later : {V : Type 0} (a b : Bool) (cell old rest : Option V) → (a ≡ true → b ≡ false)
    → cond a old (cond b cell rest) ≡ cond b cell (cond a old rest)
written_later true b cell old rest other = rw (other refl) refl
written_later false b cell old rest other = refl

-- a write to the cell at i changes what is said of the number p + i, and nothing else
find_written : {V : Type 0} (p r : ℕ) (cells : List (Option V)) (i : ℕ) (cell : Option V) (q : ℕ)
    → r ≡ p + i → i < length cells
    → find nat_cmp q (entries_from p (set cells i cell))
    ≡ cond (eq_by_cmp nat_cmp q r) cell (find nat_cmp q (entries_from p cells))
find_written p r [] i cell q place within = absurd (omega arith)
find_written p r (old ∷ cells) zero cell q place within =
    let here : r ≡ p = omega arith in
    rw (here, find-cons p old cells q)
    (find-cons p cell cells q ∙ written_here (eq_by_cmp nat_cmp q p) cell old
    (find nat_cmp q (entries_from (p + 1) cells)))
find_written p r (old ∷ cells) (suc i) cell q place within =
    let later : eq_by_cmp nat_cmp q p ≡ true
    → eq_by_cmp nat_cmp q r ≡ false = λ is. let same : q ≡ p =
    tied q p is in apart q r (omega arith) in
    find-cons p old (set cells i cell) q
    ∙ ap (cond (eq_by_cmp nat_cmp q p) old)
    (find_written (p + 1) r cells i cell q (omega arith) (omega arith))
    ∙ written_later (eq_by_cmp nat_cmp q p) (eq_by_cmp nat_cmp q r) cell old
    (find nat_cmp q (entries_from (p + 1) cells)) later
    ∙ ap (cond (eq_by_cmp nat_cmp q r) cell) (sym (find-cons p old cells q))

-- the finite map that the cells stand for
abbrev pub map_in : {V : Type 0} → List (Option V) → FinMap nat_cmp V
map_in cells = map.from_entries (entries_from 1 cells)

get_map : {V : Type 0} (cells : List (Option V)) (q : ℕ)
    → map.get (map_in cells) q ≡ find nat_cmp q (entries_from 1 cells)
get_map cells q = get-from_entries nat_cmp_total (entries_from 1 cells) q

-- what a cell holds is what the map has at its number
pub cell_read : {V : Type 0} (cells : List (Option V)) (i p : ℕ) → i + 1 ≡ p → i < length cells
    → map.get (map_in cells) p ≡ get_or cells i None
cell_read cells i p place within = get_map cells p ∙ find_cell 1 p cells i (omega arith) within

-- to fill a cell is to insert
pub cell_filled : {V : Type 0} (cells : List (Option V)) (i p : ℕ) (v : V) → i + 1 ≡ p
    → i < length cells → map_in (set cells i (Some v)) ≡ map.insert (map_in cells) p v
cell_filled cells i p v place within = same_map nat_cmp_total nat_cmp-IsAntisymmetric _ _ (λ q.
    get_map (set cells i (Some v)) q
    ∙ find_written 1 p cells i (Some v) q (omega arith) within
    ∙ ap (cond (eq_by_cmp nat_cmp q p) (Some v)) (sym (get_map cells q))
    ∙ sym (get-insert nat_cmp_total (map_in cells) p v q))

-- to empty a cell is to remove
pub cell_emptied : {V : Type 0} (cells : List (Option V)) (i p : ℕ) → i + 1 ≡ p → i < length cells
    → map_in (set cells i None) ≡ map.remove (map_in cells) p
cell_emptied cells i p place within = same_map nat_cmp_total nat_cmp-IsAntisymmetric _ _ (λ q.
    get_map (set cells i None) q
    ∙ find_written 1 p cells i None q (omega arith) within
    ∙ ap (cond (eq_by_cmp nat_cmp q p) None) (sym (get_map cells q))
    ∙ sym (get-remove nat_cmp_total (map_in cells) p q))

-- the numbers of these cells all stand after an earlier one
below_entries : {V : Type 0} (x p : ℕ) (cells : List (Option V)) → x < p
    → T (below_all nat_cmp x (entries_from p cells))
below_entries x p [] earlier = tt
below_entries x p (None ∷ cells) earlier = below_entries x (p + 1) cells (omega arith)
below_entries x p (Some v ∷ cells) earlier =
    both (is_lt (nat_cmp x p)) _ (below x p earlier) (below_entries x (p + 1) cells (omega arith))

-- so they stand in rising order
rising : {V : Type 0} (p : ℕ) (cells : List (Option V))
    → T (is_sorted nat_cmp (entries_from p cells))
rising p [] = tt
rising p (None ∷ cells) = rising (p + 1) cells
rising p (Some v ∷ cells) = both (below_all nat_cmp p (entries_from (p + 1) cells)) _
    (below_entries p (p + 1) cells (omega arith)) (rising (p + 1) cells)

-- the map's entries are those of the cells, in their order
pub entries_of_cells : {V : Type 0} (cells : List (Option V))
    → entries (map_in cells) ≡ entries_from 1 cells
entries_of_cells cells =
    ap entries (same_map nat_cmp_total nat_cmp-IsAntisymmetric _ _
    (λ q. get_map cells q ∙ sym (get-from_sorted nat_cmp (entries_from 1 cells) q
    (rising 1 cells))))
    ∙ entries-from_sorted nat_cmp (entries_from 1 cells) (rising 1 cells)
