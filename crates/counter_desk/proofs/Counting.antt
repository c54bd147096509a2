-- Counting: where as many places are marked as there are, each is marked, and what the receipts add
-- up to is what the rows do.
use Rattle.std.proofs.Common.{◌≡◌, ◌≢◌, ℕ, zero, suc, ◌+◌, ◌<◌, ◌≤◌, ◌==◌, Bool, true, false}
use Rattle.std.proofs.Common.{if◌then◌else◌, Option, Some, None, List, [], ◌∷◌, length, slice_get}
use Rattle.std.proofs.Common.{refl, sym, ap, ◌∙◌, arith}
use Rattle.std.proofs.lemmas.Bool.Decides.{nat_tests}
use Rattle.std.specs.List.{AllByRecursion}
use Rattle.site_base.specs.declared.row.Row.{Row}
use Rattle.written_site.specs.RowWords.{total}
use Rattle.counter_desk.specs.declared.receipt.Receipt.{Receipt}
use Rattle.counter_desk.specs.Receipts.{StandsAt, receipted_row}
use Rattle.counter_desk.specs.Settlement.{weigh, weigh_all, one_at, IsInOrder, IsDealt}
use Rattle.counter_desk.specs.Marks.{weigh_marks, AreAllMarked}

-- the weights of so many places, from this one on
abbrev sum_from : (ℕ → ℕ) → ℕ → ℕ → ℕ
sum_from h from zero = 0
sum_from h from (suc n) = h from + sum_from h (suc from) n

-- no more are marked than there are
most : (from : ℕ) (marks : List Bool) → weigh_marks (λ place. 1) from marks ≤ length marks
most from [] = omega arith
most from (true ∷ marks) = let rest = most (suc from) marks in omega (arith, rest)
most from (false ∷ marks) = let rest = most (suc from) marks in omega (arith, rest)

-- where as many are marked as there are, each is
full : (h : ℕ → ℕ) (from : ℕ) (marks : List Bool)
    → weigh_marks (λ place. 1) from marks ≡ length marks
    → weigh_marks h from marks ≡ sum_from h from (length marks)
full h from [] all = refl
full h from (true ∷ marks) all =
    let rest = full h (suc from) marks (omega (arith, all)) in omega (arith, rest)
full h from (false ∷ marks) all =
    let fewer = most (suc from) marks in absurd (omega (arith, all, fewer))

-- ---- weights

-- each receipt once
once_each : (receipts : List Receipt) → weigh (λ place. 1) receipts ≡ length receipts
once_each [] = refl
once_each (r ∷ receipts) = let rest = once_each receipts in omega (arith, rest)

once_in_all : (lists : List (List Receipt)) → weigh_all (λ place. 1) lists ≡ total length lists
once_in_all [] = refl
once_in_all (l ∷ lists) =
    let rest = once_in_all lists in let here = once_each l in omega (arith, rest, here)

-- no place before the first
none_before : (k from n : ℕ) → k < from → sum_from (one_at k) from n ≡ 0
none_before k from zero below = refl
none_before k from (suc n) below =
    let rest = none_before k (suc from) n (omega (arith, below)) in
    let here : one_at k from ≡ 0 = grind (arith, nat_tests) in
    omega (arith, rest, here)

-- each place once
one_place : (k from n : ℕ) → from ≤ k → k < from + n → sum_from (one_at k) from n ≡ 1
one_place k from zero low high = absurd (omega (arith, low, high))
one_place k from (suc n) low high =
    by_test (from == k) refl (λ above. one_place k (suc from) n above (omega (arith, high)))
  where
    by_test : (b : Bool) → (from == k) ≡ b
        → (suc from ≤ k → sum_from (one_at k) (suc from) n ≡ 1)
        → (if b then 1 else 0) + sum_from (one_at k) (suc from) n ≡ 1
    by_test true is later =
        let same : from ≡ k = grind (arith, nat_tests) in
        let rest = none_before k (suc from) n (omega (arith, same)) in omega (arith, rest)
    by_test false is later =
        let apart : from ≢ k = grind (arith, nat_tests) in
        let rest = later (omega (arith, low, apart)) in omega (arith, rest)

-- ---- figures of rows

-- a figure of the row at a place; 0 where there is none
abbrev figure_of : (Row → ℕ) → Option Row → ℕ
figure_of f None = 0
figure_of f (Some row) = f row

shifted : (h g : ℕ → ℕ) (from n : ℕ) → ((k : ℕ) → h (suc k) ≡ g k)
    → sum_from h (suc from) n ≡ sum_from g from n
shifted h g from zero same = refl
shifted h g from (suc n) same =
    let rest = shifted h g (suc from) n same in let here = same from in omega (arith, rest, here)

-- the rows add up to the figures at their places
by_place : (f : Row → ℕ) (rows : List Row)
    → total f rows ≡ sum_from (λ k. figure_of f (slice_get rows k)) 0 (length rows)
by_place f [] = refl
by_place f (row ∷ rows) =
    let rest = by_place f rows in
    let behind = shifted (λ k. figure_of f (slice_get (row ∷ rows) k))
    (λ k. figure_of f (slice_get rows k)) 0 (length rows) (λ k. refl) in
    omega (arith, rest, behind)

-- receipts that are the rows at their places add up to the figures there
standing : (f : Row → ℕ) (rows : List Row) (receipts : List Receipt)
    → AllByRecursion (StandsAt rows) receipts
    → total (λ r. f (receipted_row r)) receipts
    ≡ weigh (λ k. figure_of f (slice_get rows k)) receipts
standing f rows [] all = refl
standing f rows (r ∷ receipts) all =
    let rest = standing f rows receipts all.1 in
    let here : figure_of f (slice_get rows r.place) ≡ f (receipted_row r) =
    ap (figure_of f) all.0 in
    omega (arith, rest, here)

all_standing : (f : Row → ℕ) (rows : List Row) (lists : List (List Receipt))
    → AllByRecursion (IsInOrder rows) lists
    → total (λ l. total (λ r. f (receipted_row r)) l) lists
    ≡ weigh_all (λ k. figure_of f (slice_get rows k)) lists
all_standing f rows [] all = refl
all_standing f rows (l ∷ lists) all =
    let rest = all_standing f rows lists all.1 in
    let here = standing f rows l all.0.stand in
    omega (arith, rest, here)

-- ---- all are marked

-- as many receipts as rows, all marked: however places are weighed, the receipts weigh what the
-- places do
weighs : (rows : List Row) (marks : List Bool) (lists : List (List Receipt))
    → AreAllMarked rows marks lists → length marks ≡ length rows → total length lists ≡ length rows
    → (h : ℕ → ℕ) → weigh_all h lists ≡ sum_from h 0 (length rows)
weighs rows marks lists all same as_many h =
    let every : weigh_marks (λ place. 1) 0 marks ≡ length marks =
    all.weighed (λ place. 1) ∙ once_in_all lists ∙ as_many ∙ sym same in
    sym (all.weighed h) ∙ full h 0 marks every ∙ ap (sum_from h 0) same

pub dealt : (rows : List Row) (marks : List Bool) (lists : List (List Receipt))
    → AreAllMarked rows marks lists → length marks ≡ length rows → total length lists ≡ length rows
    → IsDealt rows lists
dealt rows marks lists all same as_many = record {
  once = λ k within.
      weighs rows marks lists all same as_many (one_at k)
      ∙ one_place k 0 (length rows) (omega arith) (omega (arith, within));
  in_order = all.in_order;
}

-- what the receipts add up to is what the rows do
pub adds_up : (f : Row → ℕ) (rows : List Row) (marks : List Bool) (lists : List (List Receipt))
    → AreAllMarked rows marks lists → length marks ≡ length rows → total length lists ≡ length rows
    → total (λ l. total (λ r. f (receipted_row r)) l) lists ≡ total f rows
adds_up f rows marks lists all same as_many =
    all_standing f rows lists all.in_order
    ∙ weighs rows marks lists all same as_many (λ k. figure_of f (slice_get rows k))
    ∙ sym (by_place f rows)
