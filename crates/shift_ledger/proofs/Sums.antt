-- The figures of each shift are the sums of what was noted while it was open.
use Rattle.std.proofs.Common.{◌≡◌, ◌≢◌, ℕ, Bool, true, false, ◌+◌, ◌-◌, List, [], ◌∷◌, ◌++◌, length}
use Rattle.std.proofs.Common.{Some, None, unwrap_or, ◌==◌, if◌then◌else◌, refl, sym, ap, ◌∙◌, arith}
use Rattle.std.specs.Prelude.{sum_by}
use Rattle.std.specs.List.{AllByRecursion, slice_get}
use Rattle.std.proofs.lemmas.Bool.Decides.{nat_tests}
use Rattle.std.proofs.lemmas.List.Sums.{sum_by-cons}
use Rattle.site_base.specs.declared.limits.TheConstants.{TILL_CELLS, PRODUCT_CELLS}
use Rattle.site_base.proofs.Numbering.{numbered_push_here, numbered_push_other, numbered_next}
use Rattle.shift_ledger.specs.declared.row.ShiftRow.{ShiftRow}
use Rattle.shift_ledger.specs.Figures.{till_figures, product_figure, adjusted_figure}
use Rattle.shift_ledger.specs.Figures.{product_cents_figure, one_clear_more, empty_figures}
use Rattle.shift_ledger.specs.Figures.{with_clear, with_draw}
use Rattle.shift_ledger.specs.Shifts.{Shifts, first_shift, open_number, figures_of, after_close}
use Rattle.shift_ledger.specs.Shifts.{after_clear, after_draw}
use Rattle.shift_ledger.specs.Laws.{ShiftChange, clears, draws, closes, after_changes, IsRow}
use Rattle.shift_ledger.specs.Laws.{HaveRows, IsInRange, noted_in, clear_noted, cents_noted}
use Rattle.shift_ledger.specs.Laws.{clear_of, product_cents_noted, draw_of, AreFiguresSums}
use Rattle.shift_ledger.proofs.Counting.{has_every_figure, is_counted, is_drawn}
use Rattle.shift_ledger.proofs.ClosedShifts.{do_stay, next, nothing}

-- the row of shift n; of one to come, an empty one
abbrev shown : ℕ → Shifts → ShiftRow
shown n s = unwrap_or (figures_of n s) empty_figures

-- the open shift's row after a change that closes nothing
abbrev row_after : ShiftChange → ShiftRow → ShiftRow
row_after (clears t q ml cents) row = with_clear t q ml cents row
row_after (draws q ml) row = with_draw q ml row
row_after closes row = row

-- a close shows each shift as it was: the next one was empty before
shown_closed : (n : ℕ) (s : Shifts) → shown n (after_close s) ≡ shown n s
shown_closed n s = by_test (n == open_number s + 1) refl
  where
    by_test : (b : Bool) → (n == open_number s + 1) ≡ b → shown n (after_close s) ≡ shown n s
    by_test true is =
        let same : n ≡ open_number s + 1 = grind (arith, nat_tests) in
        let count : length (s.closed ++ s.current ∷ []) ≡ open_number s = omega (arith, next s) in
        let here : n ≡ length (s.closed ++ s.current ∷ []) + 1 = omega (arith, same, count) in
        ap (λ (k : ℕ). unwrap_or (figures_of k (after_close s)) empty_figures) here
        ∙ ap (λ o. unwrap_or o empty_figures)
        (numbered_push_here (s.closed ++ s.current ∷ []) empty_figures)
        ∙ sym (ap (λ o. unwrap_or o empty_figures) (numbered_next (s.closed ++ s.current ∷ [])))
        ∙ sym (ap (λ (k : ℕ). unwrap_or (figures_of k s) empty_figures) here)
    by_test false is =
        let apart : n ≢ open_number s + 1 = grind (arith, nat_tests) in
        let count : length (s.closed ++ s.current ∷ []) ≡ open_number s = omega (arith, next s) in
        ap (λ o. unwrap_or o empty_figures)
        (numbered_push_other n (s.closed ++ s.current ∷ []) empty_figures
        (λ is. apart (omega (arith, is, count))))

-- the open shift is shown by its row
shown_open : (n : ℕ) (s : Shifts) → n ≡ open_number s → shown n s ≡ s.current
shown_open n s is =
    ap (λ (k : ℕ). shown k s) is ∙ ap (λ o. unwrap_or o empty_figures) (do_stay.shown s)

-- a shift that isn't open is shown as it was, whatever the open one's row becomes
shown_other : (n : ℕ) (s : Shifts) (row : ShiftRow) → n ≢ open_number s
    → shown n (record { closed = s.closed; current = row }) ≡ shown n s
shown_other n s row apart = ap (λ o. unwrap_or o empty_figures)
    (numbered_push_other n s.closed row apart
    ∙ sym (numbered_push_other n s.closed s.current apart))

-- what a change adds to a figure of the open shift
abbrev Adds : (ShiftRow → ℕ) → (ShiftChange → ℕ) → Type 0
Adds figure weight = (change : ShiftChange) (s : Shifts) → IsRow s.current → IsInRange change
    → figure (row_after change s.current) ≡ figure s.current + weight change

-- one change that closes nothing, and then the others
one_noted : (figure : ShiftRow → ℕ) (weight : ShiftChange → ℕ) → Adds figure weight
    → (change : ShiftChange) (n : ℕ) (s : Shifts) (later : List ShiftChange) (total : ℕ)
    → IsRow s.current → IsInRange change
    → total ≡ figure (shown n (record { closed = s.closed; current = row_after change s.current }))
    + sum_by weight later
    → total ≡ figure (shown n s)
    + sum_by weight (if n == open_number s then change ∷ later else later)
one_noted figure weight adds change n s later total is_row range all =
    by_test (n == open_number s) refl
  where
    by_test : (b : Bool) → (n == open_number s) ≡ b
        → total ≡ figure (shown n s) + sum_by weight (if b then change ∷ later else later)
    by_test true is =
        let same : n ≡ open_number s = grind (arith, nat_tests) in
        let before : figure (shown n s) ≡ figure s.current = ap figure (shown_open n s same) in
        let after : figure (shown n (record {
          closed = s.closed;
          current = row_after change s.current;
        }))
        ≡ figure (row_after change s.current) =
        ap figure (shown_open n (record { closed = s.closed; current = row_after change s.current })
        same) in
        let added = adds change s is_row range in
        let cons : sum_by weight (change ∷ later) ≡ weight change + sum_by weight later =
        sum_by-cons weight change later in
        omega (arith, all, before, after, added, cons)
    by_test false is =
        let apart : n ≢ open_number s = grind (arith, nat_tests) in
        let stays : figure (shown n (record {
          closed = s.closed;
          current = row_after change s.current;
        }))
        ≡ figure (shown n s) =
        ap figure (shown_other n s (row_after change s.current) apart) in
        omega (arith, all, stays)

summed : (figure : ShiftRow → ℕ) (weight : ShiftChange → ℕ) → Adds figure weight
    → (changes : List ShiftChange) (n : ℕ) (s : Shifts) → HaveRows s
    → AllByRecursion IsInRange changes
    → figure (shown n (after_changes changes s))
    ≡ figure (shown n s) + sum_by weight (noted_in n (open_number s) changes)
summed figure weight adds [] n s rows ranges = omega arith
summed figure weight adds (clears t q ml cents ∷ changes) n s rows ranges =
    let new : Shifts = after_clear t q ml cents s in
    one_noted figure weight adds (clears t q ml cents) n s (noted_in n (open_number s) changes)
    (figure (shown n (after_changes changes new))) rows.current ranges.0
    (summed figure weight adds changes n new
    (has_every_figure.after (clears t q ml cents) s rows) ranges.1)
summed figure weight adds (draws q ml ∷ changes) n s rows ranges =
    let new : Shifts = after_draw q ml s in
    one_noted figure weight adds (draws q ml) n s (noted_in n (open_number s) changes)
    (figure (shown n (after_changes changes new))) rows.current ranges.0
    (summed figure weight adds changes n new (has_every_figure.after (draws q ml) s rows) ranges.1)
summed figure weight adds (closes ∷ changes) n s rows ranges =
    let rest = summed figure weight adds changes n (after_close s)
    (has_every_figure.after closes s rows) ranges.1 in
    let before : figure (shown n (after_close s)) ≡ figure (shown n s) =
    ap figure (shown_closed n s) in
    let number : sum_by weight (noted_in n (open_number (after_close s)) changes)
    ≡ sum_by weight (noted_in n (open_number s + 1) changes) =
    ap (λ (k : ℕ). sum_by weight (noted_in n k changes)) (next s) in
    omega (arith, rest, before, number)

-- ---- the five figures

chosen : (b : Bool) (old more : ℕ)
    → (if b then old + more else old) ≡ old + (if b then more else 0)
chosen true old more = refl
chosen false old more = omega arith

first_of_pair : (b : Bool) (t u : ℕ) (s : ShiftRow) (cents : ℕ) → (b ≡ true → u ≡ t)
    → (if b then one_clear_more cents (till_figures t s) else till_figures u s).0
    ≡ (till_figures u s).0 + (if b then 1 else 0)
first_of_pair true t u s cents same = ap (λ (k : ℕ). (till_figures k s).0 + 1) (sym (same refl))
first_of_pair false t u s cents same = omega arith

second_of_pair : (b : Bool) (t u : ℕ) (s : ShiftRow) (cents : ℕ) → (b ≡ true → u ≡ t)
    → (if b then one_clear_more cents (till_figures t s) else till_figures u s).1
    ≡ (till_figures u s).1 + (if b then cents else 0)
second_of_pair true t u s cents same =
    ap (λ (k : ℕ). (till_figures k s).1 + cents) (sym (same refl))
second_of_pair false t u s cents same = omega arith

of_product : (b : Bool) (q r : ℕ) (figure : ℕ → ℕ) (ml : ℕ) → (b ≡ true → r ≡ q)
    → (if b then figure q + ml else figure r) ≡ figure r + (if b then ml else 0)
of_product true q r figure ml same = ap (λ (k : ℕ). figure k + ml) (sym (same refl))
of_product false q r figure ml same = omega arith

same_number : (a b : ℕ) → (a == b) ≡ true → a ≡ b
same_number a b is = grind (arith, nat_tests)

clears_add : (u : ℕ) → Adds (λ row. (till_figures u row).0) (clear_noted u)
clears_add u (clears t q ml cents) s is_row (low, high, product, most) =
    ap (λ (x : ℕ × ℕ). x.0) (is_counted.by_till t q ml cents u s is_row low high)
    ∙ first_of_pair (u == t) t u s.current cents (same_number u t)
clears_add u (draws q ml) s is_row range = omega arith
clears_add u closes s is_row range = omega arith

cents_add : (u : ℕ) → Adds (λ row. (till_figures u row).1) (cents_noted u)
cents_add u (clears t q ml cents) s is_row (low, high, product, most) =
    ap (λ (x : ℕ × ℕ). x.1) (is_counted.by_till t q ml cents u s is_row low high)
    ∙ second_of_pair (u == t) t u s.current cents (same_number u t)
cents_add u (draws q ml) s is_row range = omega arith
cents_add u closes s is_row range = omega arith

cleared_add : (r : ℕ) → Adds (product_figure r) (clear_of r)
cleared_add r (clears t q ml cents) s is_row (low, high, product, most) =
    is_counted.by_product t q ml cents r s is_row product most
    ∙ of_product (r == q) q r (λ k. product_figure k s.current) ml (same_number r q)
cleared_add r (draws q ml) s is_row range = omega arith
cleared_add r closes s is_row range = omega arith

product_cents_add : (r : ℕ) → Adds (product_cents_figure r) (product_cents_noted r)
product_cents_add r (clears t q ml cents) s is_row (low, high, product, most) =
    is_counted.product_cents t q ml cents r s is_row product most
    ∙ of_product (r == q) q r (λ k. product_cents_figure k s.current) cents (same_number r q)
product_cents_add r (draws q ml) s is_row range = omega arith
product_cents_add r closes s is_row range = omega arith

drawn_add : (r : ℕ) → Adds (adjusted_figure r) (draw_of r)
drawn_add r (clears t q ml cents) s is_row range = omega arith
drawn_add r (draws q ml) s is_row (low, high) =
    is_drawn.by_product q ml r s is_row low high
    ∙ of_product (r == q) q r (λ k. adjusted_figure k s.current) ml (same_number r q)
drawn_add r closes s is_row range = omega arith

-- ---- from the first shift on

-- before anything is noted, every shift is shown empty
shown_first : (n : ℕ) → shown n first_shift ≡ empty_figures
shown_first n = by_test (n == 1) refl
  where
    no_member : (b : Bool)
        → unwrap_or (if b then None else slice_get {X = ShiftRow} [] (n - 1)) empty_figures
        ≡ empty_figures
    no_member true = refl
    no_member false = refl

    by_test : (b : Bool) → (n == 1) ≡ b → shown n first_shift ≡ empty_figures
    by_test true is =
        let one : n ≡ 1 = grind (arith, nat_tests) in ap (λ (k : ℕ). shown k first_shift) one
    by_test false is =
        let apart : n ≢ 1 = grind (arith, nat_tests) in
        ap (λ o. unwrap_or o empty_figures) (numbered_push_other n [] empty_figures apart)
        ∙ no_member (n == 0)

from_nothing : (figure : ShiftRow → ℕ) (weight : ShiftChange → ℕ) → Adds figure weight
    → figure empty_figures ≡ 0
    → (changes : List ShiftChange) (n : ℕ) (row : ShiftRow) → AllByRecursion IsInRange changes
    → figures_of n (after_changes changes first_shift) ≡ Some row
    → figure row ≡ sum_by weight (noted_in n 1 changes)
from_nothing figure weight adds none changes n row ranges is =
    let all = summed figure weight adds changes n first_shift has_every_figure.first ranges in
    let end : figure (shown n (after_changes changes first_shift)) ≡ figure row =
    ap (λ o. figure (unwrap_or o empty_figures)) is in
    let begun : figure (shown n first_shift) ≡ 0 = ap figure (shown_first n) ∙ none in
    omega (arith, all, end, begun)

pub are_figures_sums : AreFiguresSums
are_figures_sums changes n row ranges is = record {
  clears = λ t. from_nothing (λ r. (till_figures t r).0) (clear_noted t) (clears_add t)
      (ap (λ (x : ℕ × ℕ). x.0) (nothing TILL_CELLS t (0, 0))) changes n row ranges is;
  cents = λ t. from_nothing (λ r. (till_figures t r).1) (cents_noted t) (cents_add t)
      (ap (λ (x : ℕ × ℕ). x.1) (nothing TILL_CELLS t (0, 0))) changes n row ranges is;
  products = λ q. from_nothing (product_figure q) (clear_of q) (cleared_add q)
      (nothing PRODUCT_CELLS q 0) changes n row ranges is;
  product_cents = λ q. from_nothing (product_cents_figure q) (product_cents_noted q)
      (product_cents_add q) (nothing PRODUCT_CELLS q 0) changes n row ranges is;
  adjusted = λ q. from_nothing (adjusted_figure q) (draw_of q) (drawn_add q)
      (nothing PRODUCT_CELLS q 0) changes n row ranges is;
}
