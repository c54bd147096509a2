-- A clear that is noted in the ledger: the ledger keeps the figures of the sales.
use Rattle.std.proofs.Common.{◌≡◌, ℕ, ◌+◌, ◌-◌, ◌≤◌, ◌==◌, ◌&&◌, Bool, true, false, cond, List, []}
use Rattle.std.proofs.Common.{◌∷◌, ◌++◌, map, length, get_or, Some, unwrap_or, refl, sym, ap, subst}
use Rattle.std.proofs.Common.{◌∙◌, arith, ◌^◌, ◌<◌, zero, suc, inl, inr}
use Rattle.std.proofs.Math.ListN.{set}
use Rattle.std.specs.List.{list_all}
use Rattle.std.proofs.lemmas.Bool.{cases_lt}
use Rattle.std.proofs.lemmas.Bool.Decides.{nat_tests}
use Rattle.std.proofs.lemmas.Option.{slice_get_past}
use Rattle.site_base.specs.declared.limits.TheConstants.{PRODUCTS, TILLS}
use Rattle.site_base.specs.Members.{member, with_numbered}
use Rattle.site_base.proofs.Numbering.{length-with_numbered, numbered_place, numbered_with_other}
use Rattle.site_base.proofs.Numbering.{numbered_with_same, numbered_within, with_numbered_place}
use Rattle.shift_ledger.specs.declared.row.ShiftRow.{ShiftRow}
use Rattle.shift_ledger.specs.Figures.{FitsClear, one_clear_more, product_figure, till_figures}
use Rattle.shift_ledger.specs.Figures.{product_cents_figure, with_clear}
use Rattle.shift_ledger.specs.Laws.{IsRow, clears}
use Rattle.shift_ledger.specs.Shifts.{Shifts, after_clear, open_number}
use Rattle.shift_ledger.proofs.Counting.{has_every_figure}
use Rattle.transaction_buffer.specs.Sales.{Sale, Sales}
use Rattle.written_site.specs.FigureSteps.{HasClear}
use Rattle.written_site.specs.ShiftFigures.{cents_by, cents_in, cleared_in, clears_by, clears_in}
use Rattle.written_site.specs.ShiftFigures.{product_cents_in}
use Rattle.site_core.specs.Accounts.{AreDrawn, AreFigures, draws_of, row_in, total_of}
use Rattle.site_core.specs.Accounts.{with_one_more}
use Rattle.transaction_buffer.specs.Clears.{FitsOneClear}
use Rattle.written_site.specs.Sound.{is_draw_row}
use Rattle.written_site.specs.Volumes.{drawn_of}
use Rattle.site_core.proofs.AccountFigures.{both, row_open, row_other}
use Rattle.site_core.proofs.NumberedCells.{member_at}

-- ---- a figure that is changed

-- a member that is changed shows the change, and every other stays
changed : {A : Type 0} (n m : ℕ) (xs : List A) (change : A → A) (d : A) → 1 ≤ m → m ≤ length xs
    → unwrap_or (member m (with_numbered n (change (unwrap_or (member n xs) d)) xs)) d
    ≡ cond (m == n) (change (unwrap_or (member m xs) d)) (unwrap_or (member m xs) d)
changed n m xs change d low high = by_test (m == n) refl
  where
    by_test : (b : Bool) → (m == n) ≡ b
        → unwrap_or (member m (with_numbered n (change (unwrap_or (member n xs) d)) xs)) d
        ≡ cond b (change (unwrap_or (member m xs) d)) (unwrap_or (member m xs) d)
    by_test true is =
        let same : m ≡ n = grind (arith, nat_tests) in
        let there : member n xs ≡ Some (get_or xs (n - 1) d) =
        numbered_within n xs (n - 1) d (omega arith) (omega arith) in
        ap (λ (k : ℕ). unwrap_or (member k
        (with_numbered n (change (unwrap_or (member n xs) d)) xs)) d) same
        ∙ ap (λ o. unwrap_or o d) (numbered_with_same n xs (get_or xs (n - 1) d)
        (change (unwrap_or (member n xs) d)) there)
        ∙ ap (λ (k : ℕ). change (unwrap_or (member k xs) d)) (sym same)
    by_test false is = ap (λ o. unwrap_or o d)
        (numbered_with_other n m xs (change (unwrap_or (member n xs) d))
        (grind (arith, nat_tests)))

-- what the open shift's row changes, its number shows; every other shift's figure stays
shown_in : {A : Type 0} (g : ℕ) (shifts : Shifts) (new : ShiftRow) (figure : ShiftRow → A)
    (change : A → A) (b : Bool)
    → figure new ≡ cond b (change (figure shifts.current)) (figure shifts.current)
    → figure (row_in g (record { closed = shifts.closed; current = new }))
    ≡ cond (g == open_number shifts && b) (change (figure (row_in g shifts)))
    (figure (row_in g shifts))
shown_in g shifts new figure change b current = by_shift (g == open_number shifts) refl
  where
    by_shift : (here : Bool) → (g == open_number shifts) ≡ here
        → figure (row_in g (record { closed = shifts.closed; current = new }))
        ≡ cond (here && b) (change (figure (row_in g shifts))) (figure (row_in g shifts))
    by_shift true is =
        let same : g ≡ open_number shifts = grind (arith, nat_tests) in
        ap figure (row_open g (record { closed = shifts.closed; current = new }) same)
        ∙ current
        ∙ ap (λ row. cond b (change (figure row)) (figure row)) (sym (row_open g shifts same))
    by_shift false is =
        ap figure (row_other g shifts.closed shifts.current new (grind (arith, nat_tests)))

-- a till's clears and their cents, with one more where it is that till
pair_more : (b : Bool) (count sum cents : ℕ)
    → cond b (one_clear_more cents (count, sum)) (count, sum)
    ≡ (count + cond b 1 0, sum + cond b cents 0)
pair_more true count sum cents = refl
pair_more false count sum cents =
    both count (count + 0) sum (sum + 0) (omega arith) (omega arith)

sum_more : (b : Bool) (sum more : ℕ) → cond b (sum + more) sum ≡ sum + cond b more 0
sum_more true sum more = refl
sum_more false sum more = omega arith

-- ---- one clear

till_after : (g u t q volume cents : ℕ) (shifts : Shifts) → IsRow shifts.current → 1 ≤ u → u ≤ TILLS
    → till_figures u (row_in g (after_clear t q volume cents shifts))
    ≡ cond (g == open_number shifts && u == t)
    (one_clear_more cents (till_figures u (row_in g shifts))) (till_figures u (row_in g shifts))
till_after g u t q volume cents shifts row low high =
    shown_in g shifts (with_clear t q volume cents shifts.current) (till_figures u)
    (one_clear_more cents) (u == t)
    (changed t u shifts.current.tills (one_clear_more cents) (0, 0) low (omega (arith, row.tills)))

product_after : (g r t q volume cents : ℕ) (shifts : Shifts) → IsRow shifts.current → 1 ≤ r
    → r ≤ PRODUCTS
    → product_figure r (row_in g (after_clear t q volume cents shifts))
    ≡ cond (g == open_number shifts && r == q)
    (product_figure r (row_in g shifts) + volume) (product_figure r (row_in g shifts))
product_after g r t q volume cents shifts row low high =
    shown_in g shifts (with_clear t q volume cents shifts.current) (product_figure r)
    (λ sum. sum + volume) (r == q)
    (changed q r shifts.current.products (λ sum. sum + volume) 0 low (omega (arith, row.products)))

product_cents_after : (g r t q volume cents : ℕ) (shifts : Shifts) → IsRow shifts.current → 1 ≤ r
    → r ≤ PRODUCTS
    → product_cents_figure r (row_in g (after_clear t q volume cents shifts))
    ≡ cond (g == open_number shifts && r == q)
    (product_cents_figure r (row_in g shifts) + cents) (product_cents_figure r (row_in g shifts))
product_cents_after g r t q volume cents shifts row low high =
    shown_in g shifts (with_clear t q volume cents shifts.current) (product_cents_figure r)
    (λ sum. sum + cents) (r == q)
    (changed q r shifts.current.product_cents (λ sum. sum + cents) 0 low
    (omega (arith, row.product_cents)))

pub cleared_once : (old new : Sales) (shifts : Shifts) (totals : List (ℕ × ℕ)) (t : ℕ) (x : Sale)
    → HasClear old new t (open_number shifts) x → AreFigures old shifts totals
    → AreFigures new (after_clear t x.product x.volume x.cents shifts)
    (with_one_more t x.cents totals)
cleared_once old new shifts totals t x clear kept = record {
  rows = has_every_figure.after (clears t x.product x.volume x.cents) shifts kept.rows;
  cells = length-with_numbered t _ totals ∙ kept.cells;
  clears = λ g u low high.
      till_after g u t x.product x.volume x.cents shifts kept.rows.current low high
      ∙ ap (λ f. cond (g == open_number shifts && u == t) (one_clear_more x.cents f) f)
      (kept.clears g u low high)
      ∙ pair_more (g == open_number shifts && u == t) (clears_in g u old) (cents_in g u old) x.cents
      ∙ sym (both _ _ _ _ (clear.clears g u) (clear.cents g u));
  cleared = λ g r low high.
      product_after g r t x.product x.volume x.cents shifts kept.rows.current low high
      ∙ ap (λ f. cond (g == open_number shifts && r == x.product) (f + x.volume) f)
      (kept.cleared g r low high)
      ∙ sum_more (g == open_number shifts && r == x.product) (cleared_in g r old) x.volume
      ∙ sym (clear.cleared g r);
  product_cents = λ g r low high.
      product_cents_after g r t x.product x.volume x.cents shifts kept.rows.current low high
      ∙ ap (λ f. cond (g == open_number shifts && r == x.product) (f + x.cents) f)
      (kept.product_cents g r low high)
      ∙ sum_more (g == open_number shifts && r == x.product) (product_cents_in g r old) x.cents
      ∙ sym (clear.product_cents g r);
  all = λ u low high.
      changed t u totals (one_clear_more x.cents) (0, 0) low (omega (arith, kept.cells, high))
      ∙ ap (λ f. cond (u == t) (one_clear_more x.cents f) f) (kept.all u low high)
      ∙ pair_more (u == t) (clears_by u old) (cents_by u old) x.cents
      ∙ sym (both _ _ _ _ (clear.all_clears u) (clear.all_cents u));
}

-- ---- its sums fit

-- a figure that is as told where there is one, and else as little as can be
told_or : {A : Type 0} (Holds : A → Type 0) (f : ℕ → A) (d : A) (n count : ℕ) (xs : List A)
    → length xs ≡ count
    → ((m : ℕ) → 1 ≤ m → m ≤ count → unwrap_or (member m xs) d ≡ f m)
    → Holds (f n) → Holds d → Holds (unwrap_or (member n xs) d)
told_or Holds f d zero count xs size told there none = none
told_or Holds f d (suc n) count xs size told there none = elim (cases_lt n count) [
  | inl within ↦ subst Holds (sym (told (suc n) (omega arith) (omega arith))) there
  | inr beyond ↦ subst Holds
      (sym (ap (λ o. unwrap_or o d) (numbered_place (suc n) xs (omega arith)
      ∙ slice_get_past xs (suc n - 1) (omega (arith, size))))) none
]

-- the open shift's sums of a till and a product, and that till's of all shifts, stay in 64 bits
pub clear_fits : (sales : Sales) (shifts : Shifts) (totals : List (ℕ × ℕ)) (t : ℕ) (x : Sale)
    → AreFigures sales shifts totals → FitsOneClear (open_number shifts) t x sales
    → FitsClear t x.product x.volume x.cents shifts.current
    × ((total_of t totals).0 + 1 < 2 ^ 64) × ((total_of t totals).1 + x.cents < 2 ^ 64)
clear_fits sales shifts totals t x kept fits =
    let h : ℕ = open_number shifts in
    let row = row_open h shifts refl in
    let till : (m : ℕ) → 1 ≤ m → m ≤ TILLS
    → till_figures m shifts.current ≡ (clears_in h m sales, cents_in h m sales) =
    λ m low high. sym (ap (till_figures m) row) ∙ kept.clears h m low high in
    let product : (m : ℕ) → 1 ≤ m → m ≤ PRODUCTS
    → product_figure m shifts.current ≡ cleared_in h m sales =
    λ m low high. sym (ap (product_figure m) row) ∙ kept.cleared h m low high in
    let product_sum : (m : ℕ) → 1 ≤ m → m ≤ PRODUCTS
    → product_cents_figure m shifts.current ≡ product_cents_in h m sales =
    λ m low high. sym (ap (product_cents_figure m) row) ∙ kept.product_cents h m low high in
    let small : 0 + 1 < 2 ^ 64 = omega arith in (
      record {
        clears = told_or (λ f. f.0 + 1 < 2 ^ 64) (λ m. (clears_in h m sales, cents_in h m sales))
            (0, 0) t TILLS shifts.current.tills kept.rows.current.tills till fits.clears small;
        cents_sum = told_or (λ f. f.1 + x.cents < 2 ^ 64)
            (λ m. (clears_in h m sales, cents_in h m sales)) (0, 0) t TILLS shifts.current.tills
            kept.rows.current.tills till fits.cents (omega (arith, fits.cents));
        millilitres = told_or (λ f. f + x.volume < 2 ^ 64) (λ m. cleared_in h m sales) 0 x.product
            PRODUCTS shifts.current.products kept.rows.current.products product fits.cleared
            (omega (arith, fits.cleared));
        product_cents = told_or (λ f. f + x.cents < 2 ^ 64) (λ m. product_cents_in h m sales) 0
            x.product PRODUCTS shifts.current.product_cents kept.rows.current.product_cents
            product_sum fits.product_cents (omega (arith, fits.product_cents));
      },
      told_or (λ f. f.0 + 1 < 2 ^ 64) (λ m. (clears_by m sales, cents_by m sales)) (0, 0) t TILLS
          totals kept.cells kept.all fits.all_clears small,
      told_or (λ f. f.1 + x.cents < 2 ^ 64) (λ m. (clears_by m sales, cents_by m sales)) (0, 0) t
          TILLS totals kept.cells kept.all fits.all_cents (omega (arith, fits.all_cents)),
    )

-- ---- the kept cells

-- the cell of the till, one clear more, is its total, one clear more
pub one_more : (t i cents : ℕ) (totals : List (ℕ × ℕ)) → i + 1 ≡ t
    → with_one_more t cents totals
    ≡ set totals i ((get_or totals i (0, 0)).0 + 1, (get_or totals i (0, 0)).1 + cents)
one_more t i cents totals place =
    let at : total_of t totals ≡ get_or totals i (0, 0) = member_at t i totals (0, 0) place in
    let cell : t - 1 ≡ i = omega arith in
    with_numbered_place t (one_clear_more cents (total_of t totals)) totals (omega arith)
    ∙ ap (λ (k : ℕ). set totals k (one_clear_more cents (total_of t totals))) cell
    ∙ ap (λ (e : ℕ × ℕ). set totals i (one_clear_more cents e)) at

-- a clear draws nothing
pub clear_draws : (t q volume cents : ℕ) (shifts : Shifts) (cells : List ℕ)
    → AreDrawn shifts cells → AreDrawn (after_clear t q volume cents shifts) cells
clear_draws t q volume cents shifts cells kept =
    let same : draws_of (after_clear t q volume cents shifts) ≡ draws_of shifts =
    undrawn shifts.closed shifts.current (with_clear t q volume cents shifts.current) refl in
    record {
      rows = ap (list_all is_draw_row) same ∙ kept.rows;
      totals = λ k within. kept.totals k within ∙ ap (drawn_of (k + 1)) (sym same);
    }
  where
    undrawn : (closed : List ShiftRow) (old new : ShiftRow) → new.adjusted ≡ old.adjusted
        → map (λ (row : ShiftRow). row.adjusted) (closed ++ new ∷ [])
        ≡ map (λ (row : ShiftRow). row.adjusted) (closed ++ old ∷ [])
    undrawn [] old new is = ap (λ xs. xs ∷ []) is
    undrawn (row ∷ rows) old new is = ap (λ xs. row.adjusted ∷ xs) (undrawn rows old new is)
