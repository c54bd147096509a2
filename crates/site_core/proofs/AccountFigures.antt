-- The ledger has the figures of the sales, whatever is sold, locked and drawn, and over a close.
use Rattle.std.proofs.Common.{◌≡◌, ◌≢◌, ℕ, zero, suc, ◌+◌, true, List, [], ◌∷◌, ◌++◌, length}
use Rattle.std.proofs.Common.{Option, Some, None, unwrap_or, inl, inr, refl, sym, ap, subst, ◌∙◌}
use Rattle.std.proofs.Common.{arith, Result, Ok, Err, OnOk, OnErr}
use Rattle.std.proofs.lemmas.Bool.{cases_eq}
use Rattle.site_base.specs.declared.view.TransactionView.{TransactionView}
use Rattle.site_base.specs.Members.{member}
use Rattle.site_base.proofs.Numbering.{numbered_next, numbered_place, numbered_push_here}
use Rattle.site_base.proofs.Numbering.{numbered_push_other}
use Rattle.shift_ledger.specs.declared.row.ShiftRow.{ShiftRow}
use Rattle.shift_ledger.specs.Figures.{empty_figures, product_figure, product_cents_figure}
use Rattle.shift_ledger.specs.Figures.{till_figures, with_draw}
use Rattle.shift_ledger.specs.Laws.{closes, draws}
use Rattle.shift_ledger.specs.Shifts.{Shifts, after_close, after_draw, first_shift, open_number}
use Rattle.shift_ledger.proofs.Counting.{has_every_figure}
use Rattle.shift_ledger.proofs.ClosedShifts.{is_opened_empty}
use Rattle.transaction_buffer.specs.Sales.{Sales, is_unpaid, new_sale, new_standing, no_sales}
use Rattle.transaction_buffer.specs.Sales.{with_new}
use Rattle.written_site.specs.FigureSteps.{HasSameClears}
use Rattle.written_site.proofs.ClearFigures.{no_product_cents_in, none_by, none_cleared_in}
use Rattle.written_site.proofs.ClearFigures.{none_in, sale_keeps}
use Rattle.site_core.specs.Accounts.{AreFigures, no_clears, row_in}

pub both : {A B : Type 0} (a b : A) (c d : B) → a ≡ b → c ≡ d
    → ◌≡◌ {A = A × B} (a, c) (b, d)
both a b c d first second = ap (λ x. (x, c)) first ∙ ap (λ y. (b, y)) second

-- ---- the rows

-- the open shift's row
pub row_open : (h : ℕ) (shifts : Shifts) → h ≡ open_number shifts
    → row_in h shifts ≡ shifts.current
row_open h shifts is =
    ap (λ (k : ℕ). row_in k shifts) is
    ∙ ap (λ o. unwrap_or o empty_figures) (numbered_push_here shifts.closed shifts.current)

-- every other shift's row, whatever the open one's is
pub row_other : (h : ℕ) (closed : List ShiftRow) (old new : ShiftRow) → h ≢ length closed + 1
    → row_in h (record { closed = closed; current = new })
    ≡ row_in h (record { closed = closed; current = old })
row_other h closed old new other =
    ap (λ o. unwrap_or o empty_figures)
    (numbered_push_other h closed new other ∙ sym (numbered_push_other h closed old other))

-- a close leaves each row; the shift that it opens has an empty one, as a shift to come
row_closed : (h : ℕ) (shifts : Shifts) → row_in h (after_close shifts) ≡ row_in h shifts
row_closed h shifts =
    elim (cases_eq h (length (shifts.closed ++ shifts.current ∷ []) + 1)) [
      | inl is ↦
          row_open h (after_close shifts) is
          ∙ sym (ap (λ (k : ℕ). row_in k shifts) is
          ∙ ap (λ o. unwrap_or o empty_figures)
          (numbered_next (shifts.closed ++ shifts.current ∷ [])))
      | inr other ↦ ap (λ o. unwrap_or o empty_figures)
          (numbered_push_other h (shifts.closed ++ shifts.current ∷ []) empty_figures other)
    ]

-- before anything is cleared each row is empty
row_first : (h : ℕ) → row_in h first_shift ≡ empty_figures
row_first h = elim (cases_eq h 1) [
  | inl is ↦ row_open h first_shift is
  | inr other ↦ ap (λ o. unwrap_or o empty_figures) (numbered_push_other h [] empty_figures other)
      ∙ none h
]
  where
    none : (n : ℕ) → unwrap_or (member n []) empty_figures ≡ empty_figures
    none zero = refl
    none (suc n) =
        ap (λ o. unwrap_or o empty_figures) (numbered_place (suc n) [] (omega arith))

-- ---- the sales change, and nothing is cleared

pub sales_kept : (old new : Sales) (shifts : Shifts) (totals : List (ℕ × ℕ))
    → HasSameClears old new → AreFigures old shifts totals → AreFigures new shifts totals
sales_kept old new shifts totals same kept = record {
  rows = kept.rows;
  cells = kept.cells;
  clears = λ h t low high.
      kept.clears h t low high ∙ sym (both _ _ _ _ (same.clears h t) (same.cents h t));
  cleared = λ h q low high. kept.cleared h q low high ∙ sym (same.cleared h q);
  product_cents = λ h q low high.
      kept.product_cents h q low high ∙ sym (same.product_cents h q);
  all = λ t low high.
      kept.all t low high ∙ sym (both _ _ _ _ (same.all_clears t) (same.all_cents t));
}

-- a new sale isn't cleared
pub sold_kept : (p h : ℕ) (view : TransactionView) (sales : Sales) (shifts : Shifts)
    (totals : List (ℕ × ℕ)) → AreFigures sales shifts totals
    → AreFigures (with_new p (new_sale h view) sales) shifts totals
sold_kept p h view sales shifts totals kept =
    sales_kept sales (with_new p (new_sale h view) sales) shifts totals
    (sale_keeps p (new_sale h view) sales (unpaid view.till)) kept
  where
    unpaid : (till : Option ℕ) → is_unpaid (new_standing till) ≡ true
    unpaid None = refl
    unpaid (Some t) = refl

-- ---- nothing is sold

pub first_figures : (sales : Sales) (shifts : Shifts) (totals : List (ℕ × ℕ))
    → sales ≡ no_sales → shifts ≡ first_shift → totals ≡ no_clears
    → AreFigures sales shifts totals
first_figures sales shifts totals no_sale first no_clear =
    rw (no_sale, first, no_clear) (record {
      rows = has_every_figure.first;
      cells = refl;
      clears = λ h t low high.
          ap (till_figures t) (row_first h) ∙ is_opened_empty.first_till t
          ∙ sym (both _ _ _ _ (none_in h t).0 (none_in h t).1);
      cleared = λ h q low high.
          ap (product_figure q) (row_first h) ∙ is_opened_empty.first_product q
          ∙ sym (none_cleared_in h q);
      product_cents = λ h q low high.
          ap (product_cents_figure q) (row_first h) ∙ is_opened_empty.first_product_cents q
          ∙ sym (no_product_cents_in h q);
      all = λ t low high.
          is_opened_empty.first_till t ∙ sym (both _ _ _ _ (none_by t).0 (none_by t).1);
    })

-- ---- a draw

draw_leaves : (h q volume : ℕ) (shifts : Shifts)
    → ((t : ℕ) → till_figures t (row_in h (after_draw q volume shifts))
    ≡ till_figures t (row_in h shifts))
    × ((r : ℕ) → product_figure r (row_in h (after_draw q volume shifts))
    ≡ product_figure r (row_in h shifts))
    × ((r : ℕ) → product_cents_figure r (row_in h (after_draw q volume shifts))
    ≡ product_cents_figure r (row_in h shifts))
draw_leaves h q volume shifts = elim (cases_eq h (open_number shifts)) [
  | inl is ↦
      let old = row_open h shifts is in
      let new = row_open h (after_draw q volume shifts) is in (
        λ t. ap (till_figures t) new ∙ sym (ap (till_figures t) old),
        λ r. ap (product_figure r) new ∙ sym (ap (product_figure r) old),
        λ r. ap (product_cents_figure r) new ∙ sym (ap (product_cents_figure r) old),
      )
  | inr other ↦
      let same =
      row_other h shifts.closed shifts.current (with_draw q volume shifts.current) other in (
        λ t. ap (till_figures t) same,
        λ r. ap (product_figure r) same,
        λ r. ap (product_cents_figure r) same,
      )
]

pub draw_kept : (q volume : ℕ) (sales : Sales) (shifts : Shifts) (totals : List (ℕ × ℕ))
    → AreFigures sales shifts totals → AreFigures sales (after_draw q volume shifts) totals
draw_kept q volume sales shifts totals kept = record {
  rows = has_every_figure.after (draws q volume) shifts kept.rows;
  cells = kept.cells;
  clears = λ h t low high.
      (draw_leaves h q volume shifts).0 t ∙ kept.clears h t low high;
  cleared = λ h r low high.
      (draw_leaves h q volume shifts).1 r ∙ kept.cleared h r low high;
  product_cents = λ h r low high.
      (draw_leaves h q volume shifts).2 r ∙ kept.product_cents h r low high;
  all = kept.all;
}

-- ---- a close

pub close_kept : (sales : Sales) (shifts : Shifts) (totals : List (ℕ × ℕ))
    → AreFigures sales shifts totals → AreFigures sales (after_close shifts) totals
close_kept sales shifts totals kept = record {
  rows = has_every_figure.after closes shifts kept.rows;
  cells = kept.cells;
  clears = λ h t low high.
      ap (till_figures t) (row_closed h shifts) ∙ kept.clears h t low high;
  cleared = λ h q low high.
      ap (product_figure q) (row_closed h shifts) ∙ kept.cleared h q low high;
  product_cents = λ h q low high.
      ap (product_cents_figure q) (row_closed h shifts) ∙ kept.product_cents h q low high;
  all = kept.all;
}
