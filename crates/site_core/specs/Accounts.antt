-- The sales of a site with the figures of its shifts, as contracts see them and as they are kept.
use Rattle.std.specs.Prelude.{◌≡◌, ℕ, ◌+◌, ◌<◌, ◌≤◌, List, [], ◌∷◌, ◌++◌, length, map, replicate}
use Rattle.std.specs.Prelude.{slice_index, true, Option, Some, option_map, unwrap_or, refl}
use Rattle.std.specs.Coded.{Coded, code_by, coded_ℕ, coded×, coded_list}
use Rattle.std.specs.List.{list_all, range_with_len}
use Rattle.site_base.specs.declared.limits.TheConstants.{PRODUCT_CELLS, PRODUCTS, TILLS, TILL_CELLS}
use Rattle.site_base.specs.Members.{member, with_numbered}
use Rattle.shift_ledger.specs.declared.row.ShiftRow.{ShiftRow}
use Rattle.shift_ledger.specs.Figures.{empty_figures, one_clear_more, till_figures, product_figure}
use Rattle.shift_ledger.specs.Figures.{product_cents_figure}
use Rattle.shift_ledger.specs.Laws.{HaveRows}
use Rattle.shift_ledger.specs.Shifts.{Shifts, figures_of}
use Rattle.transaction_buffer.specs.Codes.{sales_code}
use Rattle.transaction_buffer.specs.declared.request.Request.{Request}
use Rattle.transaction_buffer.specs.declared.request.Request.TheVariants.{Clear}
use Rattle.transaction_buffer.specs.Clears.{FitsOneClear}
use Rattle.transaction_buffer.specs.Sales.{Key, Sale, Sales, is_unpaid, sale_of}
use Rattle.written_site.specs.ShiftFigures.{cents_by, cents_in, cleared_in, clears_by, clears_in}
use Rattle.written_site.specs.ShiftFigures.{product_cents_in, tills}
use Rattle.written_site.specs.Sound.{is_draw_row}
use Rattle.written_site.specs.Volumes.{drawn_of}

-- the sales; how many more of each point there is room for; for each shift, the open one last, the
-- millilitres that tests drew of each product; and how many more shifts there is room to close
pub record Account : Type 0 where
  pub sales : Sales
  pub rooms : List ℕ
  pub drawn : List (List ℕ)
  pub closes : ℕ

-- their code, by which a model tells them apart
abbrev pub account_code : Coded Account
account_code =
    code_by (Sales × (List ℕ × (List (List ℕ) × ℕ)))
    (coded× sales_code (coded× (coded_list coded_ℕ)
    (coded× (coded_list (coded_list coded_ℕ)) coded_ℕ)))
    (λ a. (a.sales, (a.rooms, (a.drawn, a.closes))))
    (λ p. record { sales = p.0; rooms = p.1.0; drawn = p.1.1.0; closes = p.1.1.1 })
    (λ _. refl)

-- the products that a site may have
abbrev pub products : List ℕ
products = range_with_len 1 PRODUCTS

-- how many sales till t cleared in shift h, and their cents
abbrev pub takings_of : ℕ → Sales → ℕ → ℕ × ℕ
takings_of h sales t = (clears_in h t sales, cents_in h t sales)

-- the figures of shift h: of each till its clears and their cents, of each product the millilitres
-- cleared, their cents, and the millilitres drawn by tests
abbrev pub figures_in : ℕ → Sales → List ℕ → ShiftRow
figures_in h sales draws = record {
  tills = map (takings_of h sales) tills;
  products = map (λ q. cleared_in h q sales) products;
  product_cents = map (λ q. product_cents_in h q sales) products;
  adjusted = draws;
}

-- the figures of shift h, if it is open or closed
abbrev pub shift_row : ℕ → Sales → List (List ℕ) → Option ShiftRow
shift_row h sales drawn = option_map (figures_in h sales) (member h drawn)

-- the row of shift h; of no such shift, an empty one
abbrev pub row_in : ℕ → Shifts → ShiftRow
row_in h shifts = unwrap_or (figures_of h shifts) empty_figures

-- no till has cleared anything
abbrev pub no_clears : List (ℕ × ℕ)
no_clears = replicate TILL_CELLS (0, 0)

-- the clears of till t and their cents
abbrev pub total_of : ℕ → List (ℕ × ℕ) → ℕ × ℕ
total_of t tills = unwrap_or (member t tills) (0, 0)

-- the tills' clears and their cents, with one more of till t
abbrev pub with_one_more : ℕ → ℕ → List (ℕ × ℕ) → List (ℕ × ℕ)
with_one_more t cents tills = with_numbered t (one_clear_more cents (total_of t tills)) tills

-- for each shift, the open one last, the millilitres that tests drew of each product
abbrev pub draws_of : Shifts → List (List ℕ)
draws_of shifts = map (λ row. row.adjusted) (shifts.closed ++ shifts.current ∷ [])

-- each shift has a figure for each product, and each product's cell holds what tests drew of it in
-- all
pub record AreDrawn (shifts : Shifts) (cells : List ℕ) : Type 0 where
  pub rows : list_all is_draw_row (draws_of shifts) ≡ true
  pub totals : (k : ℕ) → k < PRODUCT_CELLS
      → slice_index cells k ≡ drawn_of (k + 1) (draws_of shifts)

-- Every shift's row has the figures of the sales that were cleared in it, for each till and each
-- product, and the tills' totals those of all that each cleared. In a shift to come nothing is
-- cleared.
pub record AreFigures (sales : Sales) (shifts : Shifts) (totals : List (ℕ × ℕ)) : Type 0 where
  pub rows : HaveRows shifts
  pub cells : length totals ≡ TILL_CELLS
  pub clears : (h t : ℕ) → 1 ≤ t → t ≤ TILLS
      → till_figures t (row_in h shifts) ≡ takings_of h sales t
  pub cleared : (h q : ℕ) → 1 ≤ q → q ≤ PRODUCTS
      → product_figure q (row_in h shifts) ≡ cleared_in h q sales
  pub product_cents : (h q : ℕ) → 1 ≤ q → q ≤ PRODUCTS
      → product_cents_figure q (row_in h shifts) ≡ product_cents_in h q sales
  pub all : (t : ℕ) → 1 ≤ t → t ≤ TILLS → total_of t totals ≡ (clears_by t sales, cents_by t sales)

-- what is kept beside the sales has their figures, and what tests drew
pub record IsAccount (sales : Sales) (shifts : Shifts) (totals : List (ℕ × ℕ)) (cells : List ℕ)
    : Type 0 where
  pub figures : AreFigures sales shifts totals
  pub drawn : AreDrawn shifts cells

-- What the till asks fits: a clear is made in the open shift, and with it the figures fit in 64
-- bits.
abbrev pub FitsGrant : Request → ℕ → Key → Sales → List (List ℕ) → Type 0
FitsGrant (Clear h) t k sales drawn =
    (h ≡ length drawn)
    × ((x : Sale) → sale_of k sales ≡ Some x → is_unpaid x.standing ≡ true
    → FitsOneClear (length drawn) t x sales)
FitsGrant request t k sales drawn = Unit {0}
