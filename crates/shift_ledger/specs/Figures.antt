-- The figures of one shift.
use Rattle.std.specs.Prelude.{ℕ, ◌+◌, ◌^◌, ◌<◌, unwrap_or, replicate}
use Rattle.site_base.specs.declared.limits.TheConstants.{TILL_CELLS, PRODUCT_CELLS}
use Rattle.site_base.specs.Members.{member, with_numbered}
use Rattle.shift_ledger.specs.declared.row.ShiftRow.{ShiftRow}

-- the clears of a till and their cents
abbrev pub till_figures : ℕ → ShiftRow → ℕ × ℕ
till_figures t row = unwrap_or (member t row.tills) (0, 0)

-- the millilitres cleared of a product
abbrev pub product_figure : ℕ → ShiftRow → ℕ
product_figure q row = unwrap_or (member q row.products) 0

-- the cents of what was cleared of a product
abbrev pub product_cents_figure : ℕ → ShiftRow → ℕ
product_cents_figure q row = unwrap_or (member q row.product_cents) 0

-- the millilitres that tests drew of a product
abbrev pub adjusted_figure : ℕ → ShiftRow → ℕ
adjusted_figure q row = unwrap_or (member q row.adjusted) 0

-- a shift without clears and draws
abbrev pub empty_figures : ShiftRow
empty_figures = record {
  tills = replicate TILL_CELLS (0, 0);
  products = replicate PRODUCT_CELLS 0;
  product_cents = replicate PRODUCT_CELLS 0;
  adjusted = replicate PRODUCT_CELLS 0;
}

-- a till's clears and their cents, with one more of these cents
abbrev pub one_clear_more : ℕ → ℕ × ℕ → ℕ × ℕ
one_clear_more cents figures = (figures.0 + 1, figures.1 + cents)

-- the figures with one more clear by a till: of this product, millilitres and cents
abbrev pub with_clear : ℕ → ℕ → ℕ → ℕ → ShiftRow → ShiftRow
with_clear t q ml cents row = record {
  tills = with_numbered t (one_clear_more cents (till_figures t row)) row.tills;
  products = with_numbered q (product_figure q row + ml) row.products;
  product_cents = with_numbered q (product_cents_figure q row + cents) row.product_cents;
  adjusted = row.adjusted;
}

-- the figures with one more draw: of this product, millilitres
abbrev pub with_draw : ℕ → ℕ → ShiftRow → ShiftRow
with_draw q ml row =
    record row { adjusted = with_numbered q (adjusted_figure q row + ml) row.adjusted }

-- the sums that one more clear raises stay in 64 bits
pub record FitsClear (t q ml cents : ℕ) (row : ShiftRow) : Type 0 where
  pub clears : (till_figures t row).0 + 1 < 2 ^ 64
  pub cents_sum : (till_figures t row).1 + cents < 2 ^ 64
  pub millilitres : product_figure q row + ml < 2 ^ 64
  pub product_cents : product_cents_figure q row + cents < 2 ^ 64

-- the sum that one more draw raises stays in 64 bits
abbrev pub FitsDraw : ℕ → ℕ → ShiftRow → Type 0
FitsDraw q ml row = adjusted_figure q row + ml < 2 ^ 64
