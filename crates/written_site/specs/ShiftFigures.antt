-- The figures of a site, from its sales and draws alone: of each shift and of all together, what
-- each till cleared, and what of each product was cleared, its cents, and what tests drew of it.
use Rattle.std.specs.Prelude.{ℕ, List, map, sum_by, unwrap_or}
use Rattle.std.specs.List.{range_with_len}
use Rattle.site_base.specs.declared.limits.TheConstants.{TILLS}
use Rattle.site_base.specs.declared.view.ProductView.{ProductView}
use Rattle.site_base.specs.declared.view.SiteView.{SiteView}
use Rattle.site_base.specs.Members.{member}
pub use Rattle.transaction_buffer.specs.Clears.{
  is_cleared_by,
  is_cleared_in,
  is_clear_of,
  clears_in,
  cents_in,
  cleared_in,
  product_cents_in,
  clears_by,
  cents_by,
}
use Rattle.transaction_buffer.specs.Sales.{Sales}
use Rattle.written_site.specs.SiteState.{SiteState, nothing_drawn, open_shift}
use Rattle.written_site.specs.Volumes.{product_view}

-- the millilitres of each product, from product 1 on, that tests drew in shift h
abbrev pub shift_draws : SiteState → ℕ → List ℕ
shift_draws s h = unwrap_or (member h s.drawn) nothing_drawn

-- the millilitres of product q that tests drew in shift h
abbrev pub shift_drawn : SiteState → ℕ → ℕ → ℕ
shift_drawn s h q = unwrap_or (member q (shift_draws s h)) 0

-- the tills that a site may have
abbrev pub tills : List ℕ
tills = range_with_len 1 TILLS

-- the cents that all tills cleared in shift h
abbrev pub takings_in : ℕ → Sales → ℕ
takings_in h sales = sum_by (λ t. cents_in h t sales) tills

-- the site as a read shows it: the open shift, and what was cleared in it
abbrev pub site_view : SiteState → SiteView
site_view s = record { cents = takings_in (open_shift s) s.sales; shift = open_shift s }

-- each till with how many sales it cleared in all, and their cents
abbrev pub till_totals : SiteState → List (ℕ × ℕ × ℕ)
till_totals s = map (λ t. (t, clears_by t s.sales, cents_by t s.sales)) tills

-- each product as a read shows it, in configured order
abbrev pub product_totals : SiteState → List ProductView
product_totals s = map (λ e. product_view s e.0 e.1) s.prices
