-- Each product keeps its number and its place in the prices, whatever happens.
use Rattle.std.proofs.Common.{◌≡◌, ℕ, Bool, true, false, List, [], ◌∷◌, map}
use Rattle.std.proofs.Common.{refl, ap, ◌∙◌, ◌==◌, if◌then◌else◌}
use Rattle.site_base.specs.declared.config.ProductEntry.{ProductEntry}
use Rattle.site_base.specs.declared.event.Event.{Event}
use Rattle.site_base.specs.declared.event.Event.TheVariants.{SetPrice}
use Rattle.site_base.specs.declared.row.Row.{Row}
use Rattle.site_base.specs.Configured.{Configured}
use Rattle.site_base.specs.Prices.{prices_of}
use Rattle.site_base.specs.Table.{with_row}
use Rattle.written_site.specs.SiteRun.{site_of_rows}
use Rattle.written_site.specs.SiteState.{SiteState, opening}
use Rattle.written_site.specs.SiteStep.{prices_after}
use Rattle.written_site.proofs.RunsKeep.{rows_keep}

-- the products' numbers, in their order
abbrev numbers_of : List (ℕ × ℕ) → List ℕ
numbers_of prices = map (λ e. e.0) prices

abbrev pub configured_numbers : List ProductEntry → List ℕ
configured_numbers products = map (λ p. p.number) products

numbers-with_row : (q m : ℕ) (es : List (ℕ × ℕ)) → numbers_of (with_row q m es) ≡ numbers_of es
numbers-with_row q m [] = refl
numbers-with_row q m (e ∷ es) = by_test (e.0 == q) (numbers-with_row q m es)
  where
    by_test : (b : Bool) → numbers_of (with_row q m es) ≡ numbers_of es
        → numbers_of (if b then (e.0, m) ∷ es else e ∷ with_row q m es) ≡ numbers_of (e ∷ es)
    by_test true same = refl
    by_test false same = ap (λ ns. e.0 ∷ ns) same

event_keeps : (s : SiteState) (e : Event) → numbers_of (prices_after s e) ≡ numbers_of s.prices
event_keeps s (SetPrice q price) = numbers-with_row q price s.prices
event_keeps s e = refl

configured : (ps : List ProductEntry) → numbers_of (prices_of ps) ≡ configured_numbers ps
configured [] = refl
configured (p ∷ ps) = ap (λ ns. p.number ∷ ns) (configured ps)

-- each product has its row of prices, in configured order
pub product_numbers : (c : Configured) (rows : List Row)
    → numbers_of (site_of_rows (opening c) rows).prices ≡ configured_numbers c.products
product_numbers c rows =
    rows_keep (λ s. numbers_of s.prices) (λ s a e. event_keeps s e) (opening c) rows
    ∙ configured c.products
