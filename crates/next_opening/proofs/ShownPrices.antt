-- The prices that a book's totals show are today's.
use Rattle.std.proofs.Common.{◌≡◌, ℕ, List, [], ◌∷◌, map, refl, ap}
use Rattle.site_base.specs.declared.view.ProductView.{ProductView}
use Rattle.written_site.specs.ShiftFigures.{product_totals}
use Rattle.written_site.specs.SiteState.{SiteState}
use Rattle.written_site.specs.Volumes.{product_view}
use Rattle.next_opening.specs.NextOpening.{prices_today}

shown : (s : SiteState) (es : List (ℕ × ℕ))
    → map (λ (v : ProductView). v.price) (map (λ e. product_view s e.0 e.1) es)
    ≡ map (λ e. e.1) es
shown s [] = refl
shown s (e ∷ es) = ap (λ (ms : List ℕ). e.1 ∷ ms) (shown s es)

pub prices_shown : (s : SiteState)
    → map (λ (v : ProductView). v.price) (product_totals s) ≡ prices_today s
prices_shown s = shown s s.prices
