use Rattle.std.proofs.Common.{ℕ, List, ap, map, ◌∙◌}
use Rattle.site_base.specs.declared.config.ProductEntry.{ProductEntry}
use Rattle.site_base.specs.declared.view.ProductView.{ProductView}
use Rattle.site_book.specs.Book.{site_of_book}
use Rattle.next_opening.specs.NextOpening.{priced}
use Rattle.next_opening.proofs.ShownPrices.{prices_shown}
use Rattle.next_opening.proofs.next_site.products_today.Goals as goal

pub returns : goal.returns
returns c =
    let prices : List ProductView → List ℕ = map (λ v. v.price) in
    c.in_ok-at_prices.ensures
    ∙ ap (λ (ps : List ProductEntry). priced ps (prices c.as_slice.result.now))
    (c.products-products.ensures.value ∙ ap (λ x. x.products) c.config.ensures)
    ∙ ap (priced c.args.book.now.config.products)
    (ap prices (c.as_slice.ensures ∙ c.in_ok-totals.ensures.figures.products)
    ∙ prices_shown (site_of_book c.args.book.now))
