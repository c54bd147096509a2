-- A book's figures have one member for each product of its configuration, in its order.
use Rattle.std.proofs.Common.{◌≡◌, ℕ, List, length, sym, ap, ◌∙◌, Result, Ok, Err}
use Rattle.std.specs.Prelude.{IfOk}
use Rattle.site_base.specs.declared.memory.NoMemory.{NoMemory}
use Rattle.std.proofs.lemmas.List.{length-map}
use Rattle.site_base.specs.declared.config.ProductEntry.{ProductEntry}
use Rattle.site_base.specs.declared.totals.Totals.{Totals}
use Rattle.site_base.specs.declared.view.ProductView.{ProductView}
use Rattle.written_site.specs.SiteState.{SiteState}
use Rattle.written_site.specs.Volumes.{product_view}
use Rattle.written_site.proofs.ProductNumbers.{product_numbers}
use Rattle.site_book.specs.Book.{Book, site_of_book}
use Rattle.site_book.specs.Figures.{AreFiguresOf}

pub one_for_each_product : (b : Book) (totals : Totals) → AreFiguresOf b totals
    → length totals.products ≡ length b.config.products
one_for_each_product b totals are =
    let s : SiteState = site_of_book b in
    ap (λ (views : List ProductView). length views) are.products
    ∙ length-map s.prices (λ (e : ℕ × ℕ). product_view s e.0 e.1)
    ∙ sym (length-map s.prices (λ (e : ℕ × ℕ). e.0))
    ∙ ap (λ (ns : List ℕ). length ns) (product_numbers b.config b.rows)
    ∙ length-map b.config.products (λ (p : ProductEntry). p.number)

-- .. where they are counted
pub one_for_each_counted : (b : Book) (r : Result Totals NoMemory) → IfOk r (AreFiguresOf b)
    → IfOk r (λ totals. length totals.products ≡ length b.config.products)
one_for_each_counted b (Ok totals) are = one_for_each_product b totals are
one_for_each_counted b (Err e) are = tt
