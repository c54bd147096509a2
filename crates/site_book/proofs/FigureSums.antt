-- A book's figures add up to what its rows tell.
use Rattle.std.proofs.Common.{◌≡◌, ℕ, true, sym, ap, ◌∙◌}
use Rattle.site_base.specs.declared.view.ProductView.{ProductView}
use Rattle.site_base.specs.Configured.{are_points, are_products}
use Rattle.written_site.specs.RowWords.{total}
use Rattle.written_site.specs.SiteRun.{IsLegal}
use Rattle.written_site.specs.SiteState.{opening}
use Rattle.written_site.proofs.ProductSums.{metered_of_products}
use Rattle.written_site.proofs.ShiftLaws.{clears_counted}
use Rattle.written_site.proofs.VolumeLaws.{volumes_conserved}
use Rattle.site_book.specs.Book.{AreRowsInRange, Book}
use Rattle.site_book.specs.Figures.{DoFiguresAddUp}
use Rattle.site_book.proofs.TillSums.{cents_of_tills}

pub figures_add_up : (b : Book) → IsLegal (opening b.config) b.rows → AreRowsInRange b.rows
    → are_products b.config.products ≡ true → are_points b.config.products b.config.points ≡ true
    → DoFiguresAddUp b
figures_add_up b legal ranges products points = λ totals are. record {
  metered =
      ap (total (λ (q : ProductView). q.metered)) are.products
      ∙ metered_of_products b.config b.rows products points
      ∙ sym (volumes_conserved b.config b.rows legal).grown;
  cleared =
      ap (total (λ (t : ℕ × ℕ × ℕ). t.2)) are.tills
      ∙ cents_of_tills b.config b.rows legal ranges.actors (clears_counted b.config b.rows legal);
}
