use Rattle.std.proofs.Common.{ℕ, ap, ◌∙◌, arith, length-set}
use Rattle.written_site.specs.ShiftFigures.{product_cents_in}
use Rattle.written_site.proofs.FigureBounds.{figures_in_range}
use Rattle.site_core.specs.SiteParts.{site_of}
use Rattle.site_core.proofs.ToldInOrder.{filled}
use Rattle.site_core.proofs.site_parts.SiteParts.recount_product_cents.Goals as goal

pub recount-requires : goal.recount-requires
recount-requires c =
    (figures_in_range (site_of c.args.self.now) c.args.n c.requires).product_cents
    c.of_cell-product.result

pub loop-cell-preserved : goal.loop-cell-preserved
loop-cell-preserved c =
    let told : ℕ → ℕ = λ q. product_cents_in c.args.n q (site_of c.args.self.now).sales in
    record {
      cells = length-set c.loop-cell.sums c.loop-cell.cell c.recount.result
          ∙ c.loop-cell.invariant.cells;
      told = filled told c.loop-cell.sums c.loop-cell.cell c.recount.result
          (omega (arith, c.loop-cell.invariant.cells, c.loop-cell-test.true))
          (c.recount.ensures ∙ ap told c.of_cell-product.ensures)
          c.loop-cell.invariant.told;
    }
