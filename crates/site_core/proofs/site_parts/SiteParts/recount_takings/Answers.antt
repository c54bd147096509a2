use Rattle.std.proofs.Common.{ℕ, ap, ◌∙◌, arith, length-set}
use Rattle.written_site.specs.ShiftFigures.{clears_in}
use Rattle.written_site.proofs.FigureBounds.{figures_in_range}
use Rattle.site_core.specs.Accounts.{takings_of}
use Rattle.site_core.specs.SiteParts.{site_of}
use Rattle.site_core.proofs.ToldInOrder.{filled}
use Rattle.site_core.proofs.site_parts.SiteParts.recount_takings.Goals as goal

pub recount-clears-requires : goal.recount-clears-requires
recount-clears-requires c =
    (figures_in_range (site_of c.args.self.now) c.args.n c.requires).clears c.of_cell-till.result

pub recount-cents-requires : goal.recount-cents-requires
recount-cents-requires c =
    (figures_in_range (site_of c.args.self.now) c.args.n c.requires).cents c.of_cell-till.result

pub loop-cell-preserved : goal.loop-cell-preserved
loop-cell-preserved c =
    let sales = (site_of c.args.self.now).sales in
    let till = c.of_cell-till.result in
    let takings : ℕ × ℕ = (c.recount-clears.result, c.recount-cents.result) in
    record {
      cells = length-set c.loop-cell.takings c.loop-cell.cell takings ∙ c.loop-cell.invariant.cells;
      told = filled (takings_of c.args.n sales) c.loop-cell.takings c.loop-cell.cell takings
          (omega (arith, c.loop-cell.invariant.cells, c.loop-cell-test.true))
          (ap (λ (n : ℕ). (n, c.recount-cents.result)) c.recount-clears.ensures
          ∙ ap (λ (n : ℕ). (clears_in c.args.n till sales, n)) c.recount-cents.ensures
          ∙ ap (takings_of c.args.n sales) c.of_cell-till.ensures)
          c.loop-cell.invariant.told;
    }
