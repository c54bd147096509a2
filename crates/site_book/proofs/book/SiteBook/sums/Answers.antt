use Rattle.std.proofs.Common.{subst, ◌++◌, length}
use Rattle.site_book.specs.Book.{Book}
use Rattle.site_book.specs.Figures.{DoFiguresAddUp}
use Rattle.site_book.specs.RowLists.{rows_forgotten}
use Rattle.site_book.proofs.FigureSums.{figures_add_up}
use Rattle.site_book.proofs.book.SiteBook.sums.Goals as goal

pub returns : goal.returns
returns c =
    let earlier = rows_forgotten c.self.inside.earlier.items in
    let b : Book = record {
      config = c.self.inside.config;
      rows = earlier ++ c.self.inside.rows.rows;
      forgotten = length earlier;
    } in
    subst DoFiguresAddUp c.self.view_is
    (figures_add_up b c.self.invariant.legal c.self.invariant.ranges c.products.ensures.fit
    c.points.ensures.fit)
