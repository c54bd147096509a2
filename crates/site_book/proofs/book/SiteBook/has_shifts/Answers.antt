use Rattle.std.proofs.Common.{◌≤◌, ◌++◌, subst}
use Rattle.site_base.specs.declared.numbers.TheConstants.{GREATEST_SHIFT}
use Rattle.written_site.specs.RowWords.{open_after}
use Rattle.site_book.specs.Book.{Book}
use Rattle.site_book.specs.RowLists.{rows_forgotten}
use Rattle.site_book.proofs.BookSales.{shifts_fit}
use Rattle.site_book.proofs.book.SiteBook.has_shifts.Goals as goal

pub returns : goal.returns
returns c =
    subst (λ (b : Book). open_after b.rows ≤ GREATEST_SHIFT) c.self.view_is
    (shifts_fit c.self.inside.config
    (rows_forgotten c.self.inside.earlier.items ++ c.self.inside.rows.rows)
    c.self.inside.site.site
    c.self.invariant.legal c.self.invariant.leads c.is_sound.ensures)
