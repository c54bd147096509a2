use Rattle.std.proofs.Common.{subst, ◌++◌, length}
use Rattle.site_book.specs.Book.{Book, site_of_book}
use Rattle.site_book.specs.BookSales.{AreAllSales, book_sales}
use Rattle.site_book.specs.RowLists.{rows_forgotten}
use Rattle.site_book.proofs.AllSales.{all_sales}
use Rattle.site_book.proofs.book.SiteBook.has_all_sales.Goals as goal

pub returns : goal.returns
returns c =
    let earlier = rows_forgotten c.self.inside.earlier.items in
    let b : Book = record {
      config = c.self.inside.config;
      rows = earlier ++ c.self.inside.rows.rows;
      forgotten = length earlier;
    } in
    subst (λ (x : Book). AreAllSales (book_sales x) (site_of_book x)) c.self.view_is
    (all_sales b.config b.rows c.self.invariant.legal)
