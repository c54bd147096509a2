use Rattle.std.proofs.Common.{◌≡◌, length, subst}
use Rattle.std.specs.Prelude.{IfOk}
use Rattle.site_book.specs.Book.{Book, whole_book}
use Rattle.site_book.proofs.ProductCounts.{one_for_each_counted}
use Rattle.site_book.proofs.book.SiteBook.audit.Goals as goal

pub returns-clause-products : goal.returns-clause-products
returns-clause-products c =
    subst (λ (b : Book). IfOk c.audit_rows.result
    (λ totals. length totals.products ≡ length b.config.products))
    c.self.view_is
    (one_for_each_counted (whole_book c.self.inside.config c.self.inside.rows.rows)
    c.audit_rows.result c.audit_rows.ensures)
