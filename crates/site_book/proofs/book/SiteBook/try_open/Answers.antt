use Rattle.std.proofs.Common.{rules}
use Rattle.site_book.proofs.Books.{opens}
use Rattle.site_book.proofs.book.SiteBook.try_open.Goals as goal

pub invariant_of-result : goal.invariant_of-result
invariant_of-result c =
    rw (c.new.ensures.rows, c.new-2.ensures)
    (opens c.in_ok-config.config c.in_ok-site.site.site c.new.result.room (search rules))
