use Rattle.std.proofs.Common.{◌≡◌, ◌++◌, drop}
use Rattle.std.specs.Prelude.{filter}
use Rattle.site_book.specs.Book.{site_of_book}
use Rattle.site_book.specs.Unpaid.{as_they_stand, is_due}
use Rattle.site_book.proofs.unpaid_sales.due_sales.Given as goal

abbrev pub invariant-loop-sold : goal.invariant-loop-sold
invariant-loop-sold l =
    l.due.items ++ filter is_due (as_they_stand (site_of_book l.book) (drop l.sold-index l.sales))
    ≡ filter is_due (as_they_stand (site_of_book l.book) l.sales)
