use Rattle.std.proofs.Common.{◌≡◌, length}
use Rattle.site_book.specs.BookSales.{sales_from, IsReadTo}
use Rattle.site_book.proofs.sales.find_sale.Given as goal

abbrev pub invariant-loop-at : goal.invariant-loop-at
invariant-loop-at l = record {
  read : IsReadTo l.at l.shift l.book;
  none : sales_from l.place l.book ≡ sales_from l.at l.book;
  end : l.at-end ≡ length l.book.rows;
}
