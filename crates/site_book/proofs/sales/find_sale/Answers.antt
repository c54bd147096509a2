use Rattle.std.proofs.Common.{◌∙◌, arith}
use Rattle.site_book.proofs.BookSales.{sales_over}
use Rattle.site_book.proofs.sales.find_sale.Goals as goal

pub returns-clause-next : goal.returns-clause-next
returns-clause-next c = (
  c.loop-at.invariant.none
      ∙ sales_over c.args.book.now c.loop-at.at
      (omega (arith, c.loop-at-test.false, c.len-at-end.ensures.rows)),
  sales_over c.args.book.now c.len.result (omega (arith, c.len.ensures.rows)),
)
