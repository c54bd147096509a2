use Rattle.std.proofs.Common.{◌+◌, take, ap, sym, ◌∙◌, arith}
use Rattle.std.specs.List.{cons_option}
use Rattle.site_book.specs.BookSales.{sales_from}
use Rattle.site_book.proofs.BookSales.{sales_more}
use Rattle.site_book.proofs.sales.read_row.Goals as goal

pub returns-clause-sale : goal.returns-clause-sale
returns-clause-sale c =
    sales_more c.args.book.now c.args.at c.in-Some.row
    (sym (c.row.ensures.kept (omega (arith, c.requires.read.whole))) ∙ c.in-Some.is)
    ∙ ap (λ sale. cons_option sale (sales_from (c.args.at + 1) c.args.book.now))
    (sym (c.sale_made.ensures (take c.args.at c.args.book.now.rows) c.requires.read.shift))
