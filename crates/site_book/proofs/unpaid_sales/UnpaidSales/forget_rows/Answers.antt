use Rattle.std.proofs.Common.{subst, sym}
use Rattle.site_book.specs.Unpaid.{GoesBy}
use Rattle.site_book.proofs.Growing.{forgets_read}
use Rattle.site_book.proofs.unpaid_sales.UnpaidSales.forget_rows.Goals as goal

pub returns-clause-kept : goal.returns-clause-kept
returns-clause-kept c = λ goes.
    subst (GoesBy c.read.new.self) (sym c.forget_rows.ensures)
    (forgets_read c.read.new.self c.args.book.now (c.in_ok-read.ensures.read goes)
    (c.read.ensures.kept goes))
