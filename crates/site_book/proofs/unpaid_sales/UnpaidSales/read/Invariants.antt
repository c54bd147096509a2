use Rattle.std.proofs.Common.{◌-◌, length}
use Rattle.site_book.specs.Unpaid.{GoesBy}
use Rattle.site_book.proofs.unpaid_sales.UnpaidSales.read.Given as goal

abbrev pub invariant-loop-row : goal.invariant-loop-row
invariant-loop-row l = GoesBy l.fn.self l.book → GoesBy l.self l.book

abbrev pub decreases-loop-row : goal.decreases-loop-row
decreases-loop-row l = length l.book.rows - l.self.place
