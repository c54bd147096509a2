use Rattle.std.proofs.Common.{◌≡◌, drop}
use Rattle.meter_table.specs.Gaps.{gaps_of, gaps_over}
use Rattle.offline_commands.proofs.book_text.find_gaps.Given as goal

-- the gaps of the rows that are left are to be added
abbrev pub invariant-loop-row : goal.invariant-loop-row
invariant-loop-row l =
    gaps_over l.reader.site l.row (drop l.row l.book.rows) l.reader.gaps
    ≡ gaps_of l.book.config l.book.rows
