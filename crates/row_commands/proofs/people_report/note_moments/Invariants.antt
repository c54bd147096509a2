use Rattle.std.proofs.Common.{◌≡◌}
use Rattle.past_rows.specs.ShiftFigures.{HasTaken}
use Rattle.row_commands.specs.AskedGaps.{HasReadGaps}
use Rattle.row_commands.proofs.people_report.note_moments.Given as goal

-- so far the figures have looked at each moment, and the gaps of each row are noted
abbrev pub invariant-loop : goal.invariant-loop
invariant-loop g l = record {
  taken : HasTaken l.figures l.walk.reader.book;
  shifts : l.figures.shifts ≡ l.fn.figures.shifts;
  read : HasReadGaps l.walk.reader.book.config l.shifts l.walk.reader.book.rows l.reader;
}
