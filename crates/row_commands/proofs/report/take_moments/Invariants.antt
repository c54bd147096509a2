use Rattle.std.proofs.Common.{◌≡◌}
use Rattle.past_rows.specs.ShiftFigures.{HasTaken}
use Rattle.row_commands.proofs.report.take_moments.Given as goal

-- so far the figures have looked at each moment
abbrev pub invariant-loop : goal.invariant-loop
invariant-loop g l = record {
  taken : HasTaken l.figures l.walk.reader.book;
  shifts : l.figures.shifts ≡ l.fn.figures.shifts;
}
