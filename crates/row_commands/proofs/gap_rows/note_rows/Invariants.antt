use Rattle.std.proofs.Common.{◌≡◌, false}
use Rattle.row_commands.specs.AskedGaps.{HasReadGaps}
use Rattle.row_commands.proofs.gap_rows.note_rows.Given as goal

-- so far the gaps of each row are noted
abbrev pub invariant-loop : goal.invariant-loop
invariant-loop g l =
    l.is_timed ≡ false
    → HasReadGaps l.walk.reader.book.config l.shifts l.walk.reader.book.rows l.reader
