use Rattle.std.proofs.Common.{◌∙◌, ap, length}
use Rattle.site_book.specs.Book.{Book}
use Rattle.written_site.specs.RowWords.{open_after}
use Rattle.row_commands.proofs.AskedGaps.{notes_row}
use Rattle.row_commands.proofs.gap_rows.note_rows.Goals as goal

pub loop-preserved : goal.loop-preserved
loop-preserved g c = λ untimed.
    notes_row c.loop.walk.reader.book c.next.new.self.reader.book c.args.shifts.now
    c.in_ok-told.field-0 c.in-Some.told c.in-Some.is c.next.ensures.config
    c.in_ok-told.ensures.row _
    (c.next_place-row.ensures.row ∙ ap (λ (b : Book). length b.rows) c.book.ensures) _
    (c.next_place-row.ensures.shift ∙ ap (λ (b : Book). open_after b.rows) c.book.ensures)
    (c.time_if-at.ensures untimed) c.loop.reader c.note_row.new.reader c.requires.order
    c.in_ok-note_row.ensures (c.loop.invariant untimed)
