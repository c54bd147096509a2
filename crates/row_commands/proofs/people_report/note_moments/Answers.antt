use Rattle.std.proofs.Common.{◌≡◌, ◌∙◌, ap, length, refl, subst, sym}
use Rattle.site_book.specs.Book.{Book}
use Rattle.written_site.specs.RowWords.{open_after}
use Rattle.past_rows.specs.ShiftFigures.{HasTaken, IsNextBook}
use Rattle.row_commands.proofs.AskedGaps.{next_of, notes_row}
use Rattle.row_commands.proofs.people_report.note_moments.Goals as goal

pub loop-preserved : goal.loop-preserved
loop-preserved g c =
    let b = c.next.new.self.reader.book in
    let earlier = c.loop.walk.reader.book in
    let next : IsNextBook earlier b =
    next_of earlier b c.in_ok-told.field-0 c.in-Some.told c.in-Some.is c.next.ensures.config
    c.in_ok-told.ensures.row in
    record {
      taken = subst (λ (x : Book). HasTaken c.take_moment.new.figures x) c.book-in-loop.ensures
          (c.in_ok-take_moment.ensures.next earlier c.loop.invariant.taken
          (subst (λ (x : Book). IsNextBook earlier x) (sym c.book-in-loop.ensures) next));
      shifts = c.take_moment.ensures.shifts ∙ c.loop.invariant.shifts;
      read = notes_row earlier b c.args.shifts.now c.in_ok-told.field-0 c.in-Some.told c.in-Some.is
          c.next.ensures.config c.in_ok-told.ensures.row _
          (c.next_place-row.ensures.row ∙ ap (λ (x : Book). length x.rows) c.book.ensures) _
          (c.next_place-row.ensures.shift ∙ ap (λ (x : Book). open_after x.rows) c.book.ensures)
          refl c.loop.reader c.note_row.new.reader c.requires.order c.in_ok-note_row.ensures
          c.loop.invariant.read;
    }
