use Rattle.std.proofs.Common.{◌≡◌, ◌∙◌, ap, not, subst, sym}
use Rattle.site_book.specs.Book.{Book}
use Rattle.past_rows.specs.ShiftFigures.{HasTaken, IsNextBook}
use Rattle.past_rows.proofs.RowsBefore.{next_book}
use Rattle.row_commands.proofs.report.take_moments.Goals as goal

pub loop-preserved : goal.loop-preserved
loop-preserved g c =
    let b = c.next.new.self.reader.book in
    let earlier = c.loop.walk.reader.book in
    let next = next_book earlier b c.in_ok-next.field-0
    (c.is_none.ensures ∙ ap not c.if-is_none.false) c.next.ensures.config
    c.in_ok-next.ensures.row in
    record {
      taken = subst (λ (x : Book). HasTaken c.take_moment-in-loop.new.self x) c.book-in-loop.ensures
          (c.in-Ok-take_moment.ensures.next earlier c.loop.invariant.taken
          (subst (λ (x : Book). IsNextBook earlier x) (sym c.book-in-loop.ensures) next));
      shifts = c.take_moment-in-loop.ensures.shifts ∙ c.loop.invariant.shifts;
    }
