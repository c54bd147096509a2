use Rattle.std.proofs.Common.{◌++◌, ◌∷◌, [], ℕ, Result, Some, slice_get, ap, sym, ◌∙◌, arith}
use Rattle.site_base.specs.declared.answer.Answer.{Answer}
use Rattle.site_base.specs.declared.refusal.Refusal.{Refusal}
use Rattle.site_base.specs.declared.row.Row.{Row}
use Rattle.site_book.specs.Book.{Book, next_row}
use Rattle.counter_desk.proofs.OwedTills.{room_asked}
use Rattle.counter_desk.proofs.Placing.{stands_last}
use Rattle.counter_desk.proofs.locked.Locked.submit.Goals as goal

pub note-requires-clause-room : goal.note-requires-clause-room
note-requires-clause-room g c =
    let asked = room_asked c.args.actor.now c.args.event.now c.in_ok-placed.field-0.reply
    c.args.share.now.owed in
    omega (arith, asked, c.requires)

pub returns-clause-stands : goal.returns-clause-stands
returns-clause-stands g c =
    let old : Book = c.self.inside.book in
    let row : Row = next_row old c.args.actor.now c.args.event.now in
    let placed = c.in_ok-placed.field-0 in
    ap (λ (b : Book). slice_get b.rows placed.place) c.in_ok-placed.ensures.row
    ∙ ap (λ (k : ℕ). slice_get (old.rows ++ row ∷ []) k) c.in_ok-placed.ensures.place
    ∙ stands_last old.rows row
    ∙ ap (λ (reply : Result Answer Refusal). Some (record row { reply = reply }))
    (sym c.in_ok-placed.ensures.reply)
