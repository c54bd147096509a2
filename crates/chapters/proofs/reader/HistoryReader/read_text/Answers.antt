use Rattle.std.proofs.Common.{◌≡◌, ◌∙◌, refl, subst, sym, true}
use Rattle.hex.specs.Hex.{decode_of}
use Rattle.site_base.specs.declared.row.Row.{Row}
use Rattle.device_map.specs.Ways.{sends, way_to}
use Rattle.chapters.specs.History.{IsMadeOf}
use Rattle.chapters.specs.Readers.{ReaderState}
use Rattle.chapters.proofs.Asked.{line_sends}
use Rattle.chapters.proofs.Reading.{comment_added, request_added}
use Rattle.chapters.proofs.reader.HistoryReader.read_text.Goals as goal

pub returns-then-is_comment-clause-right : goal.returns-then-is_comment-clause-right
returns-then-is_comment-clause-right c = λ right r made.
    comment_added c.args.line.now r c.args.self.now _
    (sym c.is_comment.ensures ∙ c.if-is_comment.true) refl made

pub returns-clause-right : goal.returns-clause-right
returns-clause-right c = λ right r made.
    request_added c.args.line.now r c.self.inside.book c.add_row.new.self c.in-Some.actor
    c.in-Some.event (sym c.is_comment.ensures ∙ c.if-is_comment.false)
    (sym c.in_ok-actor.ensures ∙ c.in-Some.is)
    (subst (λ (s : ReaderState). IsMadeOf s.book r.events) (sym c.self.view_is) made)
    c.add_row.ensures.config c.in_ok-add_row.ensures.added

pub returns-clause-sent : goal.returns-clause-sent
returns-clause-sent c =
    subst (λ (r : Row). sends r.actor (way_to r.event).kind ≡ true)
    (sym c.in_ok-add_row.ensures.row)
    (line_sends (decode_of c.args.line.now) (c.in-Some.actor, c.in-Some.event)
    (sym c.in_ok-actor.ensures ∙ c.in-Some.is))
