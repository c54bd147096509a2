use Rattle.std.proofs.Common.{◌∙◌, None, refl, sym, true}
use Rattle.station.proofs.Answering.{hears_nothing, hears_piece}
use Rattle.station.proofs.Turns.{told_none}
use Rattle.station.proofs.hearing.hear.Goals as goal

pub returns-in-Err : goal.returns-in-Err
returns-in-Err c =
    hears_nothing _ c.args.piece.now c.args.book.now c.args.peer.now c.feed_into.new.self _ _ _
    c.in-Err.ensures.err c.end_session.ensures.turn c.end_session.ensures.told

pub returns-in-Some : goal.returns-in-Some
returns-in-Some c =
    hears_piece _ c.args.piece.now c.args.book.now c.args.peer.now c.feed_into.new.self
    c.as_slice.result.now _ c.refuse.ensures.turn.0 _ _ _ _ _ c.requires c.in-Ok.ensures.held
    (c.as_slice.ensures ∙ c.in-Ok.ensures.messages) (sym c.in-Some.is ∙ c.in-Ok.ensures.fault)
    c.admit.ensures c.refuse.ensures.turn.1 c.refuse.ensures.told

pub returns-in_default : goal.returns-in_default
returns-in_default c =
    hears_piece _ c.args.piece.now c.args.book.now c.args.peer.now c.feed_into.new.self
    c.as_slice.result.now None true _ _ _ _ _ c.requires c.in-Ok.ensures.held
    (c.as_slice.ensures ∙ c.in-Ok.ensures.messages)
    (sym c.in_default.is ∙ c.in-Ok.ensures.fault) c.admit.ensures refl
    (told_none c.admit.new.book c.admit.new.others)
