use Rattle.std.proofs.Common.{◌∙◌, ◌++◌, ℕ, List, Option, ap, false, true}
use Rattle.app_message.specs.Spelling.{spelling}
use Rattle.conversation.specs.Saying.{said_message}
use Rattle.station.specs.Hearing.{end_behind}
use Rattle.station.specs.Sessions.{Session, end_session, no_memory, opening_text, with_text}
use Rattle.station.proofs.Answering.{answers_said, heard_turn, said_lost, said_put}
use Rattle.station.proofs.hearing.answer.Goals as goal

pub returns-in-Err : goal.returns-in-Err
returns-in-Err c =
    let m = c.args.message.now in
    let p = c.args.peer.now in
    let b = c.hear_message.new.book in
    answers_said false m c.hear_message.result c.args.book.now b p _ c.args.others.now
    c.hear_message.new.others c.end_session.new.others c.requires
    c.hear_message.ensures.means c.hear_message.ensures.asked
    (c.end_session.ensures.turn
    ∙ ap (λ (x : Session). end_session no_memory (record { book = b; session = x }))
    (c.in-Err.ensures.err ∙ c.hear_message.ensures.talk)
    ∙ said_lost m c.hear_message.result p.talk.peer (heard_turn b p m.from c.hear_message.result))
    c.end_session.ensures.told

pub returns-in-Ok : goal.returns-in-Ok
returns-in-Ok c =
    let m = c.args.message.now in
    let p = c.args.peer.now in
    let b = c.hear_message.new.book in
    let said = c.hear_message.result in
    let text : Option (List ℕ) → List ℕ =
    λ q. spelling (said_message m said) ++ opening_text q m.from b in
    answers_said true m said c.args.book.now b p _ c.args.others.now
    c.hear_message.new.others c.end_another.new.others c.requires
    c.hear_message.ensures.means c.hear_message.ensures.asked
    (c.end_another.ensures.turn
    ∙ ap (λ (x : Session). end_behind said (record { book = b; session = x })) c.in-Ok.ensures.ok
    ∙ ap (λ (x : Session). end_behind said (with_text (text c.peer-before.result)
    (record { book = b; session = x }))) c.hear_message.ensures.talk
    ∙ ap (λ q. end_behind said (with_text (text q) (heard_turn b p m.from said)))
    c.peer-before.ensures
    ∙ said_put m said p.talk.peer (heard_turn b p m.from said))
    c.end_another.ensures.told
