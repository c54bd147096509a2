use Rattle.std.proofs.Common.{◌∙◌, ap, refl, sym}
use Rattle.std.proofs.lemmas.Result.{err_from_is_err_and}
use Rattle.conversation.specs.declared.said.Said.TheVariants as says
use Rattle.conversation.specs.Saying.{said_message}
use Rattle.till_session.specs.Counters.{counts}
use Rattle.till_session.specs.Course.{end_with, ends_early}
use Rattle.till_session.proofs.Talks.{asked_noted, front_none, talked_front, talked_said}
use Rattle.till_session.proofs.teller.Teller.answer.Goals as goal

pub returns-in_err-reply-clause-talked : goal.returns-in_err-reply-clause-talked
returns-in_err-reply-clause-talked g c =
    let p = err_from_is_err_and c.from_residual.result c.from_residual.ensures.1 in
    rw p.1
    (talked_front p.0 c.args.self.now _ c.args.message.now c.hear_message.result _ _
    (counts (g.C.Counter.rows c.args.counter.now) (g.C.Counter.owes c.args.counter.now))
    (counts (g.C.Counter.rows c.hear_message.new.counter)
    (g.C.Counter.owes c.hear_message.new.counter))
    (ap ends_early p.2) c.hear_message.ensures.means (c.self.view_is ∙ c.hear_message.ensures.talk)
    c.hear_message.ensures.own c.hear_message.ensures.asked (front_none _ _))

pub returns-in_err-tell-clause-talked : goal.returns-in_err-tell-clause-talked
returns-in_err-tell-clause-talked g c =
    let p = err_from_is_err_and c.from_residual-in_err-tell.result
    c.from_residual-in_err-tell.ensures.1 in
    let says_it = c.in_ok-reply.ensures
    ∙ ap (λ m. said_message m c.hear_message.result) c.as_spelled.ensures in
    let front = rw says_it at c.in_err-tell.ensures.front in
    rw p.1
    (talked_front p.0 c.args.self.now _ c.args.message.now c.hear_message.result _ _
    (counts (g.C.Counter.rows c.args.counter.now) (g.C.Counter.owes c.args.counter.now))
    (counts (g.C.Counter.rows c.hear_message.new.counter)
    (g.C.Counter.owes c.hear_message.new.counter))
    (ap ends_early p.2 ∙ c.in_err-tell.ensures.ends) c.hear_message.ensures.means
    (c.tell.ensures.same ∙ c.self.view_is ∙ c.hear_message.ensures.talk) c.hear_message.ensures.own
    c.hear_message.ensures.asked front)

pub returns-in-Another-clause-talked : goal.returns-in-Another-clause-talked
returns-in-Another-clause-talked g c =
    let says_it = c.in_ok-reply.ensures
    ∙ ap (λ m. said_message m c.hear_message.result) c.as_spelled.ensures in
    let written = rw says_it at c.in_ok-tell.ensures.ok in
    talked_said _ c.args.self.now _ c.args.message.now c.hear_message.result _ _
    (counts (g.C.Counter.rows c.args.counter.now) (g.C.Counter.owes c.args.counter.now))
    (counts (g.C.Counter.rows c.hear_message.new.counter)
    (g.C.Counter.owes c.hear_message.new.counter))
    (sym (ap end_with c.in-Another.is)) c.hear_message.ensures.means
    (c.tell.ensures.same ∙ c.self.view_is ∙ c.hear_message.ensures.talk) c.hear_message.ensures.own
    c.hear_message.ensures.asked written

pub returns-in-Fault-clause-talked : goal.returns-in-Fault-clause-talked
returns-in-Fault-clause-talked g c =
    let says_it = c.in_ok-reply.ensures
    ∙ ap (λ m. said_message m c.hear_message.result) c.as_spelled.ensures in
    let written = rw says_it at c.in_ok-tell.ensures.ok in
    talked_said _ c.args.self.now _ c.args.message.now c.hear_message.result _ _
    (counts (g.C.Counter.rows c.args.counter.now) (g.C.Counter.owes c.args.counter.now))
    (counts (g.C.Counter.rows c.hear_message.new.counter)
    (g.C.Counter.owes c.hear_message.new.counter))
    (sym (ap end_with c.in-Fault.is)) c.hear_message.ensures.means
    (c.tell.ensures.same ∙ c.self.view_is ∙ c.hear_message.ensures.talk) c.hear_message.ensures.own
    c.hear_message.ensures.asked written

pub returns-in-Outcome-clause-talked : goal.returns-in-Outcome-clause-talked
returns-in-Outcome-clause-talked g c =
    let says_it = c.in_ok-reply.ensures
    ∙ ap (λ m. said_message m c.hear_message.result) c.as_spelled.ensures
    ∙ ap (said_message c.args.message.now) c.in-Outcome.is in
    let written = rw says_it at c.in_ok-tell.ensures.ok in
    let means = rw c.in-Outcome.is at c.hear_message.ensures.means in
    let talk = rw c.in-Outcome.is at c.hear_message.ensures.talk in
    let asked = rw c.in-Outcome.is at c.hear_message.ensures.asked in
    let before =
    counts (g.C.Counter.rows c.args.counter.now) (g.C.Counter.owes c.args.counter.now) in
    let then = counts (g.C.Counter.rows c.hear_message.new.counter)
    (g.C.Counter.owes c.hear_message.new.counter) in
    let rows = g.C.Counter.rows c.note_written.new.self in
    let owes = g.C.Counter.owes c.note_written.new.self in
    talked_said _ c.args.self.now _ c.args.message.now
    (says.Outcome c.in-Outcome.actor c.in-Outcome.field-1 c.in-Outcome.field-2) _ _ before
    (counts rows owes) refl means (c.tell.ensures.same ∙ c.self.view_is ∙ talk)
    c.hear_message.ensures.own
    (asked_noted c.in-Outcome.actor c.in-Outcome.field-1 c.in-Outcome.field-2 before then rows owes
    asked c.note_written.ensures.rows c.note_written.ensures.owes)
    written
