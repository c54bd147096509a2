use Rattle.std.proofs.Common.{◌+◌, ◌∙◌, Some, None, arith, refl}
use Rattle.std.proofs.lemmas.Result.{err_from_is_err_and}
use Rattle.till_session.proofs.Talks.{talked_all, talked_more, talked_none}
use Rattle.till_session.proofs.teller.Teller.hear.Goals as goal

pub loop-message-init : goal.loop-message-init
loop-message-init g c = record {
  talked = talked_none _ _ _ _;
  writes = refl;
  unturned = omega arith;
}

-- the talk ended at this message
pub returns-in_err-answer-clause-talked : goal.returns-in_err-answer-clause-talked
returns-in_err-answer-clause-talked g c =
    let i = c.loop-message.message-index in
    let ms = c.args.messages.now in
    let p = err_from_is_err_and c.from_residual.result c.from_residual.ensures.1 in
    let one = talked_more (Some c.in_err-answer.field-0.0) ms i c.message-item.result
    c.args.self.now c.loop-message.self c.answer.new.self _ _ _ _ _ _ _ _ _ (omega arith)
    c.message-item.is c.loop-message.invariant.talked c.in_err-answer.ensures.talked in
    let all = talked_all c.in_err-answer.field-0.0 ms (i + 1) c.args.self.now c.answer.new.self _ _
    _ _ _ _ one in
    rw (p.1, p.2) all

pub loop-message-preserved : goal.loop-message-preserved
loop-message-preserved g c =
    let i = c.loop-message.message-index in
    let ms = c.args.messages.now in
    record {
      talked = talked_more None ms i c.message-item.result c.args.self.now c.loop-message.self
          c.answer.new.self _ _ _ _ _ _ _ _ _ (omega arith) c.message-item.is
          c.loop-message.invariant.talked c.in_ok-answer.ensures.talked;
      writes = c.in_ok-answer.ensures.counted ∙ c.loop-message.invariant.writes;
      unturned = omega (arith, c.loop-message.invariant.unturned, c.in_ok-answer.ensures.turns);
    }
