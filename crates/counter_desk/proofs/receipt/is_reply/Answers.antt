use Rattle.std.proofs.Common.{sym, ◌∙◌}
use Rattle.counter_desk.proofs.SameReplies.{same_replies}
use Rattle.counter_desk.proofs.receipt.is_reply.Goals as goal

pub returns-clause-same : goal.returns-clause-same
returns-clause-same c = λ h. same_replies c.args.reply.now c.args.other.now (sym c.eq.ensures ∙ h)
