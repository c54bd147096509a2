use Rattle.std.proofs.Common.{sym, ◌∙◌}
use Rattle.counter_desk.proofs.Same.{same_events}
use Rattle.counter_desk.proofs.receipt.is_event.Goals as goal

pub returns-clause-same : goal.returns-clause-same
returns-clause-same c = λ h. same_events c.args.event.now c.args.other.now (sym c.eq.ensures ∙ h)
