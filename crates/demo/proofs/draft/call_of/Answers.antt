use Rattle.demo.proofs.Messages.{no_call}
use Rattle.demo.proofs.draft.call_of.Goals as goal

pub returns-in_default-clause-other : goal.returns-in_default-clause-other
returns-in_default-clause-other c =
    no_call c.args.text.now (rw c.in_default.is at c.in_ok-message.ensures.other)
