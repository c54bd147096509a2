use Rattle.journal.proofs.Lives.{calls_are_steps as law}
use Rattle.journal.proofs.laws.calls_are_steps.Goals as goal

pub returns : goal.returns
returns c = law
