use Rattle.journal.proofs.JournalLaws.{histories_are_made_again as law}
use Rattle.journal.proofs.laws.histories_are_made_again.Goals as goal

pub returns : goal.returns
returns c = law
