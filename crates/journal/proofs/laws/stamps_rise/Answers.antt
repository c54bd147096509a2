use Rattle.journal.proofs.JournalLaws.{stamps_rise as law}
use Rattle.journal.proofs.laws.stamps_rise.Goals as goal

pub returns : goal.returns
returns c = law
