use Rattle.journal.proofs.JournalLaws.{beginnings_are_read as law}
use Rattle.journal.proofs.laws.beginnings_are_read.Goals as goal

pub returns : goal.returns
returns c = law
