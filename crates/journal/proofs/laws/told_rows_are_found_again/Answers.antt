use Rattle.journal.proofs.JournalLaws.{told_rows_are_found_again as law}
use Rattle.journal.proofs.laws.told_rows_are_found_again.Goals as goal

pub returns : goal.returns
returns c = law
