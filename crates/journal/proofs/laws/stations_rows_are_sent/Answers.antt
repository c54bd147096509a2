use Rattle.journal.proofs.JournalLaws.{stations_rows_are_sent as law}
use Rattle.journal.proofs.laws.stations_rows_are_sent.Goals as goal

pub returns : goal.returns
returns c = law
