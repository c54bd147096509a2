use Rattle.journal.proofs.Spelling.{stations_rows_can_be_spelled as law}
use Rattle.journal.proofs.laws.stations_rows_can_be_spelled.Goals as goal

pub returns : goal.returns
returns c = law
