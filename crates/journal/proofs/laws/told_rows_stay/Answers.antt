use Rattle.journal.proofs.Steps.{told_rows_stay as law}
use Rattle.journal.proofs.laws.told_rows_stay.Goals as goal

pub returns : goal.returns
returns c = law
