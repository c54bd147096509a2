use Rattle.shift_ledger.proofs.Counting.{has_every_figure as law}
use Rattle.shift_ledger.proofs.laws.has_every_figure.Goals as goal

pub returns : goal.returns
returns c = law
