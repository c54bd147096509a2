use Rattle.shift_ledger.proofs.Sums.{are_figures_sums}
use Rattle.shift_ledger.proofs.laws.figures_are_sums.Goals as goal

pub returns : goal.returns
returns c = are_figures_sums
