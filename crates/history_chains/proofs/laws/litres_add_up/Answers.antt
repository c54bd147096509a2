use Rattle.history_chains.proofs.Chains.{litres_over}
use Rattle.history_chains.proofs.laws.litres_add_up.Goals as goal

pub returns : goal.returns
returns c = litres_over
