use Rattle.fuelling_point.proofs.Lifts.{the_lifted}
use Rattle.fuelling_point.proofs.laws.sold_by_the_lifted_nozzle.Goals as goal

pub returns : goal.returns
returns c = the_lifted
