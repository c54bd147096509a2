use Rattle.fuelling_point.proofs.Whole.{conserved}
use Rattle.fuelling_point.proofs.laws.volume_is_conserved.Goals as goal

pub returns : goal.returns
returns c = conserved
