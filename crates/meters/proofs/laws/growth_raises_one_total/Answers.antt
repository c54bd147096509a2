use Rattle.meters.proofs.Weights.{growth_raises_one_total as law}
use Rattle.meters.proofs.laws.growth_raises_one_total.Goals as goal

pub returns : goal.returns
returns c = law
