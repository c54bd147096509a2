use Rattle.fuelling_point.proofs.Whole.{stays_whole as law}
use Rattle.fuelling_point.proofs.laws.stays_whole.Goals as goal

pub returns : goal.returns
returns c = law
