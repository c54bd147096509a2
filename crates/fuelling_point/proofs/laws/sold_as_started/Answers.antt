use Rattle.fuelling_point.proofs.Starts.{sold_as_started as law}
use Rattle.fuelling_point.proofs.laws.sold_as_started.Goals as goal

pub returns : goal.returns
returns c = law
