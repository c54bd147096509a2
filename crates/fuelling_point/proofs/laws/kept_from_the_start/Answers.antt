use Rattle.fuelling_point.proofs.Starts.{started}
use Rattle.fuelling_point.proofs.laws.kept_from_the_start.Goals as goal

pub returns : goal.returns
returns c = started
