use Rattle.meters.proofs.Weights.{reports_are_metered as law}
use Rattle.meters.proofs.laws.reports_are_metered.Goals as goal

pub returns : goal.returns
returns c = law
