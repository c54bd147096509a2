use Rattle.meters.proofs.Bounds.{totals_are_metered as law}
use Rattle.meters.proofs.laws.totals_are_metered.Goals as goal

pub returns : goal.returns
returns c = law
