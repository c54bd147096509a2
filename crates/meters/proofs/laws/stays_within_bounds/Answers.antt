use Rattle.meters.proofs.Bounds.{stays_within_bounds as law}
use Rattle.meters.proofs.laws.stays_within_bounds.Goals as goal

pub returns : goal.returns
returns c = law
