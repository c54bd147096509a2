use Rattle.station.proofs.Standings.{all_change}
use Rattle.station.proofs.laws.standing_notices_are_changes.Goals as goal

pub returns : goal.returns
returns c = λ p v. all_change v.state p v
