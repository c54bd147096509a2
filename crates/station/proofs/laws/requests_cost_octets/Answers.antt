use Rattle.station.proofs.Costs.{cost_octets}
use Rattle.station.proofs.laws.requests_cost_octets.Goals as goal

pub returns : goal.returns
returns c = cost_octets
