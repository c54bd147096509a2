use Rattle.station.proofs.Leaving.{going_leaves}
use Rattle.station.proofs.laws.peers_leave_their_till.Goals as goal

pub returns : goal.returns
returns c = λ s k x t there lasts on. going_leaves k s x t there lasts on
