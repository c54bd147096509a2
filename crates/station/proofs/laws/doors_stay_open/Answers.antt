use Rattle.station.proofs.DoorPlaces.{stay_open}
use Rattle.station.proofs.laws.doors_stay_open.Goals as goal

pub returns : goal.returns
returns c = stay_open
