use Rattle.station.proofs.NeverFull.{stations_are_never_full as law}
use Rattle.station.proofs.laws.stations_are_never_full.Goals as goal

pub returns : goal.returns
returns c = law
