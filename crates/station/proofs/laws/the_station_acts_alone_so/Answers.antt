use Rattle.station.proofs.OwnRows.{acts_alone}
use Rattle.station.proofs.laws.the_station_acts_alone_so.Goals as goal

pub returns : goal.returns
returns c = acts_alone
