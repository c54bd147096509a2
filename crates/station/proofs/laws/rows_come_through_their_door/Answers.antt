use Rattle.station.proofs.Doors.{through_doors}
use Rattle.station.proofs.laws.rows_come_through_their_door.Goals as goal

pub returns : goal.returns
returns c = through_doors
