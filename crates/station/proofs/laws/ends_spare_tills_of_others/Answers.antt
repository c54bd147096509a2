use Rattle.station.proofs.Endings.{spare_others}
use Rattle.station.proofs.laws.ends_spare_tills_of_others.Goals as goal

pub returns : goal.returns
returns c = spare_others
