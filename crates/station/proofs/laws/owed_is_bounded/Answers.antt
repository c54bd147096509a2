use Rattle.station.proofs.Owing.{owed_is_bounded as law}
use Rattle.station.proofs.laws.owed_is_bounded.Goals as goal

pub returns : goal.returns
returns c = law
