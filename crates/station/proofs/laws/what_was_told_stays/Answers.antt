use Rattle.station.proofs.Staying.{what_was_told_stays as law}
use Rattle.station.proofs.laws.what_was_told_stays.Goals as goal

pub returns : goal.returns
returns c = law
