use Rattle.station.proofs.Knowledge.{standing_tells}
use Rattle.station.proofs.laws.standing_notices_tell_what_was_missed.Goals as goal

pub returns : goal.returns
returns c = standing_tells
