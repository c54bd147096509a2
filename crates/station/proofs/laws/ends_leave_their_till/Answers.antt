use Rattle.station.specs.Runs.{after, opening_station}
use Rattle.station.proofs.Leaving.{always_own, ends_leave}
use Rattle.station.proofs.laws.ends_leave_their_till.Goals as goal

pub returns : goal.returns
returns c = λ g b ms m k x y end t there lasts is over on.
    ends_leave m (after ms (opening_station g b)) k x y end t (always_own g b ms) there lasts is
    over on
