use Rattle.std.proofs.Common.{arith}
use Rattle.station.proofs.SlotSessions.{nobody_beyond}
use Rattle.station.proofs.station.Station.book.Goals as goal

pub returns-clause-keys : goal.returns-clause-keys
returns-clause-keys c = λ k beyond.
    rw (← c.self.view_is)
    (nobody_beyond k c.self.inside.slots (omega (arith, c.self.invariant, beyond)))
