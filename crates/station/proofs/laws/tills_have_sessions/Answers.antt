use Rattle.station.proofs.TillSessions.{tills_have}
use Rattle.station.proofs.laws.tills_have_sessions.Goals as goal

pub returns : goal.returns
returns c = λ g b ms off t signed. tills_have g b ms off t signed
