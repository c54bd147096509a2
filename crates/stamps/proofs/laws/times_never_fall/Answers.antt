use Rattle.stamps.proofs.Times.{times_never_fall as law}
use Rattle.stamps.proofs.laws.times_never_fall.Goals as goal

pub returns : goal.returns
returns c = law
