use Rattle.fuelling_point.proofs.TestDraws.{tests_are_drawn as law}
use Rattle.fuelling_point.proofs.laws.tests_are_drawn.Goals as goal

pub returns : goal.returns
returns c = law
