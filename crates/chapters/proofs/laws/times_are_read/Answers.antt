use Rattle.chapters.proofs.Times.{times_are_read as law}
use Rattle.chapters.proofs.laws.times_are_read.Goals as goal

pub returns : goal.returns
returns c = law
