use Rattle.chapters.proofs.Chapters.{chapters_tell_their_history as law}
use Rattle.chapters.proofs.laws.chapters_tell_their_history.Goals as goal

pub returns : goal.returns
returns c = law
