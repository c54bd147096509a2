use Rattle.chapters.proofs.Binding.{seals_bind_their_texts as law}
use Rattle.chapters.proofs.laws.seals_bind_their_texts.Goals as goal

pub returns : goal.returns
returns c = law
