use Rattle.chapters.proofs.Comments.{comments_say_nothing as law}
use Rattle.chapters.proofs.laws.comments_say_nothing.Goals as goal

pub returns : goal.returns
returns c = law
