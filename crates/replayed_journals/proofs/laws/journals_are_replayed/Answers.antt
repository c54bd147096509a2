use Rattle.replayed_journals.proofs.Replays.{journals_are_replayed as law}
use Rattle.replayed_journals.proofs.laws.journals_are_replayed.Goals as goal

pub returns : goal.returns
returns c = law
