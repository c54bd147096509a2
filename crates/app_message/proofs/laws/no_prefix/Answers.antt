use Rattle.app_message.proofs.Again.{no_prefix as law}
use Rattle.app_message.proofs.laws.no_prefix.Goals as goal

pub returns : goal.returns
returns c = law
