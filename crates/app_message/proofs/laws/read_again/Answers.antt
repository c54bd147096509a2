use Rattle.app_message.proofs.Again.{read_again as law}
use Rattle.app_message.proofs.laws.read_again.Goals as goal

pub returns : goal.returns
returns c = law
