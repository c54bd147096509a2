use Rattle.app_message.proofs.Only.{one_stream as law}
use Rattle.app_message.proofs.laws.one_stream.Goals as goal

pub returns : goal.returns
returns c = law
