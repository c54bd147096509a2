use Rattle.app_message.proofs.SpelledStreams.{octets_are_spelled as law}
use Rattle.app_message.proofs.laws.octets_are_spelled.Goals as goal

pub returns : goal.returns
returns c = law
