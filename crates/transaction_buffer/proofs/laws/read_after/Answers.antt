use Rattle.transaction_buffer.proofs.Reading.{read_after as law}
use Rattle.transaction_buffer.proofs.laws.read_after.Goals as goal

pub returns : goal.returns
returns c = law
