use Rattle.transaction_buffer.proofs.Summing.{summed_after as law}
use Rattle.transaction_buffer.proofs.laws.summed_after.Goals as goal

pub returns : goal.returns
returns c = law
