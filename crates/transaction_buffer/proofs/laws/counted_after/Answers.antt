use Rattle.transaction_buffer.proofs.Counting.{counted_after as law}
use Rattle.transaction_buffer.proofs.laws.counted_after.Goals as goal

pub returns : goal.returns
returns c = law
