use Rattle.transaction_buffer.proofs.Rules.{one_locker as law}
use Rattle.transaction_buffer.proofs.laws.one_locker.Goals as goal

pub returns : goal.returns
returns c = law
