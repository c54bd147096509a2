use Rattle.transaction_buffer.proofs.Rules.{cleared_by_its_locker as law}
use Rattle.transaction_buffer.proofs.laws.cleared_by_its_locker.Goals as goal

pub returns : goal.returns
returns c = law
