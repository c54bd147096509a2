use Rattle.transaction_buffer.proofs.Rules.{cleared_for_good as law}
use Rattle.transaction_buffer.proofs.laws.cleared_for_good.Goals as goal

pub returns : goal.returns
returns c = law
