use Rattle.kept_history.proofs.LeftOut.{left_out}
use Rattle.kept_history.proofs.laws.reads_can_be_left_out.Goals as goal

pub returns : goal.returns
returns c = left_out
