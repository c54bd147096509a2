use Rattle.app_message.proofs.Cutting.{any_cut}
use Rattle.app_message.proofs.laws.any_cutting.Goals as goal

pub returns : goal.returns
returns c = any_cut
