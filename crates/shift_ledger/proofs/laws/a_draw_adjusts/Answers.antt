use Rattle.shift_ledger.proofs.Counting.{is_drawn as law}
use Rattle.shift_ledger.proofs.laws.a_draw_adjusts.Goals as goal

pub returns : goal.returns
returns c = law
