use Rattle.shift_ledger.proofs.Counting.{is_counted as law}
use Rattle.shift_ledger.proofs.laws.a_clear_counts.Goals as goal

pub returns : goal.returns
returns c = law
