use Rattle.shift_ledger.proofs.ClosedShifts.{do_stay as law}
use Rattle.shift_ledger.proofs.laws.closed_shifts_stay.Goals as goal

pub returns : goal.returns
returns c = law
