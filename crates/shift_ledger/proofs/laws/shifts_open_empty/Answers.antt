use Rattle.shift_ledger.proofs.ClosedShifts.{is_opened_empty as law}
use Rattle.shift_ledger.proofs.laws.shifts_open_empty.Goals as goal

pub returns : goal.returns
returns c = law
