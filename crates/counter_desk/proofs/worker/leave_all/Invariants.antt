use Rattle.std.proofs.Common.{◌≡◌, ◌≤◌, ℕ, false}
use Rattle.counter_desk.specs.Shares.{owes}
use Rattle.counter_desk.specs.Work.{AreSignOffs}
use Rattle.counter_desk.proofs.worker.leave_all.Given as goal

abbrev pub invariant-loop-cell : goal.invariant-loop-cell
invariant-loop-cell g l = record {
  left : AreSignOffs l.fn.share.receipts l.share.receipts;
  owed : (t : ℕ) → 1 ≤ t → t ≤ l.cell → owes l.share t ≡ false;
}
