use Rattle.std.proofs.Common.{◌≡◌, ◌≤◌, take}
use Rattle.demo.specs.Reports.{AreTaken}
use Rattle.demo.proofs.dispenser.Dispenser.take_steps.Given as goal

abbrev pub invariant-loop-step : goal.invariant-loop-step
invariant-loop-step g l = record {
  taken : AreTaken g.C.Naming.config (take l.step-index l.steps) l.fn.self l.self
      l.fn.share.receipts l.share.receipts l.counts.sold l.counts.refused;
  few_sold : l.counts.sold ≤ l.step-index;
  few_refused : l.counts.refused ≤ l.step-index;
  owed : l.share.owed ≡ l.fn.share.owed;
}
