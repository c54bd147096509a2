use Rattle.std.proofs.Common.{arith, ◌∙◌}
use Rattle.demo.proofs.StepsTaken.{taken_more}
use Rattle.demo.proofs.dispenser.Dispenser.take_steps.Goals as goal

pub loop-step-preserved : goal.loop-step-preserved
loop-step-preserved g c = record {
  taken =
      taken_more g.C.Naming.config c.args.steps.now c.loop-step.step-index c.step-item.result
      c.args.self.now c.loop-step.self c.take_step.new.self c.args.share.now.receipts
      c.loop-step.share.receipts c.take_step.new.share.receipts c.loop-step.counts.sold
      c.in-Ok.one.sold c.loop-step.counts.refused c.in-Ok.one.refused (omega arith)
      c.step-item.is c.loop-step.invariant.taken c.in-Ok.ensures.taken;
  few_sold = omega (arith, c.in-Ok.ensures.few.0);
  few_refused = omega (arith, c.in-Ok.ensures.few.1);
  owed = c.take_step.ensures.owed ∙ c.loop-step.invariant.owed;
}
