use Rattle.std.proofs.Common.{arith}
use Rattle.counter_desk.proofs.CallsMade.{submitted_more}
use Rattle.counter_desk.proofs.worker.submit_all.Goals as goal

pub loop-call-preserved : goal.loop-call-preserved
loop-call-preserved g c = record {
  submitted =
      submitted_more c.args.calls.now c.loop-call.call-index c.call-item.result
      c.args.share.now.receipts c.loop-call.share.receipts c.submit_one.new.share.receipts
      c.loop-call.accepted c.in-Ok.one (omega arith) c.call-item.is
      c.loop-call.invariant.submitted c.in-Ok.ensures.submitted;
  placed = omega arith;
  few = omega (arith, c.in-Ok.ensures.one);
}
