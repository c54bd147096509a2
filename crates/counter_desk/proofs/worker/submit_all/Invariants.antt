use Rattle.std.proofs.Common.{◌≡◌, ◌≤◌, take}
use Rattle.counter_desk.specs.Work.{AreSubmitted}
use Rattle.counter_desk.proofs.worker.submit_all.Given as goal

abbrev pub invariant-loop-call : goal.invariant-loop-call
invariant-loop-call g l = record {
  submitted : AreSubmitted (take l.call-index l.calls) l.fn.share.receipts l.share.receipts
      l.accepted;
  placed : l.placed ≡ l.call-index;
  few : l.accepted ≤ l.call-index;
}
