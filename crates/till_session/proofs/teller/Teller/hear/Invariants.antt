use Rattle.std.proofs.Common.{◌≡◌, ◌≤◌, None, take}
use Rattle.devices.specs.Counted.{device_of, failures_of}
use Rattle.till_session.specs.Course.{Talked}
use Rattle.till_session.proofs.teller.Teller.hear.Given as goal

abbrev pub invariant-loop-message : goal.invariant-loop-message
invariant-loop-message g l = record {
  talked : Talked None l.fn.self l.self (take l.message-index l.messages)
      (g.W.Write.contents (device_of l.fn.writer)) (g.W.Write.contents (device_of l.writer))
      (g.C.Counter.rows l.fn.counter) (g.C.Counter.rows l.counter) (g.C.Counter.owes l.fn.counter)
      (g.C.Counter.owes l.counter);
  writes : failures_of l.writer ≡ failures_of l.fn.writer;
  unturned : l.turns ≤ l.fn.turns;
}
