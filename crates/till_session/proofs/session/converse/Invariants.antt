use Rattle.std.proofs.Common.{◌≡◌, ◌≤◌}
use Rattle.devices.specs.Counted.{device_of, failures_of}
use Rattle.till_session.proofs.Conversing.{Conversing}
use Rattle.till_session.proofs.session.converse.Given as goal

abbrev pub invariant-loop-messages : goal.invariant-loop-messages
invariant-loop-messages g l = record {
  so_far : Conversing l.fn.turns l.turns l.teller l.decoder
      (g.R.Read.remaining (device_of l.fn.reader)) (g.R.Read.remaining (device_of l.reader))
      (g.W.Write.contents (device_of l.fn.writer)) (g.W.Write.contents (device_of l.writer))
      (g.C.Counter.rows l.fn.counter) (g.C.Counter.rows l.counter) (g.C.Counter.owes l.fn.counter)
      (g.C.Counter.owes l.counter);
  reads : failures_of l.reader ≡ failures_of l.fn.reader;
  writes : failures_of l.writer ≡ failures_of l.fn.writer;
  unturned : l.turns ≤ l.fn.turns;
}

abbrev pub decreases-loop-messages : goal.decreases-loop-messages
decreases-loop-messages g l = l.turns
