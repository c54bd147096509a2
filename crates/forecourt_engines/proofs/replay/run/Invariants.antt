use Rattle.std.proofs.Common.{◌≡◌, ◌≤◌}
use Rattle.devices.specs.Counted.{device_of, failures_of}
use Rattle.forecourt_engines.proofs.Running.{Running}
use Rattle.forecourt_engines.proofs.replay.run.Given as goal

abbrev pub invariant-loop-text : goal.invariant-loop-text
invariant-loop-text g l = record {
  running : Running l.fn.turns l.turns l.fn.engine l.engine
      (g.R.Read.remaining (device_of l.fn.reader)) (g.R.Read.remaining (device_of l.reader))
      (g.S.TextSink.holds l.fn.sink) (g.S.TextSink.holds l.sink);
  reads : failures_of l.reader ≡ failures_of l.fn.reader;
  writes : g.S.TextSink.failures l.sink ≡ g.S.TextSink.failures l.fn.sink;
  unturned : l.turns ≤ l.fn.turns;
}

abbrev pub decreases-loop-text : goal.decreases-loop-text
decreases-loop-text g l = l.turns
