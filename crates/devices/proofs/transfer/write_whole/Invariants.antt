-- The front of the text up to `done` is written. Each call writes more of it or takes a turn.
use Rattle.std.proofs.Common.{◌≡◌, ◌≤◌, ◌+◌, ◌-◌, length, take}
use Rattle.std.specs.Io.KnownBytes.{Appends}
use Rattle.devices.specs.Counted.{device_of, failures_of}
use Rattle.devices.proofs.transfer.write_whole.Given as goal

abbrev pub invariant-loop-done : goal.invariant-loop-done
invariant-loop-done g l = record {
  written : Appends (g.W.Write.contents (device_of l.fn.writer))
      (g.W.Write.contents (device_of l.writer)) (take l.done l.text);
  within : l.done ≤ length l.text;
  counted : failures_of l.writer ≡ failures_of l.fn.writer;
  turns : l.turns ≤ l.fn.turns;
}

abbrev pub decreases-loop-done : goal.decreases-loop-done
decreases-loop-done g l = (length l.text - l.done) + l.turns
