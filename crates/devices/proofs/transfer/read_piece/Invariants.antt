-- The calls so far were interrupted: they left the input and the count as they were.
use Rattle.std.proofs.Common.{◌≡◌, ◌≤◌, length}
use Rattle.std.specs.Io.KnownBytes.{Keeps}
use Rattle.devices.specs.Counted.{device_of, failures_of}
use Rattle.devices.proofs.transfer.read_piece.Given as goal

abbrev pub invariant-loop-turns : goal.invariant-loop-turns
invariant-loop-turns g l = record {
  kept : Keeps (g.R.Read.remaining (device_of l.fn.reader))
      (g.R.Read.remaining (device_of l.reader));
  counted : failures_of l.reader ≡ failures_of l.fn.reader;
  room : length l.buf ≡ length l.fn.buf;
  turns : l.turns ≤ l.fn.turns;
}

abbrev pub decreases-loop-turns : goal.decreases-loop-turns
decreases-loop-turns g l = l.turns
