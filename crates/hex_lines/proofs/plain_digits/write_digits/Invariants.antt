use Rattle.std.proofs.Common.{◌*◌}
use Rattle.hex_lines.specs.SideBySide.{IsWritten}
use Rattle.hex_lines.proofs.plain_digits.write_digits.Given as goal

abbrev pub invariant-loop-i : goal.invariant-loop-i
invariant-loop-i l = IsWritten l.octets l.place (8 * l.i)
