use Rattle.std.proofs.Common.{◌*◌}
use Rattle.hex_lines.specs.SideBySide.{IsRead}
use Rattle.hex_lines.proofs.plain_digits.read_digits.Given as goal

abbrev pub invariant-loop-i : goal.invariant-loop-i
invariant-loop-i l = IsRead l.text l.place (8 * l.i)
