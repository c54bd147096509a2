use Rattle.std.proofs.Common.{◌≡◌, ◌++◌, drop, eqb, filter, not}
use Rattle.hex_lines.proofs.line_reading.put_without_spaces.Given as goal

-- what is kept, and what will be kept of the octets that are left
abbrev pub invariant-loop-octet : goal.invariant-loop-octet
invariant-loop-octet l = l.kept.items ++ filter (λ b. not (eqb b 32)) (drop l.octet-index l.text)
    ≡ filter (λ b. not (eqb b 32)) l.text
