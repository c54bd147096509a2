use Rattle.hex_lines.proofs.line_reading.read_octets.Goals as goal

-- the text is digits alone
pub returns-then-branch : goal.returns-then-branch
returns-then-branch c = c.in_ok-is_plain.ensures c.if-branch.true
