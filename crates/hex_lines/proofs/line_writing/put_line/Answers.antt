use Rattle.hex_lines.proofs.line_writing.put_line.Goals as goal

pub returns : goal.returns
returns c = rw (← c.head-head.ensures, ← c.body-body.ensures.text) c.put_spelling.ensures
