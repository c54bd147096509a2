use Rattle.std.proofs.Common.{◌≡◌, ◌++◌, drop, flat_map}
use Rattle.day_report.specs.Columns.{line_text}
use Rattle.day_report.proofs.columns.put_table.Given as goal

abbrev pub invariant-loop-line : goal.invariant-loop-line
invariant-loop-line l =
    l.text.items ++ flat_map (line_text l.first l.width) (drop l.line-index l.lines)
    ≡ l.fn.text.items ++ flat_map (line_text l.first l.width) l.lines
