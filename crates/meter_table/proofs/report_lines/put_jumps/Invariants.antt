use Rattle.std.proofs.Common.{◌≡◌, ◌++◌, drop, flat_map}
use Rattle.meter_table.specs.ReportLines.{jump_line}
use Rattle.meter_table.proofs.report_lines.put_jumps.Given as goal

-- what is to follow is the lines of those that are left
abbrev pub invariant-loop-x : goal.invariant-loop-x
invariant-loop-x l =
    l.text.items ++ flat_map (jump_line l.config) (drop l.x-index l.replaced)
    ≡ l.fn.text.items ++ flat_map (jump_line l.config) l.replaced
