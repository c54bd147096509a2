use Rattle.std.proofs.Common.{◌≡◌, string_bytes}
use Rattle.shift_table.specs.ShiftTable.{lines_from}
use Rattle.shift_table.proofs.table.lines_from.Given as goal

abbrev pub invariant-loop-behind : goal.invariant-loop-behind
invariant-loop-behind l =
    string_bytes l.text ≡ lines_from l.form l.book l.read l.first l.behind
