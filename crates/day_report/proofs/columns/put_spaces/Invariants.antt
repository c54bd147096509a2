use Rattle.std.proofs.Common.{◌≡◌, ◌++◌}
use Rattle.day_report.specs.Columns.{spaces}
use Rattle.day_report.proofs.columns.put_spaces.Given as goal

abbrev pub invariant-loop : goal.invariant-loop
invariant-loop l = l.text.items ≡ l.fn.text.items ++ spaces l.counter
