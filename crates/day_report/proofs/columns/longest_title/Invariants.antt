use Rattle.std.proofs.Common.{◌≡◌, max, drop}
use Rattle.day_report.specs.Columns.{longest_title}
use Rattle.day_report.proofs.columns.longest_title.Given as goal

abbrev pub invariant-loop-line : goal.invariant-loop-line
invariant-loop-line l =
    max l.most (longest_title (drop l.line-index l.lines)) ≡ longest_title l.lines
