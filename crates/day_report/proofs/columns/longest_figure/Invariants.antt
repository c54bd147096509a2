use Rattle.std.proofs.Common.{◌≡◌, max, drop}
use Rattle.day_report.specs.Columns.{longest_figure}
use Rattle.day_report.proofs.columns.longest_figure.Given as goal

abbrev pub invariant-loop-line : goal.invariant-loop-line
invariant-loop-line l =
    max l.most (longest_figure (drop l.line-index l.lines)) ≡ longest_figure l.lines
