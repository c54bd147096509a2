use Rattle.std.proofs.Common.{◌≡◌, drop, map, max}
use Rattle.day_report.specs.Columns.{longest}
use Rattle.day_report.proofs.columns.Line.longest_figure.Given as goal

abbrev pub invariant-loop-figure : goal.invariant-loop-figure
invariant-loop-figure l =
    max l.most (longest (map (λ f. f.items) (drop l.figure-index l.figure-items)))
    ≡ longest l.self.figures
