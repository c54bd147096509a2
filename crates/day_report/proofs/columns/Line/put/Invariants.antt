use Rattle.std.proofs.Common.{◌≡◌, ◌++◌, drop, flat_map, map}
use Rattle.day_report.specs.Columns.{at_left, at_right}
use Rattle.day_report.proofs.columns.Line.put.Given as goal

abbrev pub invariant-loop-figure : goal.invariant-loop-figure
invariant-loop-figure l =
    l.text.items
    ++ flat_map (at_right l.width) (map (λ f. f.items) (drop l.figure-index l.figure-items))
    ≡ l.fn.text.items
    ++ (at_left l.first l.self.title ++ flat_map (at_right l.width) l.self.figures)
