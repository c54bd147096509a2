use Rattle.std.proofs.Common.{◌≡◌, ◌++◌, drop, map}
use Rattle.day_report.specs.People.{columns, litres, volume_in}
use Rattle.day_report.proofs.people.product_line.Given as goal

abbrev pub invariant-loop-column : goal.invariant-loop-column
invariant-loop-column l = record {
  items : l.column-items ≡ columns;
  so_far : map (λ f. f.items) l.figures.items
      ++ map (λ column. litres (volume_in column l.view)) (drop l.column-index columns)
      ≡ map (λ column. litres (volume_in column l.view)) columns;
}
