use Rattle.std.proofs.Common.{◌≡◌, ◌++◌, drop, map}
use Rattle.day_report.specs.People.{column_word, columns}
use Rattle.day_report.proofs.people.title_line.Given as goal

abbrev pub invariant-loop-column : goal.invariant-loop-column
invariant-loop-column l = record {
  items : l.column-items ≡ columns;
  so_far : map (λ f. f.items) l.figures.items
      ++ map column_word (drop l.column-index columns)
      ≡ map column_word columns;
}
