use Rattle.std.proofs.Common.{◌≡◌, ◌∷◌, ◌++◌, drop, length, min}
use Rattle.day_report.specs.People.{product_lines, title_line}
use Rattle.day_report.proofs.people.table_lines.Given as goal

abbrev pub invariant-loop-at : goal.invariant-loop-at
invariant-loop-at l = record {
  so_far : l.lines.items ++ product_lines (drop l.at l.products) (drop l.at l.views)
      ≡ title_line ∷ product_lines l.products l.views;
  end : l.at-end ≡ min (length l.products) (length l.views);
}
