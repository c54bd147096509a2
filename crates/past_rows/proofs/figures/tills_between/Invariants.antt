use Rattle.std.proofs.Common.{◌≡◌, ◌++◌, drop, length, min}
use Rattle.past_rows.specs.FiguresBetween.{tills_between}
use Rattle.past_rows.proofs.figures.tills_between.Given as goal

-- what is to follow is made of the pairs that are left
abbrev pub invariant-loop-at : goal.invariant-loop-at
invariant-loop-at l = record {
  so_far : l.tills.items ++ tills_between (drop l.at l.before) (drop l.at l.after)
      ≡ tills_between l.before l.after;
  end : l.at-end ≡ min (length l.before) (length l.after);
}
