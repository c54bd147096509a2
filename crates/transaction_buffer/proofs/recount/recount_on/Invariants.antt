use Rattle.std.proofs.Common.{◌≡◌, ◌+◌, drop}
use Rattle.transaction_buffer.specs.Figures.{figure_in}
use Rattle.transaction_buffer.specs.Shelves.{sum_on}
use Rattle.transaction_buffer.proofs.recount.recount_on.Given as goal

-- what is counted, with the figure of the shelves behind, is the figure of all
abbrev pub invariant-loop-shelf : goal.invariant-loop-shelf
invariant-loop-shelf l = l.sum + sum_on (figure_in l.figure) (drop l.shelf-index l.shelves)
    ≡ sum_on (figure_in l.figure) l.shelves
