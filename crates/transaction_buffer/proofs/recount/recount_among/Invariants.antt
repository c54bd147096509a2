use Rattle.std.proofs.Common.{◌≡◌, ◌+◌, drop}
use Rattle.transaction_buffer.specs.Figures.{figure_in}
use Rattle.transaction_buffer.specs.Sums.{sum_among}
use Rattle.transaction_buffer.proofs.recount.recount_among.Given as goal

-- what is counted, with the figure of the sales behind, is the figure of all
abbrev pub invariant-loop-sale : goal.invariant-loop-sale
invariant-loop-sale l = l.sum + sum_among (figure_in l.figure) (drop l.sale-index l.sales)
    ≡ sum_among (figure_in l.figure) l.sales
