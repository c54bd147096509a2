-- While the reader looks for the mark, what is left stays the same.
use Rattle.std.proofs.Common.{◌-◌}
use Rattle.std.specs.Io.KnownBytes.{Keeps}
use Rattle.unmarked_input.specs.Unmarked.{looked_at, unmarked_left}
use Rattle.unmarked_input.proofs.unmarked.UnmarkedRead.read.Given as goal

abbrev pub invariant-loop-self : goal.invariant-loop-self
invariant-loop-self g l =
    Keeps (unmarked_left g.R.Read.remaining l.initial.self)
    (unmarked_left g.R.Read.remaining l.self)

abbrev pub decreases-loop-self : goal.decreases-loop-self
decreases-loop-self g l = 3 - looked_at l.self
