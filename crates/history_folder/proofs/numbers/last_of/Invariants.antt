use Rattle.history_folder.proofs.Counting.{IsCountedTo}
use Rattle.history_folder.proofs.numbers.last_of.Given as goal

abbrev pub invariant-loop-number : goal.invariant-loop-number
invariant-loop-number l = IsCountedTo l.number-index l.last l.number-items
