use Rattle.std.proofs.Common.{◌≡◌, ◌≤◌, ◌-◌, ◌*◌, ◌^◌, take}
use Rattle.shift_table.specs.ShiftSums.{all_clears}
use Rattle.shift_table.proofs.sums.count_clears.Given as goal

abbrev pub invariant-loop-by_till : goal.invariant-loop-by_till
invariant-loop-by_till l = record {
  summed : l.clears ≡ all_clears (take l.by_till-index l.tills);
  few : l.clears ≤ l.by_till-index * (2 ^ 64 - 1);
}
