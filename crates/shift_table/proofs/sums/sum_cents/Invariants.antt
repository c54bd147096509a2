use Rattle.std.proofs.Common.{◌≡◌, ◌≤◌, ◌-◌, ◌*◌, ◌^◌, take}
use Rattle.shift_table.specs.ShiftSums.{all_cents}
use Rattle.shift_table.proofs.sums.sum_cents.Given as goal

abbrev pub invariant-loop-by_till : goal.invariant-loop-by_till
invariant-loop-by_till l = record {
  summed : l.cents ≡ all_cents (take l.by_till-index l.tills);
  few : l.cents ≤ l.by_till-index * (2 ^ 64 - 1);
}
