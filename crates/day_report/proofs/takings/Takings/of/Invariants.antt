use Rattle.std.proofs.Common.{◌≡◌, ◌≤◌, ◌-◌, ◌*◌, ◌^◌, take}
use Rattle.day_report.specs.Takings.{all_cents, all_clears}
use Rattle.day_report.proofs.takings.Takings.of.Given as goal

abbrev pub invariant-loop-by_till : goal.invariant-loop-by_till
invariant-loop-by_till l = record {
  clears : l.clears ≡ all_clears (take l.by_till-index l.tills);
  cents : l.cents ≡ all_cents (take l.by_till-index l.tills);
  clears_fit : l.clears ≤ l.by_till-index * (2 ^ 64 - 1);
  cents_fit : l.cents ≤ l.by_till-index * (2 ^ 64 - 1);
}
