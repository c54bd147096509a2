use Rattle.std.proofs.Common.{◌≡◌, ◌+◌, ◌*◌, ◌-◌, ◌^◌, ◌≤◌, drop}
use Rattle.day_report.specs.People.{sum_in}
use Rattle.day_report.proofs.column.Column.sum.Given as goal

abbrev pub invariant-loop-view : goal.invariant-loop-view
invariant-loop-view l = record {
  summed : l.sum + sum_in l.self (drop l.view-index l.views) ≡ sum_in l.self l.views;
  few : l.sum ≤ l.view-index * (2 ^ 64 - 1);
}
