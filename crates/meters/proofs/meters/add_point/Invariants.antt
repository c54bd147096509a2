use Rattle.std.proofs.Common.{◌≡◌, ◌≤◌, ◌+◌, ◌++◌, drop, length}
use Rattle.meters.specs.Nozzles.{number_nozzles, EachMetered}
use Rattle.meters.proofs.meters.add_point.Given as goal

abbrev pub invariant-loop-place : goal.invariant-loop-place
invariant-loop-place l = record {
  added : l.meters.items
      ++ number_nozzles l.entry.number (l.place + 1) (drop l.place l.entry.nozzles)
      ≡ l.fn.meters.items ++ number_nozzles l.entry.number 1 l.entry.nozzles;
  few : length l.meters.items ≤ length l.fn.meters.items + l.place;
  bounds : EachMetered l.meters.items;
}
