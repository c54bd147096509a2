use Rattle.std.proofs.Common.{◌≡◌, ◌≤◌, ◌*◌, ◌++◌, drop, length}
use Rattle.site_base.specs.declared.limits.TheConstants.{NOZZLES}
use Rattle.meters.specs.Nozzles.{nozzles_of_points, EachMetered}
use Rattle.meters.proofs.meters.Meters.try_new.Given as goal

abbrev pub invariant-loop-entry : goal.invariant-loop-entry
invariant-loop-entry l = record {
  added : l.meters.items ++ nozzles_of_points (drop l.entry-index l.entry-items)
      ≡ nozzles_of_points l.entry-items;
  few : length l.meters.items ≤ l.entry-index * NOZZLES;
  bounds : EachMetered l.meters.items;
}
