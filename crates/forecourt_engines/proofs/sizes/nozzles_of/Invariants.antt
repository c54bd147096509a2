use Rattle.std.proofs.Common.{◌≡◌, ◌+◌, drop}
use Rattle.forecourt_engines.specs.SiteSizes.{nozzle_count}
use Rattle.forecourt_engines.proofs.sizes.nozzles_of.Given as goal

abbrev pub invariant-loop-point : goal.invariant-loop-point
invariant-loop-point l = l.nozzles + nozzle_count (drop l.point-index l.points)
    ≡ nozzle_count l.points
