use Rattle.std.proofs.Common.{◌≡◌, true, nat_le, take}
use Rattle.std.specs.List.{list_all}
use Rattle.site_base.specs.declared.amounts.TheConstants.{GREATEST_READING}
use Rattle.site_core.proofs.ranges.point_ranges.Given as goal

abbrev pub invariant-loop-point : goal.invariant-loop-point
invariant-loop-point l =
    list_all (λ p. list_all (λ n. nat_le n.reading GREATEST_READING) p.nozzles)
    (take l.point-index l.points) ≡ true
