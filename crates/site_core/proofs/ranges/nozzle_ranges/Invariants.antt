use Rattle.std.proofs.Common.{◌≡◌, true, nat_le, take}
use Rattle.std.specs.List.{list_all}
use Rattle.site_base.specs.declared.amounts.TheConstants.{GREATEST_READING}
use Rattle.site_core.proofs.ranges.nozzle_ranges.Given as goal

abbrev pub invariant-loop-nozzle : goal.invariant-loop-nozzle
invariant-loop-nozzle l = list_all (λ n. nat_le n.reading GREATEST_READING)
    (take l.nozzle-index l.nozzles) ≡ true
