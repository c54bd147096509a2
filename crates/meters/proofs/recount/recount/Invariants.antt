use Rattle.std.proofs.Common.{◌≡◌, ◌+◌, drop}
use Rattle.meters.specs.MeteredVolumes.{product_total}
use Rattle.meters.proofs.recount.recount.Given as goal

-- what is counted, with what the nozzles behind have, is what all have
abbrev pub invariant-loop-meter : goal.invariant-loop-meter
invariant-loop-meter l = l.sum + product_total l.q (drop l.meter-index l.meters)
    ≡ product_total l.q l.meters
