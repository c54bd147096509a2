-- How much has flowed decides nothing of whether a report is accepted.
use Rattle.std.proofs.Common.{◌≡◌, ℕ, arith}
use Rattle.std.proofs.lemmas.Grind.{common_steps}
use Rattle.fuelling_point.specs.declared.event.PointEvent.TheVariants.{Flow, HangUp}
use Rattle.fuelling_point.specs.KeptPoints.{Facts}
use Rattle.fuelling_point.specs.PointChecks.{refusal_of}

pub flow_judged : (nozzle growth other : ℕ) (f : Facts)
    → refusal_of (Flow nozzle growth) f ≡ refusal_of (Flow nozzle other) f
flow_judged nozzle growth other f = grind (arith, common_steps)

pub hang_up_judged : (nozzle growth other : ℕ) (f : Facts)
    → refusal_of (HangUp nozzle growth) f ≡ refusal_of (HangUp nozzle other) f
hang_up_judged nozzle growth other f = grind (arith, common_steps)
