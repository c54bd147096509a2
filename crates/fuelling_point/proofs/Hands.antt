-- A point that a till takes or gives back is left as it is.
use Rattle.std.proofs.Common.{◌≡◌, arith}
use Rattle.std.proofs.lemmas.Grind.{common_steps}
use Rattle.fuelling_point.specs.declared.event.PointEvent.TheVariants.{Assign, Unassign}
use Rattle.fuelling_point.specs.KeptPoints.{Facts}
use Rattle.fuelling_point.specs.Step.{after}

pub after_assign : (f : Facts) → after Assign f ≡ f
after_assign f = grind (arith, common_steps)

pub after_unassign : (f : Facts) → after Unassign f ≡ f
after_unassign f = grind (arith, common_steps)
