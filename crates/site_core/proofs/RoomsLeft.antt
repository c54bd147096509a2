-- A step of a point that is no sale is told by an answer that leaves the room.
use Rattle.std.proofs.Common.{◌≡◌, ℕ, Option, refl, ap}
use Rattle.site_base.specs.declared.answer.Answer.{Answer}
use Rattle.fuelling_point.specs.declared.step.PointStep.{PointStep}
use Rattle.fuelling_point.specs.declared.step.PointStep.TheVariants.{Sold}
use Rattle.written_site.specs.SiteState.{SiteState}
use Rattle.written_site.specs.SiteStep.{step_told}
use Rattle.site_core.specs.Views.{Room, room_sold}

pub room_stays : (s : SiteState) (p growth : ℕ) (step : PointStep) (answer : Answer) (room : Room)
    → ((n volume price : ℕ) (prepaid : Option ℕ) → step ≡ Sold n volume price prepaid → ⊥)
    → step_told s p growth step ≡ answer → room ≡ room_sold p answer room
room_stays s p growth (Sold n volume price prepaid) answer room unsold is =
    absurd (unsold n volume price prepaid refl)
room_stays s p growth step answer room unsold is = ap (λ (a : Answer). room_sold p a room) is
