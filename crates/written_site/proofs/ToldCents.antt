-- What a point does of an event tells no cents cleared.
use Rattle.std.proofs.Common.{◌≡◌, ℕ, Ok, refl}
use Rattle.site_base.specs.Events.{cents_in_reply}
use Rattle.fuelling_point.specs.declared.step.PointStep.{PointStep}
use Rattle.fuelling_point.specs.declared.step.PointStep.TheVariants.{Moved}
use Rattle.written_site.specs.SiteState.{SiteState}
use Rattle.written_site.specs.SiteStep.{step_told}

pub told_step : (s : SiteState) (p growth : ℕ) (step : PointStep)
    → cents_in_reply (Ok (step_told s p growth step)) ≡ 0
told_step s p growth Moved = refl
told_step s p growth step = refl
