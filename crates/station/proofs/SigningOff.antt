-- A till that is signed on may sign off.
use Rattle.std.proofs.Common.{◌≡◌, ℕ, true, None, refl}
use Rattle.site_base.specs.declared.actor.Actor.TheVariants.{Till}
use Rattle.site_base.specs.declared.event.Event.TheVariants.{SignOff}
use Rattle.written_site.specs.SiteChecks.{first_refusal}
use Rattle.written_site.specs.SiteState.{SiteState, is_signed_on}

pub may_sign_off : (s : SiteState) (t : ℕ) → is_signed_on s t ≡ true
    → first_refusal s (Till t) SignOff ≡ None
may_sign_off s t on = rw on refl
