use Rattle.std.proofs.Common.{◌≡◌, true, refl, subst, sym, ap, ◌∙◌}
use Rattle.site_base.specs.declared.actor.Actor.TheVariants.{Till}
use Rattle.site_base.specs.declared.event.Event.TheVariants.{SignOff}
use Rattle.written_site.specs.SiteState.{is_signed_on}
use Rattle.written_site.specs.SiteStep.{accepted_site, site_after}
use Rattle.written_site.specs.Sound.{Sound}
use Rattle.written_site.proofs.Sound.{stays_sound}
use Rattle.site_core.specs.SiteParts.{site_of}
use Rattle.site_core.proofs.site.Site.sign_off.Goals as goal

pub invariant_of-self : goal.invariant_of-self
invariant_of-self c =
    let s = site_of c.self.inside.parts in
    let signed : is_signed_on s c.args.t ≡ true =
    ap (λ x. is_signed_on x.site c.args.t) c.self.view_is ∙ c.requires in
    let done : site_after s (Till c.args.t) SignOff ≡ accepted_site s (Till c.args.t) SignOff =
    rw signed refl in
    subst Sound (sym (c.leave.ensures.site ∙ sym done))
    (stays_sound.keeps s (Till c.args.t) SignOff tt c.self.invariant)
