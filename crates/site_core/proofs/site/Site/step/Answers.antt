use Rattle.std.proofs.Common.{subst, sym}
use Rattle.written_site.specs.Sound.{Sound}
use Rattle.written_site.proofs.Sound.{stays_sound}
use Rattle.site_core.specs.SiteParts.{site_of}
use Rattle.site_core.proofs.site.Site.step.Goals as goal

pub invariant_of-self : goal.invariant_of-self
invariant_of-self c =
    subst Sound (sym c.step.ensures.steps.leads)
    (stays_sound.keeps (site_of c.self.inside.parts) c.args.actor c.args.event
    c.reading.ensures.range c.self.invariant)

pub returns : goal.returns
returns c = rw (← c.self.view_is) (record {
  step = record { replies = c.step.ensures.steps.replies; leads = c.step.ensures.steps.leads };
  room = c.step.ensures.room;
})
