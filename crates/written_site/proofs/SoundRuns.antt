-- Every list of events leads from a sound site to a sound site.
use Rattle.std.proofs.Common.{List, [], ◌∷◌}
use Rattle.site_base.specs.declared.actor.Actor.{Actor}
use Rattle.site_base.specs.declared.event.Event.{Event}
use Rattle.written_site.specs.SiteState.{SiteState, opening}
use Rattle.written_site.specs.SiteStep.{site_after}
use Rattle.written_site.specs.SiteRun.{site_at_end}
use Rattle.written_site.specs.Sound.{Sound}
use Rattle.written_site.specs.SoundRuns.{AreInRange, RunsStaySound}
use Rattle.written_site.proofs.Sound.{sound_after}
use Rattle.written_site.proofs.SoundOpening.{opening_sound}

-- the site after a list of events that carry readings in range
pub sound_at_end : (s : SiteState) (events : List (Actor × Event)) → AreInRange events → Sound s
    → Sound (site_at_end s events)
sound_at_end s [] range sound = sound
sound_at_end s (e ∷ es) range sound =
    sound_at_end (site_after s e.0 e.1) es range.1 (sound_after s e.0 e.1 range.0 sound)

pub runs_stay_sound : RunsStaySound
runs_stay_sound c events fit range =
    sound_at_end (opening c) events range (opening_sound c fit)
