-- What a site always keeps, over lists of events from its opening on.
use Rattle.std.specs.Prelude.{List}
use Rattle.std.specs.List.{AllByRecursion}
use Rattle.site_base.specs.declared.actor.Actor.{Actor}
use Rattle.site_base.specs.declared.event.Event.{Event}
use Rattle.site_base.specs.Configured.{Configured}
use Rattle.written_site.specs.SiteState.{opening}
use Rattle.written_site.specs.SiteRun.{site_at_end}
use Rattle.written_site.specs.Sound.{InRange, IsFit, Sound}

-- each reading that these events carry is one that a meter can show
abbrev pub AreInRange : List (Actor × Event) → Type 0
AreInRange events = AllByRecursion (λ e. InRange e.1) events

-- from the opening site of each fit configuration every list of such events leads to a sound site
abbrev pub RunsStaySound : Type 0
RunsStaySound = (c : Configured) (events : List (Actor × Event)) → IsFit c → AreInRange events
    → Sound (site_at_end (opening c) events)
