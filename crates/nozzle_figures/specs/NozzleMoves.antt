-- What rows do at one nozzle: nozzle n of point p.
use Rattle.std.specs.Prelude.{ℕ, ◌+◌, ◌-◌, ◌==◌, ◌&&◌, Bool, false, List, [], ◌∷◌, Option, Some}
use Rattle.std.specs.Prelude.{None}
use Rattle.std.specs.Prelude.{if◌then◌else◌, is_none}
use Rattle.site_base.specs.declared.event.Event.{Event}
use Rattle.site_base.specs.declared.event.Event.TheVariants.{ReplaceMeter}
use Rattle.site_base.specs.declared.row.Row.{Row}
use Rattle.fuelling_point.specs.declared.event.PointEvent.{PointEvent}
use Rattle.meters.specs.Nozzles.{reading_of}
use Rattle.written_site.specs.MeterLaws.{is_its}
use Rattle.written_site.specs.SiteChecks.{first_refusal, own_event}
use Rattle.written_site.specs.SiteState.{SiteState, facts_of}
use Rattle.written_site.specs.SiteStep.{site_after}
use Rattle.written_site.specs.SoundSteps.{drawn_at, growth_at, sold_at}
use Rattle.written_site.specs.Volumes.{nozzle_out, running_at}

-- the nozzle is out at its point
abbrev pub is_out : ℕ → ℕ → SiteState → Bool
is_out p n s = nozzle_out (facts_of s p) == n

-- what an event is to a point is of this one, where this nozzle is out
abbrev pub is_of_nozzle : ℕ → ℕ → SiteState → Option (ℕ × PointEvent) → Bool
is_of_nozzle p n s None = false
is_of_nozzle p n s (Some x) = x.0 == p && is_out p n s

-- an event moves this much by the nozzle
abbrev pub by_nozzle : ℕ → ℕ → SiteState → Event → ℕ → ℕ
by_nozzle p n s event volume = if is_of_nozzle p n s (own_event s event) then volume else 0

-- the millilitres that flow by the nozzle in an event; that are sold in it, and drawn
abbrev pub flowing : ℕ → ℕ → SiteState → Event → ℕ
flowing p n s event = by_nozzle p n s event (growth_at s event)

abbrev pub selling : ℕ → ℕ → SiteState → Event → ℕ
selling p n s event = by_nozzle p n s event (sold_at s event)

abbrev pub drawing : ℕ → ℕ → SiteState → Event → ℕ
drawing p n s event = by_nozzle p n s event (drawn_at s event)

-- how far a meter that takes the place of the nozzle's begins above the old one's last reading
abbrev pub rising : ℕ → ℕ → SiteState → Event → ℕ
rising p n s (ReplaceMeter q m reading) =
    if is_its p n q m then reading - reading_of p n s.nozzles else 0
rising p n s event = 0

-- .. or below it
abbrev pub falling : ℕ → ℕ → SiteState → Event → ℕ
falling p n s (ReplaceMeter q m reading) =
    if is_its p n q m then reading_of p n s.nozzles - reading else 0
falling p n s event = 0

-- the millilitres of the fuelling under way by the nozzle
abbrev pub running_by_nozzle : ℕ → ℕ → SiteState → ℕ
running_by_nozzle p n s =
    if is_out p n s then running_at s.nozzles p (facts_of s p) else 0

-- ---- over rows

-- a figure of a row, if it was accepted at this site
abbrev pub of_accepted : (SiteState → Event → ℕ) → SiteState → Row → ℕ
of_accepted figure s r =
    if is_none (first_refusal s r.actor r.event) then figure s r.event else 0

-- the sum of a figure over rows, from this site on
abbrev pub sum_over : (SiteState → Event → ℕ) → SiteState → List Row → ℕ
sum_over figure s [] = 0
sum_over figure s (r ∷ rows) =
    of_accepted figure s r + sum_over figure (site_after s r.actor r.event) rows
