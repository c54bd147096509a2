-- The points of a site are points: what each keeps is what its own events make of a new one, and
-- what it does of an event is what its row tells.
use Rattle.std.specs.Prelude.{◌≡◌, ℕ, Bool, true, false, ◌==◌, if◌then◌else◌, List, [], ◌∷◌, ◌++◌}
use Rattle.std.specs.Prelude.{Option, Some, None, Ok, is_ok}
use Rattle.site_base.specs.declared.event.Event.{Event}
use Rattle.site_base.specs.declared.event.Event.TheVariants.{Terminate, Offline, Lift, Flow, HangUp}
use Rattle.site_base.specs.declared.row.Row.{Row}
use Rattle.site_base.specs.Configured.{Configured}
use Rattle.fuelling_point.specs.declared.event.PointEvent.{PointEvent}
use Rattle.fuelling_point.specs.History.{point_after, reply_to}
use Rattle.fuelling_point.specs.KeptPoints.{growth_of}
use Rattle.fuelling_point.specs.Step.{step_of}
use Rattle.written_site.specs.Histories.{Moment, moments_of}
use Rattle.written_site.specs.SiteChecks.{own_event}
use Rattle.written_site.specs.SiteState.{SiteState, facts_of}
use Rattle.written_site.specs.SiteStep.{step_told}

-- what an event is to point p
abbrev pub event_for : ℕ → Option (ℕ × PointEvent) → Option PointEvent
event_for p None = None
event_for p (Some e) = if e.0 == p then Some e.1 else None

-- what a moment is to point p: what its event is, where it is accepted
abbrev pub own_of : ℕ → Moment → Option PointEvent
own_of p m = if is_ok m.row.reply then event_for p (own_event m.before m.row.event) else None

-- one more event, if there is one
abbrev pub add_event : Option PointEvent → List PointEvent → List PointEvent
add_event None events = events
add_event (Some event) events = event ∷ events

-- the point's own events, one after another
abbrev pub own_events : ℕ → List Moment → List PointEvent
own_events p [] = []
own_events p (m ∷ ms) = add_event (own_of p m) (own_events p ms)

-- what the point does of such an event is told in its reply; any other that a point accepts is
-- answered Done
abbrev pub tells_step : Event → Bool
tells_step (Terminate p) = true
tells_step (Offline p) = true
tells_step (Lift p n reading) = true
tells_step (Flow p n reading) = true
tells_step (HangUp p n reading) = true
tells_step event = false

-- What a point keeps is what its own events make of a new point, one after another, at the end and
-- before each of them; it accepts each of them, and what it does of one is what the row tells of
-- it, a sale with its number. So whatever holds of every point that began as
-- a new one, for any list of its events, holds of each point of the site.
pub record ArePointsTheirOwn (c : Configured) (rows : List Row) (s : SiteState) : Type 0 where
  pub facts : (p : ℕ) → facts_of s p ≡ point_after (own_events p (moments_of c rows))
  pub before : (p : ℕ) (before since : List Moment) (m : Moment) (event : PointEvent)
      → moments_of c rows ≡ before ++ m ∷ since → own_of p m ≡ Some event
      → facts_of m.before p ≡ point_after (own_events p before)
  pub takes : (p : ℕ) (before since : List Moment) (m : Moment) (event : PointEvent)
      → moments_of c rows ≡ before ++ m ∷ since → own_of p m ≡ Some event
      → is_ok (reply_to event (point_after (own_events p before))) ≡ true
  pub answers : (p : ℕ) (before since : List Moment) (m : Moment) (event : PointEvent)
      → moments_of c rows ≡ before ++ m ∷ since → own_of p m ≡ Some event
      → tells_step m.row.event ≡ true
      → m.row.reply
      ≡ Ok (step_told m.before p (growth_of event)
      (step_of event (point_after (own_events p before))))
