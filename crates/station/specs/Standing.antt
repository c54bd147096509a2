-- What a dispenser that comes back has to know: the changes that its point's state stands for.
use Rattle.std.specs.Prelude.{ℕ, List, [], ◌∷◌, Option, Some, None, if◌then◌else◌}
use Rattle.site_base.specs.declared.event.Event.{Event}
use Rattle.site_base.specs.declared.event.Event.TheVariants as events
use Rattle.site_base.specs.declared.limits.TheConstants.{POINTS}
use Rattle.site_base.specs.declared.state.PointState.{PointState}
use Rattle.site_base.specs.declared.state.PointState.TheVariants as states
use Rattle.site_base.specs.declared.state.Preset.{Preset}
use Rattle.site_base.specs.declared.view.PointView.{PointView}
use Rattle.site_base.specs.Ranges.{is_between}
use Rattle.written_site.specs.SiteState.{SiteState, view_point}

-- how a point was released: prepaid, or within its preset if it has one
abbrev pub sale_release : ℕ → Preset → Option ℕ → Event
sale_release p preset (Some cents) = events.Prepay p cents
sale_release p preset None = events.Release p preset

-- .. or for a test
abbrev pub release_of : ℕ → PointView → Event
release_of p v = if v.test then events.TestRelease p else sale_release p v.preset v.prepaid

-- how its fuelling was stopped: for good where the point is ending, else until it is resumed
abbrev pub stop_of : ℕ → PointView → Event
stop_of p v = if v.ending then events.Terminate p else events.Suspend p

-- what stands at a point in this state: it is open, it is released, its fuelling is stopped
abbrev pub standing_in : PointState → ℕ → PointView → List Event
standing_in states.Inoperative p v = []
standing_in states.Closed p v = []
standing_in states.Idle p v = events.Open p ∷ []
standing_in states.Calling p v = events.Open p ∷ []
standing_in states.Authorised p v = events.Open p ∷ release_of p v ∷ []
standing_in states.Started p v = events.Open p ∷ release_of p v ∷ []
standing_in states.SuspendedStarted p v = events.Open p ∷ release_of p v ∷ stop_of p v ∷ []
standing_in states.Fuelling p v = events.Open p ∷ release_of p v ∷ []
standing_in states.SuspendedFuelling p v = events.Open p ∷ release_of p v ∷ stop_of p v ∷ []

-- the changes that stand at point p, by what a read of it shows
abbrev pub standing_events : ℕ → PointView → List Event
standing_events p v = standing_in v.state p v

-- none where the site has no such point
abbrev pub standing_by : ℕ → Option PointView → List Event
standing_by p None = []
standing_by p (Some v) = standing_events p v

-- the changes that stand at point p of a site
abbrev pub standing_at : SiteState → ℕ → List Event
standing_at s p = if is_between 1 POINTS p then standing_by p (view_point s p) else []
