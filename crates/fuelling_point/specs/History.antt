-- The history of a fuelling point: the events that a new point has had, one after another.
use Rattle.std.specs.Prelude.{List, [], ◌∷◌, Result}
use Rattle.site_base.specs.declared.refusal.Refusal.{Refusal}
use Rattle.site_base.specs.Checks.{reply_or, value_or}
use Rattle.site_base.specs.declared.state.PointState.TheVariants.{Closed}
use Rattle.fuelling_point.specs.declared.event.PointEvent.{PointEvent}
use Rattle.fuelling_point.specs.declared.step.PointStep.{PointStep}
use Rattle.fuelling_point.specs.KeptPoints.{Facts, empty_point}
use Rattle.fuelling_point.specs.PointChecks.{refusal_of}
use Rattle.fuelling_point.specs.Step.{step_of, after}

-- what the point answers to an event
abbrev pub reply_to : PointEvent → Facts → Result PointStep Refusal
reply_to event f = reply_or (refusal_of event f) (step_of event f)

-- the point after an event: a refusal leaves it
abbrev pub facts_after : PointEvent → Facts → Facts
facts_after event f = value_or (refusal_of event f) (after event f) f

-- one event of a history, and what the point kept before it
pub record Moment : Type 0 where
  pub before : Facts
  pub event : PointEvent

-- the events one after another, at a point that keeps this before the first
abbrev pub history : Facts → List PointEvent → List Moment
history f [] = []
history f (event ∷ events) =
    record { before = f; event = event } ∷ history (facts_after event f) events

abbrev pub facts_at_end : Facts → List PointEvent → Facts
facts_at_end f [] = f
facts_at_end f (event ∷ events) = facts_at_end (facts_after event f) events

-- the moments of a new point that has had these events
abbrev pub moments_of : List PointEvent → List Moment
moments_of events = history (empty_point Closed) events

-- what a new point keeps after these events
abbrev pub point_after : List PointEvent → Facts
point_after events = facts_at_end (empty_point Closed) events
