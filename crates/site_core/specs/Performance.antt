-- What a point that was found does of an event, and when it may.
use Rattle.std.specs.Prelude.{◌≡◌, None}
use Rattle.site_base.specs.Table.{with_row}
use Rattle.fuelling_point.specs.declared.event.PointEvent.{PointEvent}
use Rattle.fuelling_point.specs.declared.step.PointStep.{PointStep}
use Rattle.fuelling_point.specs.KeptPoints.{FitsGrowth}
use Rattle.fuelling_point.specs.PointChecks.{refusal_of}
use Rattle.fuelling_point.specs.Step.{step_of, after}
use Rattle.written_site.specs.SiteState.{SiteState, facts_of}
use Rattle.site_core.specs.declared.points.FoundPoint.{FoundPoint}
use Rattle.site_core.specs.FoundPoints.{IsFound}

-- the point is where it was found, it takes the event, and what flows in it fits
pub record MayPerform (s : SiteState) (point : FoundPoint) (event : PointEvent) : Type 0 where
  pub found : IsFound point s.points
  pub takes : refusal_of event (facts_of s point.number) ≡ None
  pub fits : FitsGrowth event (facts_of s point.number)

-- what the point does of the event
abbrev pub step_at : SiteState → FoundPoint → PointEvent → PointStep
step_at s point event = step_of event (facts_of s point.number)

-- the site once the point has done it
abbrev pub done_at : SiteState → FoundPoint → PointEvent → SiteState
done_at s point event = record s {
  points = with_row point.number (after event (facts_of s point.number)) s.points;
}
