-- The laws of a fuelling point: what holds whatever events a new point has had, refused ones among
-- them.
use Rattle.std.specs.Prelude.{◌≡◌, ◌↔◌, ℕ, ◌+◌, ◌≤◌, Bool, true, false, ◌&&◌, ◌||◌, List, ◌∷◌, ◌++◌}
use Rattle.std.specs.Prelude.{sum_by, Option, Some, None, is_some, is_ok, Result, Ok, Err}
use Rattle.std.specs.List.{list_any}
use Rattle.site_base.specs.declared.refusal.Refusal.{Refusal}
use Rattle.site_base.specs.declared.state.PointState.{PointState}
use Rattle.site_base.specs.declared.state.PointState.TheVariants as states
use Rattle.site_base.specs.declared.state.Preset.TheVariants.{Unset}
use Rattle.fuelling_point.specs.declared.event.PointEvent.{PointEvent}
use Rattle.fuelling_point.specs.declared.event.PointEvent.TheVariants.{Offline, Lift, Release}
use Rattle.fuelling_point.specs.declared.event.PointEvent.TheVariants.{TestRelease, HangUp}
use Rattle.fuelling_point.specs.declared.step.PointStep.{PointStep}
use Rattle.fuelling_point.specs.declared.step.PointStep.TheVariants.{Flowed, Sold, Drawn, Stopped}
use Rattle.fuelling_point.specs.declared.step.PointStep.TheVariants.{Ending}
use Rattle.fuelling_point.specs.KeptPoints.{Facts, empty_point, is_under_way, volume_of, growth_of}
use Rattle.fuelling_point.specs.Whole.{IsWhole, is_suspended}
use Rattle.fuelling_point.specs.PointChecks.{refusal_of}
use Rattle.fuelling_point.specs.Step.{step_of, after}
use Rattle.fuelling_point.specs.History.{Moment, reply_to, facts_after, moments_of, point_after}

-- what ends a fuelling: a hang up or an offline
abbrev pub is_end : PointEvent → Bool
is_end Offline = true
is_end (HangUp nozzle growth) = true
is_end event = false

abbrev pub is_test_release : PointEvent → Bool
is_test_release (TestRelease last price) = true
is_test_release event = false

-- the release is taken back
abbrev pub is_stopped : Result PointStep Refusal → Bool
is_stopped (Ok Stopped) = true
is_stopped reply = false

-- what a sale or a draw tells: its nozzle and its volume
abbrev pub delivered_in : PointStep → Option (ℕ × ℕ)
delivered_in (Sold nozzle volume price prepaid) = Some (nozzle, volume)
delivered_in (Drawn nozzle volume) = Some (nozzle, volume)
delivered_in step = None

-- the same of a reply
abbrev pub delivered_by : Result PointStep Refusal → Option (ℕ × ℕ)
delivered_by (Ok step) = delivered_in step
delivered_by (Err refusal) = None

-- the millilitres that a sale tells; of another step, none
abbrev pub sold_in : PointStep → ℕ
sold_in (Sold nozzle volume price prepaid) = volume
sold_in step = 0

-- the millilitres that a draw tells; of another step, none
abbrev pub drawn_in : PointStep → ℕ
drawn_in (Drawn nozzle volume) = volume
drawn_in step = 0

-- the price and the reading handed in where the event starts a fuelling
abbrev pub handed_in : PointEvent → PointState → Option (ℕ × ℕ)
handed_in (Lift nozzle last price) states.Authorised = Some (price, last)
handed_in (Release preset prepaid last price) states.Calling = Some (price, last)
handed_in (TestRelease last price) states.Calling = Some (price, last)
handed_in event state = None

-- the nozzle that the event takes out
abbrev pub lifted_by : PointEvent → PointState → Option ℕ
lifted_by (Lift nozzle last price) states.Idle = Some nozzle
lifted_by (Lift nozzle last price) states.Authorised = Some nozzle
lifted_by event state = None

-- the growth that a reply takes into the fuelling
abbrev pub flowed_in : Result PointStep Refusal → ℕ
flowed_in (Ok (Flowed growth)) = growth
flowed_in reply = 0

abbrev pub reply_at : Moment → Result PointStep Refusal
reply_at m = reply_to m.event m.before

-- an accepted hang up or offline
abbrev pub ends : Moment → Bool
ends m = is_end m.event && is_ok (reply_at m)

-- an accepted test release
abbrev pub is_test_released : Moment → Bool
is_test_released m = is_test_release m.event && is_ok (reply_at m)

-- an accepted hang up or offline, or a release that is taken back
abbrev pub ends_release : Moment → Bool
ends_release m = ends m || is_stopped (reply_at m)

-- A fuelling that stands at the end of these moments: in one of them it started and took this price
-- and reading, none since has ended it, and so much has flowed since.
pub record HasStarted (moments : List Moment) (price start volume : ℕ) : Type 0 where
  pub before : List Moment
  pub begin : Moment
  pub since : List Moment
  pub parts : moments ≡ before ++ begin ∷ since
  pub taken : handed_in begin.event begin.before.state ≡ Some (price, start)
  pub goes_on : list_any ends since ≡ false
  pub flowed : volume ≡ sum_by (λ m. flowed_in (reply_at m)) since

-- A nozzle that is out at the end of these moments: in one of them it was lifted, and in none since
-- was it put back or the point lost.
pub record HasLifted (moments : List Moment) (nozzle : ℕ) : Type 0 where
  pub before : List Moment
  pub lift : Moment
  pub since : List Moment
  pub parts : moments ≡ before ++ lift ∷ since
  pub taken : lifted_by lift.event lift.before.state ≡ Some nozzle
  pub stays_out : list_any ends since ≡ false

-- a new point is whole, and an event leaves a whole point whole
pub record StaysWhole : Type 0 where
  pub begins : IsWhole (empty_point states.Closed)
  pub keeps : (event : PointEvent) (f : Facts) → IsWhole f → IsWhole (facts_after event f)

-- what has flowed in the fuelling so far and what an accepted event hands in is in the fuelling
-- afterwards, in the sale or in the draw that it tells; where the point only calls, no growth is
-- handed in
abbrev pub IsConserved : Type 0
IsConserved = (event : PointEvent) (f : Facts) → IsWhole f → refusal_of event f ≡ None
    → (f.state ≡ states.Calling → growth_of event ≡ 0)
    → volume_of f + growth_of event
    ≡ volume_of (after event f) + sold_in (step_of event f) + drawn_in (step_of event f)

-- a sale and a draw are the answers to a hang up or an offline alone
abbrev pub IsSoldAtEnd : Type 0
IsSoldAtEnd = (events : List PointEvent) (event : PointEvent)
    → is_some (delivered_by (reply_to event (point_after events))) ≡ true → is_end event ≡ true

-- from a terminate that is answered so until an accepted hang up or offline, the point is suspended
-- and its fuelling ending
abbrev pub StaysSuspended : Type 0
StaysSuspended = (events : List PointEvent) (before since : List Moment) (m : Moment)
    → moments_of events ≡ before ++ m ∷ since
    → reply_at m ≡ Ok Ending → list_any ends since ≡ false
    → (is_suspended (point_after events).state ≡ true) × ((point_after events).ending ≡ true)

-- a fuelling under way keeps the price and the reading that were handed in where it started, and
-- what has flowed since
abbrev pub IsKeptFromStart : Type 0
IsKeptFromStart = (events : List PointEvent) → is_under_way (point_after events).state ≡ true
    → HasStarted (moments_of events) (point_after events).price (point_after events).start
    (point_after events).volume

-- a sale has the price that was handed in where its fuelling started, and the volume of the growths
-- since, its own event's among them; so has a draw, which tells no price
pub record IsSoldAsStarted : Type 0 where
  pub sold : (events : List PointEvent) (event : PointEvent)
      (nozzle volume price : ℕ) (prepaid : Option ℕ)
      → reply_to event (point_after events) ≡ Ok (Sold nozzle volume price prepaid)
      → (start : ℕ) × ((flowed : ℕ) × (HasStarted (moments_of events) price start flowed
      × (volume ≡ flowed + growth_of event)))
  pub drawn : (events : List PointEvent) (event : PointEvent) (nozzle volume : ℕ)
      → reply_to event (point_after events) ≡ Ok (Drawn nozzle volume)
      → (price : ℕ) × ((start : ℕ) × ((flowed : ℕ)
      × (HasStarted (moments_of events) price start flowed
      × (volume ≡ flowed + growth_of event))))

-- a nozzle that is out, and that of a sale or a draw, is the one that was lifted and hasn't been
-- put back since
pub record IsTheLifted : Type 0 where
  pub out : (events : List PointEvent) (nozzle : ℕ) → (point_after events).out ≡ Some nozzle
      → HasLifted (moments_of events) nozzle
  pub sold : (events : List PointEvent) (event : PointEvent) (nozzle volume : ℕ)
      → delivered_by (reply_to event (point_after events)) ≡ Some (nozzle, volume)
      → HasLifted (moments_of events) nozzle

-- a sale is never of nothing, and neither is a draw
abbrev pub IsNeverNothing : Type 0
IsNeverNothing = (events : List PointEvent) (event : PointEvent) (nozzle volume : ℕ)
    → delivered_by (reply_to event (point_after events)) ≡ Some (nozzle, volume) → 1 ≤ volume

-- a release that is a test, at the end of these moments: one of them is its test release, and none
-- since has ended it
pub record HasTestRelease (moments : List Moment) : Type 0 where
  pub before : List Moment
  pub release : Moment
  pub since : List Moment
  pub parts : moments ≡ before ++ release ∷ since
  pub taken : is_test_released release ≡ true
  pub goes_on : list_any ends_release since ≡ false

-- A point is a test just from an accepted test release until the fuelling ends or the release is
-- taken back. It has neither preset nor prepaid cents; it is never sold, and what isn't a test is
-- never drawn.
pub record AreTestsDrawn : Type 0 where
  pub released : (events : List PointEvent)
      → ((point_after events).test ≡ true) ↔ HasTestRelease (moments_of events)
  pub unlimited : (events : List PointEvent) → (point_after events).test ≡ true
      → ((point_after events).preset ≡ Unset) × ((point_after events).prepaid ≡ None)
  pub sold : (events : List PointEvent) (event : PointEvent)
      (nozzle volume price : ℕ) (prepaid : Option ℕ)
      → reply_to event (point_after events) ≡ Ok (Sold nozzle volume price prepaid)
      → (point_after events).test ≡ false
  pub drawn : (events : List PointEvent) (event : PointEvent) (nozzle volume : ℕ)
      → reply_to event (point_after events) ≡ Ok (Drawn nozzle volume)
      → (point_after events).test ≡ true
