-- An event that has passed its checks: what it is answered with, the site that it leads to, and
-- when it may be performed.
use Rattle.std.specs.Prelude.{◌≡◌, ℕ, ◌-◌, ◌<◌, ◌==◌, true, false, Option, Some, None, Result, Ok}
use Rattle.std.specs.Prelude.{MatchResult}
use Rattle.std.specs.FinMap as finite
use Rattle.std.specs.FinSet as set
use Rattle.site_base.specs.declared.actor.Actor.{Actor}
use Rattle.site_base.specs.declared.actor.Actor.TheVariants.{Till}
use Rattle.site_base.specs.declared.answer.Answer.{Answer}
use Rattle.site_base.specs.declared.answer.Answer.TheVariants.{Done, ShiftClosed}
use Rattle.site_base.specs.declared.event.Event.{Event}
use Rattle.site_base.specs.declared.event.Event.TheVariants as events
use Rattle.meters.specs.declared.meter.TheConstants.{REPLACEMENT_LIMIT}
use Rattle.site_base.specs.declared.numbers.TheConstants.{GREATEST_SHIFT}
use Rattle.site_base.specs.declared.refusal.Refusal.{Refusal}
use Rattle.site_base.specs.Table.{with_row}
use Rattle.fuelling_point.specs.declared.event.PointEvent.TheVariants as points
use Rattle.meters.specs.Nozzles.{has_nozzle, reading_of, times_replaced, with_last, with_meter}
use Rattle.meters.specs.Reports.{report_refusal}
use Rattle.meters.specs.declared.report.Report.TheVariants.{Growing}
use Rattle.fuelling_point.specs.Holds.{is_free_for}
use Rattle.transaction_buffer.specs.FoundSales.{IsPlaced, key_of}
use Rattle.transaction_buffer.specs.Rooms.{room_at}
use Rattle.transaction_buffer.specs.TransactionTable as transactions
use Rattle.written_site.specs.SiteState.{SiteState, holder_of, open_shift}
use Rattle.written_site.specs.SiteChecks.{first_refusal}
use Rattle.written_site.specs.SiteStep.{accepted_site, holds_unless_over, site_answer, step_told}
use Rattle.site_core.specs.declared.ready.Ready.{Ready}
use Rattle.site_core.specs.declared.ready.Ready.TheVariants.{Tell, SignOn, SignOff, Command, Take}
use Rattle.site_core.specs.declared.ready.Ready.TheVariants.{GiveBack, Terminate, Lift, Flow}
use Rattle.site_core.specs.declared.ready.Ready.TheVariants.{HangUp, Offline, ReplaceMeter, Ask}
use Rattle.site_core.specs.declared.ready.Ready.TheVariants.{SetPrice, CloseShift}
use Rattle.site_core.specs.Accounts.{FitsGrant}
use Rattle.site_core.specs.Endings.{MayEnd, draws_with, sales_with}
use Rattle.site_core.specs.Performance.{MayPerform, done_at, step_at}
use Rattle.site_core.specs.Views.{HasRoom, Room, room_left, room_sold}
use Rattle.site_core.specs.declared.site_parts.SiteParts.{SiteParts}
use Rattle.site_core.specs.SiteParts.{room_of, site_of}
use Rattle.site_core.specs.Answers.{delivers}

-- the site with this last reading of the point's nozzle
abbrev pub read_at : SiteState → ℕ → ℕ → ℕ → SiteState
read_at s p n reading = record s { nozzles = with_last p n reading s.nozzles }

-- the site that it leads to
abbrev pub site_by : SiteState → Ready → SiteState
site_by s (Tell answer) = s
site_by s (SignOn t) = record s { signed_on = set.insert s.signed_on t }
site_by s (SignOff t) = accepted_site s (Till t) events.SignOff
site_by s (Command point event) = done_at s point event
site_by s (Take point event t) =
    record (done_at s point event) { holds = finite.insert s.holds point.number t }
site_by s (GiveBack point) =
    record (done_at s point points.Unassign) { holds = finite.remove s.holds point.number }
site_by s (Terminate point) = record (done_at s point points.Terminate) {
  holds = holds_unless_over point.number (step_at s point points.Terminate) s.holds;
}
site_by s (Lift point event) = done_at s point event
site_by s (Flow point n reading growth) =
    read_at (done_at s point (points.Flow n growth)) point.number n reading
site_by s (HangUp point n reading growth) =
    let step = step_at s point (points.HangUp n growth) in
    let read = read_at (done_at s point (points.HangUp n growth)) point.number n reading in
    record read {
      holds = holds_unless_over point.number step s.holds;
      sales = sales_with read point.number step;
      drawn = draws_with read point.number step;
    }
site_by s (Offline point) =
    let step = step_at s point points.Offline in
    record (done_at s point points.Offline) {
      holds = finite.remove s.holds point.number;
      sales = sales_with s point.number step;
      drawn = draws_with s point.number step;
    }
site_by s (ReplaceMeter point n reading) = record (done_at s point points.ReplaceMeter) {
  nozzles = with_meter point.number n reading s.nozzles;
}
site_by s (Ask sale request t) =
    record s { sales = transactions.after_request request t (key_of sale) s.sales }
site_by s (SetPrice q price) = record s { prices = with_row q price s.prices }
site_by s CloseShift = accepted_site s (Till 0) events.CloseShift

-- what it is answered with
abbrev pub answer_by : SiteState → Ready → Answer
answer_by s (Tell answer) = answer
answer_by s (Terminate point) =
    step_told s point.number 0 (step_at s point points.Terminate)
answer_by s (Lift point event) = step_told s point.number 0 (step_at s point event)
answer_by s (Flow point n reading growth) =
    step_told s point.number growth (step_at s point (points.Flow n growth))
answer_by s (HangUp point n reading growth) =
    step_told s point.number growth (step_at s point (points.HangUp n growth))
answer_by s (Offline point) = step_told s point.number 0 (step_at s point points.Offline)
answer_by s (Ask sale request t) = transactions.answer_of request t (key_of sale) s.sales
answer_by s CloseShift = ShiftClosed (open_shift s)
answer_by s ready = Done

-- when it may be performed
abbrev pub CanPerform : SiteState → Ready → Type 0
CanPerform s (Command point event) = MayPerform s point event
CanPerform s (Take point event t) =
    MayPerform s point event × (is_free_for t (holder_of s point.number) ≡ true)
CanPerform s (GiveBack point) = MayPerform s point points.Unassign
CanPerform s (Terminate point) = MayPerform s point points.Terminate
CanPerform s (Lift point event) =
    MayPerform s point event × (delivers (step_at s point event) ≡ false)
CanPerform s (Flow point n reading growth) =
    MayPerform s point (points.Flow n growth)
    × (has_nozzle point.number n s.nozzles ≡ true)
    × (report_refusal Growing (reading_of point.number n s.nozzles) reading ≡ None)
CanPerform s (HangUp point n reading growth) =
    MayPerform s point (points.HangUp n growth)
    × (has_nozzle point.number n s.nozzles ≡ true)
    × (report_refusal Growing (reading_of point.number n s.nozzles) reading ≡ None)
    × MayEnd (read_at s point.number n reading) point.number
    (step_at s point (points.HangUp n growth))
CanPerform s (Offline point) =
    MayPerform s point points.Offline × MayEnd s point.number (step_at s point points.Offline)
CanPerform s (ReplaceMeter point n reading) =
    MayPerform s point points.ReplaceMeter
    × (has_nozzle point.number n s.nozzles ≡ true)
    × (times_replaced point.number n s.nozzles < REPLACEMENT_LIMIT)
CanPerform s (Ask sale request t) =
    IsPlaced sale s.sales
    × (transactions.refusal_of request t (key_of sale) s.sales ≡ None)
    × FitsGrant request t (key_of sale) s.sales s.drawn
CanPerform s CloseShift = (open_shift s == GREATEST_SHIFT) ≡ false
CanPerform s ready = Unit {0}

-- there is room for what it adds
abbrev pub HasRoomFor : Room → Ready → Type 0
HasRoomFor room CloseShift = 0 < room.closes
HasRoomFor room (Offline point) = 0 < room_at point.number room.sales
HasRoomFor room (HangUp point n reading growth) = 0 < room_at point.number room.sales
HasRoomFor room ready = Unit {0}

-- the room that it leaves, answered so
abbrev pub room_by : Ready → Answer → Room → Room
room_by (Offline point) answer room = room_sold point.number answer room
room_by (HangUp point n reading growth) answer room = room_sold point.number answer room
room_by CloseShift answer room = record { sales = room.sales; closes = room.closes - 1 }
room_by ready answer room = room

-- what is ready may be performed, and there is room for what it adds
pub record MayDo (parts : SiteParts) (ready : Ready) : Type 0 where
  pub can : CanPerform (site_of parts) ready
  pub room : HasRoomFor (room_of parts) ready

-- from old, what is ready is done: it leads to new, and is answered so
pub record Does (old : SiteParts) (ready : Ready) (new : SiteParts) (answer : Answer) : Type 0 where
  pub site : site_of new ≡ site_by (site_of old) ready
  pub answers : answer ≡ answer_by (site_of old) ready
  pub room : room_of new ≡ room_by ready answer (room_of old)

-- the actor's event is accepted, and it is this that is left to perform
pub record IsReady (s : SiteState) (actor : Actor) (event : Event) (ready : Ready) : Type 0 where
  pub accepted : first_refusal s actor event ≡ None
  pub leads : site_by s ready ≡ accepted_site s actor event
  pub answers : answer_by s ready ≡ site_answer s event
  pub can : CanPerform s ready
  pub fits : (room : Room) → HasRoom room event → HasRoomFor room ready
  pub leaves : (answer : Answer) (room : Room)
      → room_by ready answer room ≡ room_left event (Ok answer) room

-- the first check that fails gives the refusal; without one the event is ready
abbrev pub Checks : SiteState → Actor → Event → Result Ready Refusal → Type 0
Checks s actor event result =
    MatchResult result (λ ready. IsReady s actor event ready)
    (λ refusal. first_refusal s actor event ≡ Some refusal)

-- a check of the site's, and its outcome
abbrev pub Passes : {A : Type 0} → Option Refusal → Result A Refusal → Type 0
Passes check result = MatchResult result (λ _. check ≡ None) (λ refusal. check ≡ Some refusal)
