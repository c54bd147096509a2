-- Takes and ends of a point's hold, read from the rows of a history, and the law of one holder.
use Rattle.std.specs.Prelude.{◌≡◌, ◌≢◌, ◌↔◌, ℕ, Bool, true, false, ◌&&◌, ◌==◌, if◌then◌else◌, List}
use Rattle.std.specs.Prelude.{◌∷◌, ◌++◌, Option, Some, None, is_some, Result, Ok, is_ok}
use Rattle.std.specs.List.{list_any}
use Rattle.site_base.specs.declared.actor.Actor.{Actor}
use Rattle.site_base.specs.declared.actor.Actor.TheVariants.{Till}
use Rattle.site_base.specs.declared.answer.Answer.{Answer}
use Rattle.site_base.specs.declared.answer.Answer.TheVariants.{Stopped, NoSale, Sold, Drawn}
use Rattle.site_base.specs.declared.event.Event.{Event}
use Rattle.site_base.specs.declared.event.Event.TheVariants.{SignOff, Assign, Unassign, Release}
use Rattle.site_base.specs.declared.event.Event.TheVariants.{Prepay, TestRelease, Offline}
use Rattle.site_base.specs.declared.refusal.Refusal.{Refusal}
use Rattle.site_base.specs.declared.row.Row.{Row}
use Rattle.site_base.specs.declared.state.PointState.{PointState}
use Rattle.site_base.specs.declared.state.PointState.TheVariants.{Inoperative, Closed, Idle}
use Rattle.site_base.specs.declared.state.PointState.TheVariants.{Calling, Authorised, Started}
use Rattle.site_base.specs.declared.state.PointState.TheVariants.{SuspendedStarted, Fuelling}
use Rattle.site_base.specs.declared.state.PointState.TheVariants.{SuspendedFuelling}
use Rattle.site_base.specs.Configured.{Configured}
use Rattle.site_base.specs.Events.{point_named}
use Rattle.site_base.specs.Table.{row_of}
use Rattle.written_site.specs.SiteState.{SiteState, opening, facts_of, holder_of}
use Rattle.written_site.specs.SiteRun.{site_at_end, site_of_rows, IsLegal}
use Rattle.written_site.specs.Histories.{Moment, moments_of, history}
use Rattle.written_site.specs.Slots.{IsLastTake}

-- the till that such an event, once accepted, gives the hold of the point
abbrev pub hold_taker : ℕ → Actor → Event → Option ℕ
hold_taker p (Till t) (Assign q) = if q == p then Some t else None
hold_taker p (Till t) (Release q preset) = if q == p then Some t else None
hold_taker p (Till t) (Prepay q cents) = if q == p then Some t else None
hold_taker p (Till t) (TestRelease q) = if q == p then Some t else None
hold_taker p actor event = None

-- a take of the point: an accepted Assign, Release, Prepay or TestRelease, by the till that asks
-- for it
abbrev pub takes_hold : ℕ → Moment → Option ℕ
takes_hold p m = if is_ok m.row.reply then hold_taker p m.row.actor m.row.event else None

-- the reply tells that what the point was released for is over: the release is taken back, or the
-- fuelling has ended
abbrev pub tells_end : Result Answer Refusal → Bool
tells_end (Ok Stopped) = true
tells_end (Ok NoSale) = true
tells_end (Ok (Sold seq growth)) = true
tells_end (Ok (Drawn growth)) = true
tells_end reply = false

-- this very point is named
abbrev pub names_point : ℕ → Option ℕ → Bool
names_point p None = false
names_point p (Some q) = q == p

-- a point in this state is at rest: closed, idle or calling
abbrev pub is_at_rest : PointState → Bool
is_at_rest Closed = true
is_at_rest Idle = true
is_at_rest Calling = true
is_at_rest Inoperative = false
is_at_rest Authorised = false
is_at_rest Started = false
is_at_rest SuspendedStarted = false
is_at_rest Fuelling = false
is_at_rest SuspendedFuelling = false

-- the point is there, and at rest
abbrev pub stands_at_rest : SiteState → ℕ → Bool
stands_at_rest s p = is_some (row_of p s.points) && is_at_rest (facts_of s p).state

-- such an event, once accepted with this reply, ends the hold that till t has of the point
abbrev pub is_end : ℕ → ℕ → SiteState → Actor → Event → Result Answer Refusal → Bool
is_end p t s (Till u) (Unassign q) reply = q == p
is_end p t s actor (Offline q) reply = q == p
is_end p t s (Till u) SignOff reply = stands_at_rest s p && t == u
is_end p t s actor event reply = tells_end reply && names_point p (point_named event)

-- an end of the till's hold of the point: an accepted Unassign or Offline of it, an answer of it
-- that tells that its release is taken back or its fuelling over, or the till's accepted sign-off
-- where the point is closed, idle or calling
abbrev pub ends_hold : ℕ → ℕ → Moment → Bool
ends_hold p t m = is_ok m.row.reply && is_end p t m.before m.row.actor m.row.event m.row.reply

-- between takes of a point by two different tills stands an end of the first one's hold
abbrev pub AreHeldByOne : List Moment → Type 0
AreHeldByOne moments = (p t u : ℕ) (before between since : List Moment) (first second : Moment)
    → moments ≡ before ++ first ∷ between ++ second ∷ since
    → takes_hold p first ≡ Some t → takes_hold p second ≡ Some u → t ≢ u
    → list_any (ends_hold p t) between ≡ true

-- the holds of this site are exactly the takes without a later end
abbrev pub AreHoldsOf : SiteState → List Moment → Type 0
AreHoldsOf s moments = (p t : ℕ) → (holder_of s p ≡ Some t)
    ↔ IsLastTake (takes_hold p) (ends_hold p) t moments

-- one holder, for every list of events from the opening site of any configuration
abbrev pub IsHeldByOne : Type 0
IsHeldByOne = (c : Configured) (events : List (Actor × Event)) → AreHeldByOne (history c events)

-- the holds after every such list of events
abbrev pub AreUnendedTakes : Type 0
AreUnendedTakes = (c : Configured) (events : List (Actor × Event))
    → AreHoldsOf (site_at_end (opening c) events) (history c events)

-- both again, for the rows of every legal history: those that a book keeps
pub record IsBookHeldByOne (c : Configured) (rows : List Row) : Type 0 where
  pub one : AreHeldByOne (moments_of c rows)
  pub unended : AreHoldsOf (site_of_rows (opening c) rows) (moments_of c rows)

abbrev pub AreBooksHeldByOne : Type 0
AreBooksHeldByOne = (c : Configured) (rows : List Row) → IsLegal (opening c) rows
    → IsBookHeldByOne c rows
