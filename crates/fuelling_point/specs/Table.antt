-- The point table: what each event does in each state of a fuelling point. A line that isn't here
-- isn't accepted.
use Rattle.std.specs.Prelude.{ℕ, Bool, Option, Some, None, is_some, ◌==◌, if◌then◌else◌}
use Rattle.site_base.specs.declared.state.PointState.{PointState}
use Rattle.site_base.specs.declared.state.PointState.TheVariants.{Inoperative, Closed, Idle}
use Rattle.site_base.specs.declared.state.PointState.TheVariants.{Calling, Authorised, Started}
use Rattle.site_base.specs.declared.state.PointState.TheVariants.{SuspendedStarted, Fuelling}
use Rattle.site_base.specs.declared.state.PointState.TheVariants.{SuspendedFuelling}
use Rattle.fuelling_point.specs.declared.event.PointEvent.{PointEvent}
use Rattle.fuelling_point.specs.declared.event.PointEvent.TheVariants as events

-- whether fuel has flowed since the last report
pub data Growth : Type 0 where
  zero : Growth
  above_zero : Growth

-- an event as the table names it
pub data Heading : Type 0 where
  Online : Heading
  Offline : Heading
  Open : Heading
  Close : Heading
  Assign : Heading
  Unassign : Heading
  Lift : Heading
  Release : Heading
  TestRelease : Heading
  ReplaceMeter : Heading
  Suspend : Heading
  Resume : Heading
  Terminate : Heading
  Flow : Growth → Heading
  HangUp : Growth → Heading

-- the answers that the table names
pub data Told : Type 0 where
  done : Told
  calling : Told
  start : Told
  flowed : Told
  hung_up : Told
  no_sale : Told
  sold : Told
  stopped : Told
  ending : Told

-- where a line leads
pub data Move : Type 0 where
  stay : Move
  goes : PointState → Move

-- what a line says: where it leads, and the answer
pub record Line : Type 0 where
  pub move : Move
  pub told : Told

abbrev pub to : PointState → Told → Option Line
to state told = Some (record { move = goes state; told = told })

abbrev pub stays : Told → Option Line
stays told = Some (record { move = stay; told = told })

-- the lines of the table, in its order: an event, a state, and what the event does in it
abbrev pub line : Heading → PointState → Option Line
line Online Inoperative = to Closed done
line Offline Closed = to Inoperative done
line Offline Idle = to Inoperative done
line Offline Calling = to Inoperative done
line Offline Authorised = to Inoperative done
line Offline Started = to Inoperative done
line Offline SuspendedStarted = to Inoperative done
line Offline Fuelling = to Inoperative sold
line Offline SuspendedFuelling = to Inoperative sold
line Open Closed = to Idle done
line Close Idle = to Closed done
line Assign Closed = stays done
line Assign Idle = stays done
line Assign Calling = stays done
line Unassign Closed = stays done
line Unassign Idle = stays done
line Unassign Calling = stays done
line Lift Idle = to Calling calling
line Lift Authorised = to Started start
line Release Idle = to Authorised done
line Release Calling = to Started done
line TestRelease Idle = to Authorised done
line TestRelease Calling = to Started done
line ReplaceMeter Inoperative = stays done
line ReplaceMeter Closed = stays done
line (Flow zero) Started = stays flowed
line (Flow zero) SuspendedStarted = stays flowed
line (Flow zero) Fuelling = stays flowed
line (Flow zero) SuspendedFuelling = stays flowed
line (Flow above_zero) Started = to Fuelling flowed
line (Flow above_zero) SuspendedStarted = to SuspendedFuelling flowed
line (Flow above_zero) Fuelling = stays flowed
line (Flow above_zero) SuspendedFuelling = stays flowed
line Suspend Started = to SuspendedStarted done
line Suspend Fuelling = to SuspendedFuelling done
line Resume SuspendedStarted = to Started done
line Resume SuspendedFuelling = to Fuelling done
line Terminate Authorised = to Idle stopped
line Terminate Started = to SuspendedStarted ending
line Terminate SuspendedStarted = to SuspendedStarted ending
line Terminate Fuelling = to SuspendedFuelling ending
line Terminate SuspendedFuelling = to SuspendedFuelling ending
line (HangUp growth) Calling = to Idle hung_up
line (HangUp zero) Started = to Idle no_sale
line (HangUp zero) SuspendedStarted = to Idle no_sale
line (HangUp above_zero) Started = to Idle sold
line (HangUp above_zero) SuspendedStarted = to Idle sold
line (HangUp growth) Fuelling = to Idle sold
line (HangUp growth) SuspendedFuelling = to Idle sold
line heading state = None

abbrev pub growth_in : ℕ → Growth
growth_in growth = if growth == 0 then zero else above_zero

-- the heading under which the table has an event
abbrev pub heading_of : PointEvent → Heading
heading_of events.Online = Online
heading_of events.Offline = Offline
heading_of events.Open = Open
heading_of events.Close = Close
heading_of events.Assign = Assign
heading_of events.Unassign = Unassign
heading_of (events.Lift nozzle last price) = Lift
heading_of (events.Release preset prepaid last price) = Release
heading_of (events.TestRelease last price) = TestRelease
heading_of events.ReplaceMeter = ReplaceMeter
heading_of events.Suspend = Suspend
heading_of events.Resume = Resume
heading_of events.Terminate = Terminate
heading_of (events.Flow nozzle growth) = Flow (growth_in growth)
heading_of (events.HangUp nozzle growth) = HangUp (growth_in growth)

-- the table's line for an event in a state
abbrev pub line_of : PointEvent → PointState → Option Line
line_of event state = line (heading_of event) state

-- the table has a line for the event in this state
abbrev pub is_listed : PointEvent → PointState → Bool
is_listed event state = is_some (line_of event state)
