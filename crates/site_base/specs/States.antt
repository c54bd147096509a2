-- The numbers of states.
use Rattle.std.specs.Prelude.{ℕ}
use Rattle.site_base.specs.declared.state.PointState.{PointState}
use Rattle.site_base.specs.declared.state.PointState.TheVariants as points
use Rattle.site_base.specs.declared.state.Status.{Status}
use Rattle.site_base.specs.declared.state.Status.TheVariants as transactions

-- the number by which a fuelling point's state is told
abbrev pub state_number : PointState → ℕ
state_number points.Inoperative = 1
state_number points.Closed = 2
state_number points.Idle = 3
state_number points.Calling = 4
state_number points.Authorised = 5
state_number points.Started = 6
state_number points.SuspendedStarted = 7
state_number points.Fuelling = 8
state_number points.SuspendedFuelling = 9

-- the number by which a transaction's state is told
abbrev pub status_number : Status → ℕ
status_number transactions.Cleared = 1
status_number transactions.Payable = 2
status_number transactions.Locked = 3
