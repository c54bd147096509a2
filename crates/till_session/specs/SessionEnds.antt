-- The ends of a server's sessions.
use Rattle.std.specs.Prelude.{◌≡◌, ◌<◌, ◌⊎◌, ℕ, false, List, Option, Some, None}
use Rattle.std.specs.declared.thread.PromisedHandle.{PromisedHandle}
use Rattle.site_base.specs.declared.row.Row.{Row}
use Rattle.till_session.specs.declared.fault.SessionFault.TheVariants as faults
use Rattle.till_session.specs.declared.server.DrawnEnds.{DrawnEnds}
use Rattle.till_session.specs.declared.server.NumberedEnd.{NumberedEnd}
use Rattle.till_session.specs.declared.server.Plan.{Plan}
use Rattle.till_session.specs.declared.session.SessionEnd.{SessionEnd}
use Rattle.till_session.specs.Ends.{Served}

-- A session of so many turns was served and ended so, whatever its devices and its counter were.
pub record IsServedEnd (turns : ℕ) (end : SessionEnd) : Type 0 where
  pub left : Option (List ℕ)
  pub left_after : Option (List ℕ)
  pub told : Option (List ℕ)
  pub told_after : Option (List ℕ)
  pub rows : List Row
  pub rows_after : List Row
  pub served : Served turns left left_after told told_after rows rows_after end

-- the end of a session that got no connection
pub record IsUnservedEnd (end : SessionEnd) : Type 0 where
  pub fault : (end.fault ≡ Some faults.Accept) ⊎ (end.fault ≡ Some faults.NoMemory)
  pub asked : end.asked ≡ 0
  pub signed_off : end.signed_off ≡ false

-- the end of a session that was drawn
abbrev pub IsDrawnEnd : ℕ → SessionEnd → Type 0
IsDrawnEnd turns end = IsServedEnd turns end ⊎ IsUnservedEnd end

-- a numbered end is that of a session of the plan
pub record IsEndOf (plan : Plan) (numbered : NumberedEnd) : Type 0 where
  pub number : numbered.number < plan.sessions
  pub drawn : IsDrawnEnd plan.turns numbered.end

-- a slot is empty, or has the end of a session of the plan
abbrev pub IsSlotOf : Plan → Option SessionEnd → Type 0
IsSlotOf plan None = Unit {0}
IsSlotOf plan (Some end) = IsDrawnEnd plan.turns end

-- a worker's thread, if it was started, serves sessions of the plan
abbrev pub IsStartOf : {X : Type 0} → Plan → Option (PromisedHandle X DrawnEnds) → Type 0
IsStartOf plan None = Unit {0}
IsStartOf plan (Some handle) = handle.promise.0 ≡ plan
