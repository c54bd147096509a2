-- Worked rows of the order of the checks of what dispensers report: of two that fail the earlier
-- decides.
use Rattle.std.proofs.Common.{[], ◌∷◌, ◌++◌, Ok, Err}
use Rattle.site_base.specs.declared.answer.Answer.TheVariants.{Done, Calling, HungUp}
use Rattle.site_base.specs.declared.event.Event.TheVariants.{Assign, Online, Offline, Lift, Flow}
use Rattle.site_base.specs.declared.event.Event.TheVariants.{HangUp}
use Rattle.site_base.specs.declared.refusal.Refusal.TheVariants.{NotSignedOn, NoSuchPoint}
use Rattle.site_base.specs.declared.refusal.Refusal.TheVariants.{NoSuchNozzle, NotYourPoint}
use Rattle.site_base.specs.declared.refusal.Refusal.TheVariants.{WrongState, WrongNozzle, MeterGap}
use Rattle.site_base.specs.declared.state.PointState.TheVariants as states
use Rattle.site_base.specs.declared.state.PointState.TheVariants.{Inoperative, Closed, Idle}
use Rattle.written_site.proofs.WorkedRows.{known_site, t1, t2, t3, d1, d2, d3, at_work, AreAnswered}
use Rattle.written_site.proofs.WorkedReplies.{answered, kit}

-- Online and Offline: point, whose point, state
online : AreAnswered known_site
    (at_work ++
    d2 (Online 9) (Err NoSuchPoint)
    ∷ d2 (Offline 9) (Err NoSuchPoint)
    ∷ d2 (Online 1) (Err NotYourPoint)
    ∷ d2 (Offline 1) (Err NotYourPoint)
    ∷ d1 (Online 1) (Err (WrongState Closed))
    ∷ d1 (Offline 1) (Ok Done)
    ∷ d1 (Offline 1) (Err (WrongState Inoperative))
    ∷ t2 (Assign 1) (Err (WrongState Inoperative))
    ∷ [])
online = answered (simp kit)

-- Lift: point, nozzle, whose point, state, reading
lifted : AreAnswered known_site
    (at_work ++
    d2 (Lift 9 3 5) (Err NoSuchPoint)
    ∷ d2 (Lift 3 3 5) (Err NoSuchNozzle)
    ∷ d2 (Lift 3 1 5) (Err NotYourPoint)
    ∷ d2 (Lift 2 1 0) (Err (WrongState Closed))
    ∷ d3 (Lift 3 1 5) (Err (MeterGap 0))
    ∷ [])
lifted = answered (simp kit)

-- Flow and HangUp: point, nozzle, whose point, state, the nozzle that is out, reading
flowed : AreAnswered known_site
    (at_work ++
    d2 (Flow 9 3 5) (Err NoSuchPoint)
    ∷ d2 (HangUp 9 3 5) (Err NoSuchPoint)
    ∷ d2 (Flow 3 3 5) (Err NoSuchNozzle)
    ∷ d2 (HangUp 3 3 5) (Err NoSuchNozzle)
    ∷ d2 (Flow 3 1 0) (Err NotYourPoint)
    ∷ d2 (HangUp 3 1 0) (Err NotYourPoint)
    ∷ d3 (Flow 3 1 0) (Err (WrongState Idle))
    ∷ d3 (HangUp 3 1 0) (Err (WrongState Idle))
    ∷ d3 (Lift 3 1 0) (Ok Calling)
    ∷ d3 (Flow 3 2 0) (Err (WrongState states.Calling))
    ∷ d3 (HangUp 3 2 0) (Err (WrongNozzle 1))
    ∷ d3 (HangUp 3 1 5) (Err (MeterGap 0))
    ∷ d3 (HangUp 3 1 0) (Ok HungUp)
    ∷ [])
flowed = answered (simp kit)

-- what dispensers report isn't a till's: signed on, point, nozzle, then whose it is
reported_by_a_till : AreAnswered known_site
    (at_work ++
    t3 (Lift 9 3 0) (Err NotSignedOn)
    ∷ t3 (Online 9) (Err NotSignedOn)
    ∷ t1 (Lift 9 3 0) (Err NoSuchPoint)
    ∷ t1 (Flow 9 3 0) (Err NoSuchPoint)
    ∷ t1 (HangUp 9 3 0) (Err NoSuchPoint)
    ∷ t1 (Offline 9) (Err NoSuchPoint)
    ∷ t1 (Lift 3 3 0) (Err NoSuchNozzle)
    ∷ t1 (Flow 3 3 0) (Err NoSuchNozzle)
    ∷ t1 (HangUp 3 3 0) (Err NoSuchNozzle)
    ∷ t1 (Lift 3 1 5) (Err NotYourPoint)
    ∷ t1 (Flow 3 1 5) (Err NotYourPoint)
    ∷ t1 (HangUp 3 1 5) (Err NotYourPoint)
    ∷ t1 (Online 3) (Err NotYourPoint)
    ∷ t1 (Offline 3) (Err NotYourPoint)
    ∷ [])
reported_by_a_till = answered (simp kit)
