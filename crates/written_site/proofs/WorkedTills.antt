-- Worked rows of two tills at one point.
use Rattle.std.proofs.Common.{[], ◌∷◌, Some, None, Ok, Err}
use Rattle.site_base.specs.declared.answer.Answer.TheVariants.{Done, Stopped, PointIs}
use Rattle.site_base.specs.declared.event.Event.TheVariants.{SignOn, SignOff, Open, Assign}
use Rattle.site_base.specs.declared.event.Event.TheVariants.{Unassign, Release, Terminate}
use Rattle.site_base.specs.declared.event.Event.TheVariants.{ReadPoint}
use Rattle.site_base.specs.declared.refusal.Refusal.TheVariants.{NotSignedOn, SignedOn}
use Rattle.site_base.specs.declared.refusal.Refusal.TheVariants.{AssignedToOther, NotYours}
use Rattle.site_base.specs.declared.refusal.Refusal.TheVariants.{WrongState}
use Rattle.site_base.specs.declared.state.PointState.TheVariants.{Closed, Idle, Authorised}
use Rattle.site_base.specs.declared.state.Preset.TheVariants.{Unset}
use Rattle.written_site.proofs.WorkedRows.{known_site, t1, t2, point, AreAnswered}
use Rattle.written_site.proofs.WorkedReplies.{answered, kit}

-- a released point is held by the till that released it; another till is told who holds it
released_by_till_1 : AreAnswered known_site
    (t1 SignOn (Ok Done)
    ∷ t1 (Open 3) (Ok Done)
    ∷ t1 (ReadPoint 3) (Ok (PointIs (point Idle None)))
    ∷ t1 (Release 3 Unset) (Ok Done)
    ∷ t1 (ReadPoint 3) (Ok (PointIs (point Authorised (Some 1))))
    ∷ t2 SignOn (Ok Done)
    ∷ t2 (Release 3 Unset) (Err (AssignedToOther 1))
    ∷ t1 (Release 3 Unset) (Err (WrongState Authorised))
    ∷ [])
released_by_till_1 = answered (simp kit)

-- a till that isn't signed on doesn't release
not_signed_on : AreAnswered known_site (t1 (Release 3 Unset) (Err NotSignedOn) ∷ [])
not_signed_on = answered (simp kit)

-- with till 2 first, till 1 is told that it holds the point
released_by_till_2 : AreAnswered known_site
    (t1 SignOn (Ok Done)
    ∷ t1 (Open 3) (Ok Done)
    ∷ t2 SignOn (Ok Done)
    ∷ t2 (Release 3 Unset) (Ok Done)
    ∷ t1 (Release 3 Unset) (Err (AssignedToOther 2))
    ∷ [])
released_by_till_2 = answered (simp kit)

-- a point is held by a till that signed off while it was released, until a manager terminates that
held_after_sign_off : AreAnswered known_site
    (t1 SignOn (Ok Done)
    ∷ t2 SignOn (Ok Done)
    ∷ t2 (Open 1) (Ok Done)
    ∷ t2 (Release 1 Unset) (Ok Done)
    ∷ t2 SignOff (Ok Done)
    ∷ t1 (Assign 1) (Err (AssignedToOther 2))
    ∷ t1 (ReadPoint 1) (Ok (PointIs (point Authorised (Some 2))))
    ∷ t1 (Terminate 1) (Ok Stopped)
    ∷ t1 (ReadPoint 1) (Ok (PointIs (point Idle None)))
    ∷ [])
held_after_sign_off = answered (simp kit)

-- a till signs on once; another till is refused what it holds, and it is given back once
given_back_once : AreAnswered known_site
    (t1 SignOn (Ok Done)
    ∷ t1 SignOn (Err SignedOn)
    ∷ t2 SignOn (Ok Done)
    ∷ t1 (Assign 2) (Ok Done)
    ∷ t2 (Assign 2) (Err (AssignedToOther 1))
    ∷ t2 (ReadPoint 2) (Ok (PointIs (point Closed (Some 1))))
    ∷ t1 (Unassign 2) (Ok Done)
    ∷ t1 (Unassign 2) (Err NotYours)
    ∷ [])
given_back_once = answered (simp kit)
