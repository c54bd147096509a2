-- Worked rows of the order of the checks of what tills ask: of two that fail the earlier decides.
use Rattle.std.proofs.Common.{[], ◌∷◌, ◌++◌, Ok, Err}
use Rattle.site_base.specs.declared.answer.Answer.TheVariants.{Done, Start, Stopped}
use Rattle.site_base.specs.declared.event.Event.TheVariants.{SignOn, Open, Assign, Release, Prepay}
use Rattle.site_base.specs.declared.event.Event.TheVariants.{TestRelease, Suspend, Resume}
use Rattle.site_base.specs.declared.event.Event.TheVariants.{Terminate, ReplaceMeter}
use Rattle.site_base.specs.declared.event.Event.TheVariants.{ReadTransaction, ReadProduct, Lift}
use Rattle.site_base.specs.declared.refusal.Refusal.TheVariants.{NotSignedOn, NoSuchPoint}
use Rattle.site_base.specs.declared.refusal.Refusal.TheVariants.{NoSuchNozzle, NoSuchProduct}
use Rattle.site_base.specs.declared.refusal.Refusal.TheVariants.{NoSuchTransaction, NotManager}
use Rattle.site_base.specs.declared.refusal.Refusal.TheVariants.{BadPreset, AssignedToOther}
use Rattle.site_base.specs.declared.refusal.Refusal.TheVariants.{NotYourPoint, WrongState}
use Rattle.site_base.specs.declared.state.PointState.TheVariants.{Closed, Idle}
use Rattle.site_base.specs.declared.state.Preset.TheVariants.{Unset, Volume, Money}
use Rattle.written_site.proofs.WorkedRows.{known_site, t1, t2, t3, d1, at_work, sale, AreAnswered}
use Rattle.written_site.proofs.WorkedReplies.{answered, kit}

-- Release and Prepay: signed on, point, range, holder, state
released : AreAnswered known_site
    (t1 (Release 9 (Volume 0)) (Err NotSignedOn)
    ∷ t1 SignOn (Ok Done)
    ∷ t2 SignOn (Ok Done)
    ∷ t1 (Release 9 (Volume 0)) (Err NoSuchPoint)
    ∷ t1 (Prepay 9 0) (Err NoSuchPoint)
    ∷ t1 (Assign 1) (Ok Done)
    ∷ t2 (Release 1 (Volume 0)) (Err BadPreset)
    ∷ t2 (Prepay 1 0) (Err BadPreset)
    ∷ t2 (Release 1 Unset) (Err (AssignedToOther 1))
    ∷ t2 (Prepay 1 1) (Err (AssignedToOther 1))
    ∷ t1 (Release 1 Unset) (Err (WrongState Closed))
    ∷ t1 (Prepay 1 1) (Err (WrongState Closed))
    ∷ [])
released = answered (simp kit)

-- a preset is 1 to 99,999,999, and so is a prepayment
presets : AreAnswered known_site
    (t1 SignOn (Ok Done)
    ∷ t1 (Open 1) (Ok Done)
    ∷ t1 (Release 1 (Volume 0)) (Err BadPreset)
    ∷ t1 (Release 1 (Money 0)) (Err BadPreset)
    ∷ t1 (Prepay 1 0) (Err BadPreset)
    ∷ t1 (Release 1 (Volume 100000000)) (Err BadPreset)
    ∷ t1 (Release 1 (Money 100000000)) (Err BadPreset)
    ∷ t1 (Prepay 1 100000000) (Err BadPreset)
    ∷ t1 (Release 1 (Volume 1)) (Ok Done)
    ∷ t1 (Terminate 1) (Ok Stopped)
    ∷ t1 (Release 1 (Money 1)) (Ok Done)
    ∷ t1 (Terminate 1) (Ok Stopped)
    ∷ t1 (Prepay 1 1) (Ok Done)
    ∷ t1 (Terminate 1) (Ok Stopped)
    ∷ t1 (Release 1 (Volume 99999999)) (Ok Done)
    ∷ t1 (Terminate 1) (Ok Stopped)
    ∷ t1 (Release 1 (Money 99999999)) (Ok Done)
    ∷ t1 (Terminate 1) (Ok Stopped)
    ∷ t1 (Prepay 1 99999999) (Ok Done)
    ∷ d1 (Lift 1 2 1000) (Ok (Start (Money 99999999) 1799))
    ∷ [])
presets = answered (simp kit)

-- TestRelease: signed on, point, manager, holder, state
test_released : AreAnswered known_site
    (t2 (TestRelease 9) (Err NotSignedOn)
    ∷ t1 SignOn (Ok Done)
    ∷ t2 SignOn (Ok Done)
    ∷ t2 (TestRelease 9) (Err NoSuchPoint)
    ∷ t1 (Assign 1) (Ok Done)
    ∷ t2 (TestRelease 1) (Err NotManager)
    ∷ t2 (Assign 2) (Ok Done)
    ∷ t1 (TestRelease 2) (Err (AssignedToOther 2))
    ∷ t1 (TestRelease 1) (Err (WrongState Closed))
    ∷ [])
test_released = answered (simp kit)

-- ReplaceMeter: signed on, point, nozzle, manager, state; who holds the point doesn't matter
meter_replaced : AreAnswered known_site
    (at_work ++
    t3 (ReplaceMeter 9 3 0) (Err NotSignedOn)
    ∷ t2 (ReplaceMeter 9 3 0) (Err NoSuchPoint)
    ∷ t2 (ReplaceMeter 1 3 0) (Err NoSuchNozzle)
    ∷ t2 (ReplaceMeter 3 1 0) (Err NotManager)
    ∷ t1 (ReplaceMeter 3 1 0) (Err (WrongState Idle))
    ∷ t1 (ReplaceMeter 2 1 5) (Ok Done)
    ∷ [])
meter_replaced = answered (simp kit)

-- Suspend: signed on, point, state; Resume and Terminate: the holder before the state
suspended : AreAnswered known_site
    (at_work ++
    t3 (Suspend 9) (Err NotSignedOn)
    ∷ t3 (Resume 9) (Err NotSignedOn)
    ∷ t3 (Terminate 9) (Err NotSignedOn)
    ∷ t1 (Suspend 9) (Err NoSuchPoint)
    ∷ t1 (Resume 9) (Err NoSuchPoint)
    ∷ t1 (Terminate 9) (Err NoSuchPoint)
    ∷ t2 (Suspend 1) (Err (WrongState Closed))
    ∷ t2 (Resume 1) (Err (AssignedToOther 1))
    ∷ t2 (Terminate 1) (Err (AssignedToOther 1))
    ∷ t1 (Resume 1) (Err (WrongState Closed))
    ∷ t1 (Terminate 1) (Err (WrongState Closed))
    ∷ t1 (Resume 2) (Err (AssignedToOther 2))
    ∷ t1 (Terminate 2) (Err (WrongState Closed))
    ∷ [])
suspended = answered (simp kit)

-- what tills ask isn't a dispenser's, but the numbers that it names are looked at first
asked_by_a_dispenser : AreAnswered known_site
    (at_work ++
    d1 (Release 9 Unset) (Err NoSuchPoint)
    ∷ d1 (Release 1 (Volume 0)) (Err NotYourPoint)
    ∷ d1 (Prepay 1 0) (Err NotYourPoint)
    ∷ d1 (TestRelease 1) (Err NotYourPoint)
    ∷ d1 (Suspend 1) (Err NotYourPoint)
    ∷ d1 (Resume 1) (Err NotYourPoint)
    ∷ d1 (Terminate 1) (Err NotYourPoint)
    ∷ d1 (ReplaceMeter 9 3 0) (Err NoSuchPoint)
    ∷ d1 (ReplaceMeter 1 3 0) (Err NoSuchNozzle)
    ∷ d1 (ReplaceMeter 1 1 0) (Err NotYourPoint)
    ∷ d1 (ReadTransaction 9 (sale 1)) (Err NoSuchPoint)
    ∷ d1 (ReadTransaction 1 (sale 1)) (Err NoSuchTransaction)
    ∷ d1 (ReadProduct 3) (Err NoSuchProduct)
    ∷ d1 (ReadProduct 1) (Err NotYourPoint)
    ∷ [])
asked_by_a_dispenser = answered (simp kit)

-- reads of sales and products: signed on, then the numbers as they are named
reads : AreAnswered known_site
    (at_work ++
    t3 (ReadTransaction 9 (sale 1)) (Err NotSignedOn)
    ∷ t1 (ReadTransaction 9 (sale 1)) (Err NoSuchPoint)
    ∷ t1 (ReadTransaction 1 (sale 1)) (Err NoSuchTransaction)
    ∷ t3 (ReadProduct 3) (Err NotSignedOn)
    ∷ t1 (ReadProduct 3) (Err NoSuchProduct)
    ∷ [])
reads = answered (simp kit)
