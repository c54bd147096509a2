-- Worked rows of fuellings under way: one whose dispenser goes offline, one that is terminated, one
-- that is suspended, and what a meter may say meanwhile.
use Rattle.std.proofs.Common.{◌++◌, [], ◌∷◌, true, Some, None, Ok, Err}
use Rattle.site_base.specs.declared.answer.Answer.TheVariants as answers
use Rattle.site_base.specs.declared.answer.Answer.TheVariants.{Done, Calling, Start, Flowed, HungUp}
use Rattle.site_base.specs.declared.answer.Answer.TheVariants.{Sold, PointIs, TransactionIs}
use Rattle.site_base.specs.declared.event.Event.TheVariants.{SignOn, Open, Release, Suspend, Resume}
use Rattle.site_base.specs.declared.event.Event.TheVariants.{Terminate, ReadPoint, ReadTransaction}
use Rattle.site_base.specs.declared.event.Event.TheVariants.{Online, Offline, Lift, Flow, HangUp}
use Rattle.site_base.specs.declared.refusal.Refusal.TheVariants.{NoSuchPoint, NoSuchNozzle}
use Rattle.site_base.specs.declared.refusal.Refusal.TheVariants.{NotYourPoint, AssignedToOther}
use Rattle.site_base.specs.declared.refusal.Refusal.TheVariants.{WrongState, WrongNozzle, MeterGap}
use Rattle.site_base.specs.declared.refusal.Refusal.TheVariants.{MeterBack, MeterJump, Ending}
use Rattle.site_base.specs.declared.state.PointState.TheVariants.{Inoperative, Started}
use Rattle.site_base.specs.declared.state.PointState.TheVariants.{SuspendedStarted, Fuelling}
use Rattle.site_base.specs.declared.state.PointState.TheVariants.{SuspendedFuelling}
use Rattle.site_base.specs.declared.state.Preset.TheVariants.{Unset}
use Rattle.site_base.specs.Configured.{Configured}
use Rattle.written_site.proofs.WorkedRows.{diesel, known_site, flowing, t1, t2, d1, d2, point, sale}
use Rattle.written_site.proofs.WorkedRows.{payable, AreAnswered}
use Rattle.written_site.proofs.WorkedReplies.{answered, kit}

-- a dispenser goes offline in the middle of a fuelling: sold as far as it was metered; the next
-- lift needs the last reading
offline : AreAnswered known_site
    (flowing ++
    d1 (Offline 1) (Ok (Sold 1 0))
    ∷ t1 (ReadTransaction 1 (sale 1)) (Ok (TransactionIs (payable 1500 5000 750 1)))
    ∷ t1 (ReadPoint 1) (Ok (PointIs (point Inoperative None)))
    ∷ d1 (Online 1) (Ok Done)
    ∷ t1 (Open 1) (Ok Done)
    ∷ d1 (Lift 1 1 5003) (Err (MeterGap 5000))
    ∷ d1 (Lift 1 1 5000) (Ok Calling)
    ∷ d1 (HangUp 1 1 5003) (Err (MeterGap 5000))
    ∷ d1 (HangUp 1 1 5000) (Ok HungUp)
    ∷ [])
offline = answered (simp kit)

-- a terminated fuelling takes the flow that still comes, and can't be resumed
terminated : AreAnswered known_site
    (flowing ++
    t2 SignOn (Ok Done)
    ∷ t1 (Terminate 1) (Ok answers.Ending)
    ∷ t1 (ReadPoint 1) (Ok (PointIs (record (point SuspendedFuelling (Some 1)) {
      out = Some 1;
      ending = true;
      price = 1500;
      volume = 5000;
    })))
    ∷ t1 (Terminate 1) (Err Ending)
    ∷ t1 (Resume 1) (Err Ending)
    ∷ t2 (Resume 1) (Err (AssignedToOther 1))
    ∷ t2 (Terminate 1) (Err (AssignedToOther 1))
    ∷ t1 (Suspend 1) (Err (WrongState SuspendedFuelling))
    ∷ d1 (Flow 1 1 5040) (Ok (Flowed 40))
    ∷ d1 (HangUp 1 1 5040) (Ok (Sold 1 0))
    ∷ t1 (ReadTransaction 1 (sale 1)) (Ok (TransactionIs (payable 1500 5040 756 1)))
    ∷ [])
terminated = answered (simp kit)

-- suspended before fuel flowed and resumed: sold at the price of its start; any till may suspend
suspended : AreAnswered known_site
    (t1 SignOn (Ok Done)
    ∷ t2 SignOn (Ok Done)
    ∷ t1 (Open 1) (Ok Done)
    ∷ t1 (Release 1 Unset) (Ok Done)
    ∷ d1 (Lift 1 1 0) (Ok (Start Unset 1500))
    ∷ t2 (Suspend 1) (Ok Done)
    ∷ t2 (Suspend 1) (Err (WrongState SuspendedStarted))
    ∷ t2 (Resume 1) (Err (AssignedToOther 1))
    ∷ t1 (Resume 1) (Ok Done)
    ∷ t1 (Resume 1) (Err (WrongState Started))
    ∷ t1 (Suspend 1) (Ok Done)
    ∷ d1 (Flow 1 1 0) (Ok (Flowed 0))
    ∷ d1 (Flow 1 1 10) (Ok (Flowed 10))
    ∷ t1 (ReadPoint 1) (Ok (PointIs (record (point SuspendedFuelling (Some 1)) {
      out = Some 1;
      price = 1500;
      volume = 10;
    })))
    ∷ t1 (Resume 1) (Ok Done)
    ∷ d1 (HangUp 1 1 20000) (Ok (Sold 1 19990))
    ∷ t1 (ReadTransaction 1 (sale 1)) (Ok (TransactionIs (payable 1500 20000 3000 1)))
    ∷ [])
suspended = answered (simp kit)

-- what a meter may say while fuel flows, and what it may not
metered : AreAnswered known_site
    (flowing ++
    d1 (Flow 1 1 4999) (Err (MeterBack 5000))
    ∷ d1 (Flow 1 1 1005001) (Err MeterJump)
    ∷ d1 (HangUp 1 1 4999) (Err (MeterBack 5000))
    ∷ d1 (HangUp 1 1 1005001) (Err MeterJump)
    ∷ d1 (Flow 1 1 1005000) (Ok (Flowed 1000000))
    ∷ d1 (Flow 1 1 1005000) (Ok (Flowed 0))
    ∷ d1 (Flow 1 2 1000) (Err (WrongNozzle 1))
    ∷ d1 (Flow 1 2 0) (Err (WrongNozzle 1))
    ∷ d1 (HangUp 1 2 0) (Err (WrongNozzle 1))
    ∷ d1 (Flow 1 3 0) (Err NoSuchNozzle)
    ∷ d2 (Flow 1 1 1005000) (Err NotYourPoint)
    ∷ t1 (Open 6) (Err NoSuchPoint)
    ∷ d1 (Lift 1 3 0) (Err NoSuchNozzle)
    ∷ d1 (Lift 1 1 0) (Err (WrongState Fuelling))
    ∷ [])
metered = answered (simp kit)

-- a point whose meter reads 9 ml less than the most that it can
abbrev full_meter : Configured
full_meter = record {
  rows = 1000;
  managers = [];
  products = diesel 1500 ∷ [];
  points = record {
    number = 1;
    nozzles = record { product = 1; reading = 999999999990 } ∷ [];
  } ∷ [];
}

greatest_reading : AreAnswered full_meter
    (t1 SignOn (Ok Done)
    ∷ t1 (Open 1) (Ok Done)
    ∷ t1 (Release 1 Unset) (Ok Done)
    ∷ d1 (Lift 1 1 999999999990) (Ok (Start Unset 1500))
    ∷ d1 (Flow 1 1 999999999999) (Ok (Flowed 9))
    ∷ d1 (Flow 1 1 999999999999) (Ok (Flowed 0))
    ∷ d1 (HangUp 1 1 999999999999) (Ok (Sold 1 0))
    ∷ t1 (ReadTransaction 1 (sale 1)) (Ok (TransactionIs (payable 1500 9 1 1)))
    ∷ [])
greatest_reading = answered (simp kit)
