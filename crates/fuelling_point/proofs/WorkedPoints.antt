-- Worked events of one point, by computing the definitions: the price at a sale is that of the lift
-- or the release that started its fuelling; a test is drawn.
use Rattle.std.proofs.Common.{◌≡◌, List, [], ◌∷◌, Some, None, true, false, Result, Ok, Err, refl}
use Rattle.site_base.specs.declared.refusal.Refusal.{Refusal}
use Rattle.site_base.specs.declared.refusal.Refusal.TheVariants as refused
use Rattle.site_base.specs.declared.state.PointState.TheVariants.{Closed, Idle, Calling, Authorised}
use Rattle.site_base.specs.declared.state.PointState.TheVariants.{Started, Fuelling}
use Rattle.site_base.specs.declared.state.Preset.TheVariants.{Unset, Money}
use Rattle.fuelling_point.specs.declared.event.PointEvent.{PointEvent}
use Rattle.fuelling_point.specs.declared.event.PointEvent.TheVariants.{Online, Offline, Open, Lift}
use Rattle.fuelling_point.specs.declared.event.PointEvent.TheVariants.{Release, TestRelease}
use Rattle.fuelling_point.specs.declared.event.PointEvent.TheVariants.{ReplaceMeter, Suspend}
use Rattle.fuelling_point.specs.declared.event.PointEvent.TheVariants.{Resume, Terminate, Flow}
use Rattle.fuelling_point.specs.declared.event.PointEvent.TheVariants.{HangUp}
use Rattle.fuelling_point.specs.declared.step.PointStep.{PointStep}
use Rattle.fuelling_point.specs.declared.step.PointStep.TheVariants.{Moved, Calling, Start, Flowed}
use Rattle.fuelling_point.specs.declared.step.PointStep.TheVariants.{NoSale, Sold, Drawn, Stopped}
use Rattle.fuelling_point.specs.declared.step.PointStep.TheVariants.{Ending}
use Rattle.fuelling_point.specs.KeptPoints.{Facts, empty_point, point_view}
use Rattle.fuelling_point.specs.History.{reply_to, facts_after, facts_at_end}

-- what a point answers to these events, one after another
abbrev replies : List PointEvent → Facts → List (Result PointStep Refusal)
replies [] f = []
replies (event ∷ events) f = reply_to event f ∷ replies events (facts_after event f)

-- lifted at 1799 mills in idle, released in calling at 1650: sold at 1650
sold_at_the_price_of_the_release : replies
    (Open
    ∷ Lift 2 1000 1799
    ∷ Release Unset None 1000 1650
    ∷ Flow 2 5000
    ∷ Suspend
    ∷ Resume
    ∷ HangUp 2 40
    ∷ [])
    (empty_point Closed)
    ≡ Ok Moved
    ∷ Ok Calling
    ∷ Ok Moved
    ∷ Ok (Flowed 5000)
    ∷ Ok Moved
    ∷ Ok Moved
    ∷ Ok (Sold 2 5040 1650 None)
    ∷ []
sold_at_the_price_of_the_release = refl

-- released at 1650 mills in idle, lifted at 1799: sold at 1799
sold_at_the_price_of_the_lift : replies
    (Open
    ∷ Release Unset None 1000 1650
    ∷ Lift 2 1000 1799
    ∷ Flow 2 5000
    ∷ HangUp 2 40
    ∷ [])
    (empty_point Closed)
    ≡ Ok Moved
    ∷ Ok Moved
    ∷ Ok (Start Unset 1799)
    ∷ Ok (Flowed 5000)
    ∷ Ok (Sold 2 5040 1799 None)
    ∷ []
sold_at_the_price_of_the_lift = refl

-- a terminated fuelling takes flow until the nozzle is back, and isn't resumed
terminated_and_sold : replies
    (Open
    ∷ Release Unset None 1000 1650
    ∷ Lift 2 1000 1799
    ∷ Terminate
    ∷ Resume
    ∷ Flow 2 5000
    ∷ HangUp 2 40
    ∷ [])
    (empty_point Closed)
    ≡ Ok Moved
    ∷ Ok Moved
    ∷ Ok (Start Unset 1799)
    ∷ Ok Ending
    ∷ Err refused.Ending
    ∷ Ok (Flowed 5000)
    ∷ Ok (Sold 2 5040 1799 None)
    ∷ []
terminated_and_sold = refl

-- ---- tests

-- a test draws its fuel; a release after it is sold
drawn_and_then_sold : replies
    (Open
    ∷ TestRelease 0 1500
    ∷ Release Unset None 0 1500
    ∷ TestRelease 0 1500
    ∷ Lift 1 0 1500
    ∷ HangUp 1 20000
    ∷ Release Unset None 20000 1500
    ∷ Lift 1 20000 1500
    ∷ HangUp 1 10000
    ∷ [])
    (empty_point Closed)
    ≡ Ok Moved
    ∷ Ok Moved
    ∷ Err (refused.WrongState Authorised)
    ∷ Err (refused.WrongState Authorised)
    ∷ Ok (Start Unset 1500)
    ∷ Ok (Drawn 1 20000)
    ∷ Ok Moved
    ∷ Ok (Start Unset 1500)
    ∷ Ok (Sold 1 10000 1500 None)
    ∷ []
drawn_and_then_sold = refl

-- a test that starts in calling, is suspended, and draws what flowed in both reports
drawn_from_calling : replies
    (Open
    ∷ Lift 2 1000 1799
    ∷ TestRelease 1000 1799
    ∷ Flow 2 5000
    ∷ Suspend
    ∷ HangUp 2 40
    ∷ [])
    (empty_point Closed)
    ≡ Ok Moved
    ∷ Ok Calling
    ∷ Ok Moved
    ∷ Ok (Flowed 5000)
    ∷ Ok Moved
    ∷ Ok (Drawn 2 5040)
    ∷ []
drawn_from_calling = refl

-- a test without fuel draws nothing, and leaves no mark: what comes then is sold
test_without_fuel : replies
    (Open
    ∷ TestRelease 0 1500
    ∷ Lift 1 0 1500
    ∷ HangUp 1 0
    ∷ Release (Money 2000) (Some 2000) 0 1500
    ∷ Lift 1 0 1500
    ∷ HangUp 1 1
    ∷ [])
    (empty_point Closed)
    ≡ Ok Moved
    ∷ Ok Moved
    ∷ Ok (Start Unset 1500)
    ∷ Ok NoSale
    ∷ Ok Moved
    ∷ Ok (Start (Money 2000) 1500)
    ∷ Ok (Sold 1 1 1500 (Some 2000))
    ∷ []
test_without_fuel = refl

-- a test at 5000 goes offline: it draws what has flowed
test_lost : replies
    (Open
    ∷ TestRelease 0 1500
    ∷ Lift 1 0 1500
    ∷ Flow 1 5000
    ∷ Offline
    ∷ Online
    ∷ [])
    (empty_point Closed)
    ≡ Ok Moved
    ∷ Ok Moved
    ∷ Ok (Start Unset 1500)
    ∷ Ok (Flowed 5000)
    ∷ Ok (Drawn 1 5000)
    ∷ Ok Moved
    ∷ []
test_lost = refl

-- a test release that is taken back leaves no mark
test_taken_back : replies
    (Open
    ∷ TestRelease 0 1500
    ∷ Terminate
    ∷ Release Unset None 0 1500
    ∷ Lift 1 0 1500
    ∷ HangUp 1 1
    ∷ [])
    (empty_point Closed)
    ≡ Ok Moved
    ∷ Ok Moved
    ∷ Ok Stopped
    ∷ Ok Moved
    ∷ Ok (Start Unset 1500)
    ∷ Ok (Sold 1 1 1500 None)
    ∷ []
test_taken_back = refl

-- ---- meters are replaced at a point that is inoperative or closed

replaced_where_nothing_is_sold : replies
    (ReplaceMeter
    ∷ Offline
    ∷ ReplaceMeter
    ∷ Online
    ∷ Open
    ∷ ReplaceMeter
    ∷ Lift 1 0 1500
    ∷ ReplaceMeter
    ∷ TestRelease 0 1500
    ∷ ReplaceMeter
    ∷ Flow 1 5000
    ∷ ReplaceMeter
    ∷ [])
    (empty_point Closed)
    ≡ Ok Moved
    ∷ Ok Moved
    ∷ Ok Moved
    ∷ Ok Moved
    ∷ Ok Moved
    ∷ Err (refused.WrongState Idle)
    ∷ Ok Calling
    ∷ Err (refused.WrongState Calling)
    ∷ Ok Moved
    ∷ Err (refused.WrongState Started)
    ∷ Ok (Flowed 5000)
    ∷ Err (refused.WrongState Fuelling)
    ∷ []
replaced_where_nothing_is_sold = refl

-- ---- what a read shows of a test

-- the mark from the test release on
test_shown :
    point_view (facts_at_end (empty_point Closed) (Open ∷ TestRelease 0 1500 ∷ [])) (Some 1)
    ≡ record {
      state = Authorised;
      out = None;
      holder = Some 1;
      ending = false;
      test = true;
      preset = Unset;
      prepaid = None;
      price = 0;
      volume = 0;
    }
test_shown = refl

-- and none when it has drawn
no_test_shown : facts_at_end (empty_point Closed)
    (Open ∷ TestRelease 0 1500 ∷ Lift 1 0 1500 ∷ HangUp 1 20000 ∷ []) ≡ empty_point Idle
no_test_shown = refl
