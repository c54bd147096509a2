-- What a fuelling point keeps, when it takes it, and when it forgets it.
use Rattle.std.specs.Prelude.{ℕ, ◌+◌, ◌≤◌, Bool, true, false, Option, Some, None, if◌then◌else◌}
use Rattle.site_base.specs.declared.amounts.TheConstants.{GREATEST_READING}
use Rattle.site_base.specs.declared.state.PointState.{PointState}
use Rattle.site_base.specs.declared.state.PointState.TheVariants.{Inoperative, Idle, Calling}
use Rattle.site_base.specs.declared.state.PointState.TheVariants.{Started, SuspendedStarted}
use Rattle.site_base.specs.declared.state.PointState.TheVariants.{Fuelling, SuspendedFuelling}
use Rattle.site_base.specs.declared.state.Preset.{Preset}
use Rattle.site_base.specs.declared.state.Preset.TheVariants.{Unset}
use Rattle.site_base.specs.declared.view.PointView.{PointView}
use Rattle.fuelling_point.specs.declared.event.PointEvent.{PointEvent}
use Rattle.fuelling_point.specs.declared.event.PointEvent.TheVariants.{Lift, Release, TestRelease}
use Rattle.fuelling_point.specs.declared.event.PointEvent.TheVariants.{Terminate, Flow, HangUp}
use Rattle.fuelling_point.specs.Table.{Move, stay, goes}

-- its state; the nozzle that is out; whether its fuelling is ending, and whether it is a test; the
-- preset and the prepaid cents of its release; and of its fuelling the price taken, the reading at
-- its start and the millilitres since
pub record Facts : Type 0 where
  pub state : PointState
  pub out : Option ℕ
  pub ending : Bool
  pub test : Bool
  pub preset : Preset
  pub prepaid : Option ℕ
  pub price : ℕ
  pub start : ℕ
  pub volume : ℕ

-- a point in this state that keeps nothing
abbrev pub empty_point : PointState → Facts
empty_point s = record {
  state = s;
  out = None;
  ending = false;
  test = false;
  preset = Unset;
  prepaid = None;
  price = 0;
  start = 0;
  volume = 0;
}

-- a fuelling is under way: it has started and isn't over
abbrev pub is_under_way : PointState → Bool
is_under_way Started = true
is_under_way SuspendedStarted = true
is_under_way Fuelling = true
is_under_way SuspendedFuelling = true
is_under_way state = false

-- a nozzle is out: the point calls, or a fuelling is under way
abbrev pub has_nozzle_out : PointState → Bool
has_nozzle_out Calling = true
has_nozzle_out state = is_under_way state

-- the price taken, 0 where no fuelling is under way
abbrev pub price_of : Facts → ℕ
price_of f = if is_under_way f.state then f.price else 0

-- the millilitres of the fuelling so far, 0 where none is under way
abbrev pub volume_of : Facts → ℕ
volume_of f = if is_under_way f.state then f.volume else 0

-- the reading at the start of the fuelling, where one is under way
abbrev pub start_of : Facts → Option ℕ
start_of f = if is_under_way f.state then Some f.start else None

-- the point as a read shows it, with the till that holds it
abbrev pub point_view : Facts → Option ℕ → PointView
point_view f holder = record {
  state = f.state;
  out = f.out;
  holder = holder;
  ending = f.ending;
  test = f.test;
  preset = f.preset;
  prepaid = f.prepaid;
  price = price_of f;
  volume = volume_of f;
}

-- the growth that an event hands in
abbrev pub growth_of : PointEvent → ℕ
growth_of (Flow nozzle growth) = growth
growth_of (HangUp nozzle growth) = growth
growth_of event = 0

-- the fuelling's volume with the growth handed in is one that a meter can show
abbrev pub FitsGrowth : PointEvent → Facts → Type 0
FitsGrowth (Flow nozzle growth) f = volume_of f + growth ≤ GREATEST_READING
FitsGrowth (HangUp nozzle growth) f = volume_of f + growth ≤ GREATEST_READING
FitsGrowth event f = Unit {0}

-- a fuelling that starts takes the price and the reading handed in, and no fuel has flowed
abbrev pub start_fuelling : Move → ℕ → ℕ → Facts → Facts
start_fuelling (goes Started) last price f = record f { price = price; start = last; volume = 0 }
start_fuelling move last price f = f

-- what the point keeps of an accepted event, before it forgets any
abbrev pub note_event : PointEvent → Move → Facts → Facts
note_event (Lift nozzle last price) move f =
    start_fuelling move last price (record f { out = Some nozzle })
note_event (Release preset prepaid last price) move f =
    start_fuelling move last price (record f { preset = preset; prepaid = prepaid })
note_event (TestRelease last price) move f =
    start_fuelling move last price (record f { preset = Unset; prepaid = None; test = true })
note_event Terminate move f = record f { ending = true }
note_event (Flow nozzle growth) move f = record f { volume = f.volume + growth }
note_event (HangUp nozzle growth) move f = record f { volume = f.volume + growth }
note_event event move f = f

-- a point that goes to inoperative or to idle forgets all that it kept
abbrev pub move_point : Move → Facts → Facts
move_point stay f = f
move_point (goes Inoperative) f = empty_point Inoperative
move_point (goes Idle) f = empty_point Idle
move_point (goes state) f = record f { state = state }
