-- The fields of a point: what they say of its delivery, and what is true of them.
use Rattle.std.specs.Prelude.{◌≡◌, ℕ, ◌≤◌, Bool, Option, Some, None, is_some}
use Rattle.site_base.specs.declared.amounts.TheConstants.{GREATEST_READING}
use Rattle.site_base.specs.declared.state.PointState.{PointState}
use Rattle.site_base.specs.declared.state.PointState.TheVariants.{Started, SuspendedStarted}
use Rattle.site_base.specs.declared.state.PointState.TheVariants.{Fuelling, SuspendedFuelling}
use Rattle.site_base.specs.declared.state.Preset.{Preset}
use Rattle.fuelling_point.specs.declared.delivery.Delivery.{Delivery}
use Rattle.fuelling_point.specs.KeptPoints.{Facts, is_under_way}
use Rattle.fuelling_point.specs.Whole.{IsWhole}

abbrev pub price_in : Option Delivery → ℕ
price_in None = 0
price_in (Some delivery) = delivery.price

abbrev pub start_in : Option Delivery → ℕ
start_in None = 0
start_in (Some delivery) = delivery.start

abbrev pub volume_in : Option Delivery → ℕ
volume_in None = 0
volume_in (Some delivery) = delivery.volume

-- what the fields of a point stand for
abbrev pub facts_of : PointState → Option ℕ → Bool → Bool → Preset → Option ℕ → Option Delivery
    → Facts
facts_of state out ending test preset prepaid delivery = record {
  state = state;
  out = out;
  ending = ending;
  test = test;
  preset = preset;
  prepaid = prepaid;
  price = price_in delivery;
  start = start_in delivery;
  volume = volume_in delivery;
}

-- the point is whole; a delivery is kept where a fuelling is under way, and its volume is in range
pub record AreWhole (state : PointState) (out : Option ℕ) (ending test : Bool) (preset : Preset)
    (prepaid : Option ℕ) (delivery : Option Delivery) : Type 0 where
  pub whole : IsWhole (facts_of state out ending test preset prepaid delivery)
  pub under_way : is_some delivery ≡ is_under_way state
  pub in_range : volume_in delivery ≤ GREATEST_READING

-- a fuelling in this state, suspended
abbrev pub suspend_state : PointState → PointState
suspend_state Started = SuspendedStarted
suspend_state Fuelling = SuspendedFuelling
suspend_state state = state

-- a suspended fuelling in this state that goes on
abbrev pub resume_state : PointState → PointState
resume_state SuspendedStarted = Started
resume_state SuspendedFuelling = Fuelling
resume_state state = state

-- a fuelling in this state once fuel has flowed
abbrev pub flow_state : PointState → PointState
flow_state Started = Fuelling
flow_state SuspendedStarted = SuspendedFuelling
flow_state state = state
