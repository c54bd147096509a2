-- What is true of every point that began as a new one, whatever events it has had.
use Rattle.std.specs.Prelude.{◌≡◌, ◌≤◌, Bool, true, false, None, is_some}
use Rattle.site_base.specs.declared.state.PointState.{PointState}
use Rattle.site_base.specs.declared.state.PointState.TheVariants.{Authorised, SuspendedStarted}
use Rattle.site_base.specs.declared.state.PointState.TheVariants.{Fuelling, SuspendedFuelling}
use Rattle.site_base.specs.declared.state.Preset.TheVariants.{Unset}
use Rattle.fuelling_point.specs.KeptPoints.{Facts, is_under_way, has_nozzle_out}

-- a fuelling is under way, and fuel has flowed in it
abbrev pub has_flowed : PointState → Bool
has_flowed Fuelling = true
has_flowed SuspendedFuelling = true
has_flowed state = false

-- a fuelling is under way, and suspended
abbrev pub is_suspended : PointState → Bool
is_suspended SuspendedStarted = true
is_suspended SuspendedFuelling = true
is_suspended state = false

-- the point is released: it waits for a nozzle, or a fuelling is under way
abbrev pub is_released : PointState → Bool
is_released Authorised = true
is_released state = is_under_way state

-- a nozzle is kept just where one is out; so much has flowed as the state says, nothing or
-- something; only a suspended fuelling is ending; price and start reading are kept of a fuelling
-- under way alone, and preset, prepaid cents and the mark of a test from the release on; a test has
-- neither preset nor prepaid cents
pub record IsWhole (f : Facts) : Type 0 where
  pub nozzle : is_some f.out ≡ has_nozzle_out f.state
  pub nothing : has_flowed f.state ≡ false → f.volume ≡ 0
  pub something : has_flowed f.state ≡ true → 1 ≤ f.volume
  pub ending : is_suspended f.state ≡ false → f.ending ≡ false
  pub price : is_under_way f.state ≡ false → f.price ≡ 0
  pub start : is_under_way f.state ≡ false → f.start ≡ 0
  pub preset : is_released f.state ≡ false → f.preset ≡ Unset
  pub prepaid : is_released f.state ≡ false → f.prepaid ≡ None
  pub test : is_released f.state ≡ false → f.test ≡ false
  pub unlimited : f.test ≡ true → f.preset ≡ Unset
  pub unpaid : f.test ≡ true → f.prepaid ≡ None
