-- How much flows at a step that pumps.
use Rattle.std.specs.Prelude.{◌≡◌, ℕ, ◌+◌, ◌<◌, ◌≤◌, Bool, true, false, Option, None, Some}
use Rattle.site_base.specs.declared.amounts.TheConstants.{GREATEST_PRICE}
use Rattle.site_base.specs.declared.amounts.TheConstants.{GREATEST_READING}
use Rattle.site_base.specs.declared.state.PointState.{PointState}
use Rattle.site_base.specs.declared.state.PointState.TheVariants.{Started, SuspendedStarted}
use Rattle.site_base.specs.declared.state.PointState.TheVariants.{Fuelling, SuspendedFuelling}
use Rattle.site_base.specs.declared.state.Preset.{Preset}
use Rattle.site_base.specs.declared.state.Preset.TheVariants.{Unset, Volume, Money}
use Rattle.site_base.specs.declared.view.PointView.{PointView}
use Rattle.site_base.specs.Amounts.{amount}

-- a fuelling is under way in this state: started, fuelling, or one of these suspended
abbrev pub is_under_way : PointState → Bool
is_under_way Started = true
is_under_way SuspendedStarted = true
is_under_way Fuelling = true
is_under_way SuspendedFuelling = true
is_under_way state = false

-- A volume is within a preset at a price: no more than the preset's volume, or for no more than its
-- money. A price is in its range; a fuelling under way shows no other.
abbrev pub IsWithin : Preset → ℕ → ℕ → Type 0
IsWithin Unset price volume = Unit {0}
IsWithin (Volume most) price volume = volume ≤ most
IsWithin (Money cents) price volume =
    1 ≤ price → price ≤ GREATEST_PRICE → amount volume price ≤ cents

-- so much more may flow at a point that is seen so: the preset of a fuelling under way allows it
abbrev pub IsAllowed : PointView → ℕ → Type 0
IsAllowed view flow =
    is_under_way view.state ≡ true → IsWithin view.preset view.price (view.volume + flow)

-- the same at a point that may not be there
abbrev pub IsAllowedAt : Option PointView → ℕ → Type 0
IsAllowedAt None flow = Unit {0}
IsAllowedAt (Some view) flow = IsAllowed view flow

-- The flow where so much was asked for, the meter reads this and the point is seen so: of the flows
-- that aren't above what was asked for, that the meter can count and that are allowed, the
-- greatest; 0 where none is.
pub record IsFlow (asked reading : ℕ) (seen : Option PointView) (flow : ℕ) : Type 0 where
  pub asked_for : flow ≤ asked
  pub readable : reading + flow ≤ GREATEST_READING
  pub allowed : 0 < flow → IsAllowedAt seen flow
  pub greatest : (more : ℕ) → more ≤ asked → reading + more ≤ GREATEST_READING
      → IsAllowedAt seen more → more ≤ flow

-- a preset lets no volume above this one through at this price, and each up to it
pub record IsMost (preset : Preset) (price most : ℕ) : Type 0 where
  pub within : (volume : ℕ) → volume ≤ most → IsWithin preset price volume
  pub greatest : (volume : ℕ) → IsWithin preset price volume → volume ≤ most

-- a preset lets each volume through at this price
abbrev pub IsFree : Preset → ℕ → Type 0
IsFree preset price = (volume : ℕ) → IsWithin preset price volume

-- there is room for so much more at a point that is seen so
pub record IsRoom (view : PointView) (room : ℕ) : Type 0 where
  pub within : (flow : ℕ) → 0 < flow → flow ≤ room → IsAllowed view flow
  pub greatest : (flow : ℕ) → IsAllowed view flow → flow ≤ room

-- nothing limits what flows at a point that is seen so
abbrev pub IsUnlimited : PointView → Type 0
IsUnlimited view = (flow : ℕ) → IsAllowed view flow
