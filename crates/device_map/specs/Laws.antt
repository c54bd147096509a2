-- What holds of requests by their definitions.
use Rattle.std.specs.Prelude.{◌≡◌, ℕ, ◌<◌, ◌^◌, nat_lt, nat_le, Bool, true, false, ◌&&◌}
use Rattle.std.specs.Prelude.{Option, Some, None, Ok}
use Rattle.site_base.specs.declared.limits.TheConstants.{TILLS, POINTS, NOZZLES, PRODUCTS}
use Rattle.site_base.specs.declared.numbers.TheConstants.{GREATEST_SHIFT}
use Rattle.site_base.specs.declared.amounts.TheConstants.{GREATEST_READING}
use Rattle.site_base.specs.declared.numbers.TheConstants.{GREATEST_SEQ}
use Rattle.site_base.specs.declared.actor.Actor.{Actor}
use Rattle.site_base.specs.declared.actor.Actor.TheVariants.{Till, Dispenser}
use Rattle.site_base.specs.declared.event.Event.{Event}
use Rattle.site_base.specs.declared.event.Event.TheVariants as events
use Rattle.site_base.specs.declared.sale.SaleId.{SaleId}
use Rattle.site_base.specs.declared.state.Preset.{Preset}
use Rattle.site_base.specs.declared.state.Preset.TheVariants.{Unset, Volume, Money}
use Rattle.site_base.specs.Ranges.{is_between}
use Rattle.site_base.specs.Events.{point_named, reported_by}
use Rattle.app_message.specs.Telegram.{Telegram}
use Rattle.app_message.specs.Spelling.{IsMessage}
use Rattle.device_map.specs.Requests.{request_at}

-- the actor with a number in its range: a dispenser for what one reports, else a till
abbrev pub may_ask : Actor → Option ℕ → Bool
may_ask (Till t) None = is_between 1 TILLS t
may_ask (Dispenser d) (Some p) = is_between 1 POINTS d
may_ask actor reported = false

-- no point, or one that a site may have
abbrev pub is_point_if_named : Option ℕ → Bool
is_point_if_named None = true
is_point_if_named (Some p) = is_between 1 POINTS p

-- a preset that its item can tell
abbrev pub is_preset : Preset → Bool
is_preset Unset = true
is_preset (Volume millilitres) = nat_lt millilitres (2 ^ 32)
is_preset (Money cents) = nat_lt cents (2 ^ 32)

-- a nozzle that a point may have, and a reading of its meter
abbrev pub is_meter : ℕ → ℕ → Bool
is_meter n reading = is_between 1 NOZZLES n && nat_le reading GREATEST_READING

-- no shift, or one that there may be
abbrev pub is_shift_if_named : Option ℕ → Bool
is_shift_if_named None = true
is_shift_if_named (Some shift) = is_between 1 GREATEST_SHIFT shift

-- a sale that there may be
abbrev pub is_sale : SaleId → Bool
is_sale sale = is_shift_if_named sale.shift && is_between 1 GREATEST_SEQ sale.seq

-- what an event carries beside its point is in range
abbrev pub is_carried : Event → Bool
is_carried (events.Release p preset) = is_preset preset
is_carried (events.Prepay p cents) = nat_lt cents (2 ^ 32)
is_carried (events.ReplaceMeter p n reading) = is_meter n reading
is_carried (events.Lock p sale) = is_sale sale
is_carried (events.Unlock p sale) = is_sale sale
is_carried (events.Clear p sale) = is_sale sale
is_carried (events.ReadTransaction p sale) = is_sale sale
is_carried (events.SetPrice q price) = is_between 1 PRODUCTS q && nat_lt price (2 ^ 32)
is_carried (events.ReadProduct q) = is_between 1 PRODUCTS q
is_carried (events.Lift p n reading) = is_meter n reading
is_carried (events.Flow p n reading) = is_meter n reading
is_carried (events.HangUp p n reading) = is_meter n reading
is_carried event = true

-- each number of an event is in its range
abbrev pub is_in_range : Event → Bool
is_in_range event = is_point_if_named (point_named event) && is_carried event

-- an event with an actor of its own kind, each with its numbers in range
abbrev pub is_own : Actor → Event → Bool
is_own actor event = may_ask actor (reported_by event) && is_in_range event

-- a message that can be spelled, with this token, and asks for the event of the actor
pub record AsksFor (token : ℕ) (actor : Actor) (event : Event) (m : Telegram) : Type 0 where
  pub message : IsMessage m
  pub told : m.token ≡ token
  pub asks : request_at m ≡ Ok (actor, event)

-- one message asks so, and no other
pub record HasOneRequest (token : ℕ) (actor : Actor) (event : Event) : Type 0 where
  pub request : Telegram
  pub there : AsksFor token actor event request
  pub alone : (m : Telegram) → AsksFor token actor event m → m ≡ request

-- for each token, each event with an actor of its own kind has one request
abbrev pub IsOneRequest : Type 0
IsOneRequest = (token : ℕ) (actor : Actor) (event : Event) → token < 32 → is_own actor event ≡ true
    → HasOneRequest token actor event
