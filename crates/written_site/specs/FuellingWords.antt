-- What rows say of fuellings: the nozzle that is out, today's prices, which row starts a fuelling
-- and which ends it, and how much flows in it.
use Rattle.std.specs.Prelude.{◌≡◌, ℕ, Bool, true, false, ◌&&◌, ◌||◌, ◌==◌, if◌then◌else◌, List, []}
use Rattle.std.specs.Prelude.{◌∷◌, ◌++◌, Option, option_and_then, Some, None, is_some, unwrap_or}
use Rattle.std.specs.Prelude.{Result, Ok, is_ok}
use Rattle.std.specs.List.{list_any}
use Rattle.site_base.specs.declared.answer.Answer.{Answer}
use Rattle.site_base.specs.declared.answer.Answer.TheVariants.{Calling, Start}
use Rattle.site_base.specs.declared.event.Event.{Event}
use Rattle.site_base.specs.declared.event.Event.TheVariants.{SetPrice, Offline, Lift, HangUp}
use Rattle.site_base.specs.declared.refusal.Refusal.{Refusal}
use Rattle.site_base.specs.declared.row.Row.{Row}
use Rattle.site_base.specs.Configured.{Configured}
use Rattle.site_base.specs.Events.{point_named, growth_in_reply}
use Rattle.site_base.specs.Prices.{prices_of}
use Rattle.site_base.specs.Table.{row_of}
use Rattle.meters.specs.Nozzles.{opening_nozzles, product_of}
use Rattle.written_site.specs.Histories.{Moment}
use Rattle.written_site.specs.Holders.{names_point}
use Rattle.written_site.specs.RowWords.{last_said, latest, total}
use Rattle.written_site.specs.SaleWords.{release_of}

-- ---- the nozzle that is out

-- what such an event, once accepted, says of the nozzle that is out at the point: a Lift takes it
-- out, a HangUp puts it back, and an Offline forgets it
abbrev pub nozzle_said : ℕ → Event → Option (Option ℕ)
nozzle_said p (Lift q n reading) = if q == p then Some (Some n) else None
nozzle_said p (HangUp q n reading) = if q == p then Some None else None
nozzle_said p (Offline q) = if q == p then Some None else None
nozzle_said p event = None

abbrev pub nozzle_of_row : ℕ → Row → Option (Option ℕ)
nozzle_of_row p r = if is_ok r.reply then nozzle_said p r.event else None

-- the nozzle of the point's last accepted Lift, unless a HangUp or an Offline followed it
abbrev pub nozzle_after : ℕ → List Row → Option ℕ
nozzle_after p rows = unwrap_or (latest (nozzle_of_row p) rows) None

abbrev pub tells_calling : Result Answer Refusal → Bool
tells_calling (Ok Calling) = true
tells_calling reply = false

abbrev pub tells_start : Result Answer Refusal → Bool
tells_start (Ok (Start preset price)) = true
tells_start reply = false

-- whether the point calls after such an event, once accepted with this reply
abbrev pub calling_said : ℕ → Event → Result Answer Refusal → Option Bool
calling_said p (Lift q n reading) reply = if q == p then Some (tells_calling reply) else None
calling_said p (HangUp q n reading) reply = if q == p then Some false else None
calling_said p (Offline q) reply = if q == p then Some false else None
calling_said p event reply = None

abbrev pub calling_of_row : ℕ → Row → Option Bool
calling_of_row p r = if is_ok r.reply then calling_said p r.event r.reply else None

-- the point's last accepted Lift was answered Calling, and neither a HangUp nor an Offline followed
-- it
abbrev pub calls_after : ℕ → List Row → Bool
calls_after p rows = unwrap_or (latest (calling_of_row p) rows) false

-- ---- prices

-- the price that such an event, once accepted, gives the product
abbrev pub price_said : ℕ → Event → Option ℕ
price_said q (SetPrice r price) = if r == q then Some price else None
price_said q event = None

abbrev pub price_of_row : ℕ → Row → Option ℕ
price_of_row q r = if is_ok r.reply then price_said q r.event else None

-- the price of the product's last accepted SetPrice, else the configured one
abbrev pub price_after : Configured → ℕ → List Row → Option ℕ
price_after c q rows = last_said (row_of q (prices_of c.products)) (latest (price_of_row q) rows)

-- the product of nozzle n of point p, as configured
abbrev pub product_at : Configured → ℕ → ℕ → Option ℕ
product_at c p n = product_of p n (opening_nozzles c)

-- the price of that nozzle's product. A nozzle without a product that has a price, which no site
-- file configures, delivers at the least price.
abbrev pub price_read : Configured → ℕ → ℕ → List Row → ℕ
price_read c p n rows = unwrap_or (option_and_then (λ q. price_after c q rows) (product_at c p n)) 1

-- ---- a fuelling

-- a Lift of the point that is told to start
abbrev pub is_started : ℕ → Event → Result Answer Refusal → Bool
is_started p (Lift q n reading) reply = q == p && tells_start reply
is_started p event reply = false

-- a moment starts a fuelling of the point: by a Lift that is answered Start, or by an accepted
-- Release, Prepay or TestRelease while the point calls
abbrev pub starts : ℕ → Moment → Bool
starts p m =
    is_started p m.row.event m.row.reply
    || (is_some (release_of p m.row) && calls_after p m.earlier)

-- the event is the point's HangUp or Offline
abbrev pub end_said : ℕ → Event → Bool
end_said p (HangUp q n reading) = q == p
end_said p (Offline q) = q == p
end_said p event = false

-- an accepted HangUp or Offline of the point
abbrev pub ends_at : ℕ → Moment → Bool
ends_at p m = is_ok m.row.reply && end_said p m.row.event

-- the millilitres that a moment tells to have flowed at the point
abbrev pub growth_at : ℕ → Moment → ℕ
growth_at p m = if names_point p (point_named m.row.event) then growth_in_reply m.row.reply else 0

-- A fuelling of point p goes on at the end of these moments: one of them started it, and none since
-- has ended it. This nozzle was out as it started, the price is the one that its product had
-- before, and so much has flowed since.
pub record HasFuelling (c : Configured) (p : ℕ) (moments : List Moment) (nozzle price volume : ℕ)
    : Type 0 where
  pub before : List Moment
  pub start : Moment
  pub since : List Moment
  pub parts : moments ≡ before ++ start ∷ since
  pub started : starts p start ≡ true
  pub goes_on : list_any (ends_at p) since ≡ false
  pub lifted : nozzle_after p (start.earlier ++ start.row ∷ []) ≡ Some nozzle
  pub priced : price ≡ price_read c p nozzle start.earlier
  pub flowed : volume ≡ total (growth_at p) since
