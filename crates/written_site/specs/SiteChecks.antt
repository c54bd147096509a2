-- The first refusal: the checks of an event in their order, of which the first that fails decides.
use Rattle.std.specs.Prelude.{◌≡◌, ℕ, Bool, true, false, not, ◌&&◌, Option, Some, None, is_none}
use Rattle.std.specs.Prelude.{is_some, ◌==◌, nat_lt, if◌then◌else◌}
use Rattle.site_base.specs.declared.actor.Actor.{Actor}
use Rattle.site_base.specs.declared.actor.Actor.TheVariants.{Till, Dispenser}
use Rattle.site_base.specs.declared.event.Event.{Event}
use Rattle.site_base.specs.declared.event.Event.TheVariants.{SignOn, SignOff, Open, Close, Assign}
use Rattle.site_base.specs.declared.event.Event.TheVariants.{Unassign, Release, Prepay, TestRelease}
use Rattle.site_base.specs.declared.event.Event.TheVariants.{Suspend, Resume, Terminate}
use Rattle.site_base.specs.declared.event.Event.TheVariants.{ReplaceMeter, ReadPoint, Lock, Unlock}
use Rattle.site_base.specs.declared.event.Event.TheVariants.{Clear, ReadTransaction, SetPrice}
use Rattle.site_base.specs.declared.event.Event.TheVariants.{ReadProduct, CloseShift, ReadSite}
use Rattle.site_base.specs.declared.event.Event.TheVariants.{Online, Offline, Lift, Flow, HangUp}
use Rattle.site_base.specs.declared.state.TheConstants.{GREATEST_PRESET}
use Rattle.site_base.specs.declared.amounts.TheConstants.{GREATEST_PRICE}
use Rattle.meters.specs.declared.meter.TheConstants.{REPLACEMENT_LIMIT}
use Rattle.site_base.specs.declared.numbers.TheConstants.{GREATEST_SHIFT}
use Rattle.transaction_buffer.specs.declared.shelf.TheConstants.{UNPAID_LIMIT}
use Rattle.site_base.specs.declared.refusal.Refusal.{Refusal}
use Rattle.site_base.specs.declared.refusal.Refusal.TheVariants.{NotSignedOn, SignedOn, NoSuchPoint}
use Rattle.site_base.specs.declared.refusal.Refusal.TheVariants.{NoSuchNozzle, NoSuchProduct}
use Rattle.site_base.specs.declared.refusal.Refusal.TheVariants.{NoSuchTransaction, NotManager}
use Rattle.site_base.specs.declared.refusal.Refusal.TheVariants.{BadPrice, BadPreset}
use Rattle.site_base.specs.declared.refusal.Refusal.TheVariants.{AssignedToOther, NotYours}
use Rattle.site_base.specs.declared.refusal.Refusal.TheVariants.{NotYourPoint, BufferFull}
use Rattle.site_base.specs.declared.refusal.Refusal.TheVariants.{SequenceSpent, ShiftsSpent}
use Rattle.site_base.specs.declared.refusal.Refusal.TheVariants.{MeterSpent}
use Rattle.site_base.specs.declared.sale.SaleId.{SaleId}
use Rattle.site_base.specs.declared.state.PointState.{PointState}
use Rattle.site_base.specs.declared.state.PointState.TheVariants.{Calling}
use Rattle.site_base.specs.declared.state.Preset.{Preset}
use Rattle.site_base.specs.declared.state.Preset.TheVariants.{Unset, Volume, Money}
use Rattle.site_base.specs.Checks.{◌or_else◌, unless}
use Rattle.site_base.specs.Ranges.{is_between}
use Rattle.site_base.specs.Table.{row_of}
use Rattle.site_base.specs.Events.{point_named, nozzle_named, sale_named, product_named}
use Rattle.site_base.specs.Events.{reported_by, needs_free_point, needs_manager}
use Rattle.fuelling_point.specs.declared.event.PointEvent.{PointEvent}
use Rattle.fuelling_point.specs.declared.event.PointEvent.TheVariants as points
use Rattle.fuelling_point.specs.PointChecks as machine
use Rattle.meters.specs.declared.report.Report.{Report}
use Rattle.meters.specs.declared.report.Report.TheVariants.{Still, Growing}
use Rattle.meters.specs.Nozzles.{has_nozzle, reading_of, times_replaced}
use Rattle.meters.specs.Reports.{report_refusal, growth_of}
use Rattle.transaction_buffer.specs.declared.request.Request.{Request}
use Rattle.transaction_buffer.specs.declared.request.Request.TheVariants as requests
use Rattle.transaction_buffer.specs.Sales.{Key, has_sale, next_number, unpaid_at}
use Rattle.transaction_buffer.specs.TransactionTable as transactions
use Rattle.written_site.specs.SiteState.{SiteState, is_signed_on, is_manager, has_point, facts_of}
use Rattle.written_site.specs.SiteState.{holder_of, open_shift, key_named, price_at_start}
use Rattle.written_site.specs.SiteState.{reading_at_start}

-- a release of point p within this preset, which may be prepaid: a fuelling that it starts is of
-- the nozzle that is out
abbrev pub release_at : SiteState → ℕ → Preset → Option ℕ → PointEvent
release_at s p preset prepaid =
    points.Release preset prepaid (reading_at_start s p (facts_of s p).out)
    (price_at_start s p (facts_of s p).out)

-- a release of point p for a test
abbrev pub test_release_at : SiteState → ℕ → PointEvent
test_release_at s p = points.TestRelease (reading_at_start s p (facts_of s p).out)
    (price_at_start s p (facts_of s p).out)

-- nozzle n of point p is taken out
abbrev pub lift_at : SiteState → ℕ → ℕ → PointEvent
lift_at s p n = points.Lift n (reading_at_start s p (Some n)) (price_at_start s p (Some n))

-- what has flowed by nozzle n of point p since its last reading, where it reads this
abbrev pub flow_since : SiteState → ℕ → ℕ → ℕ → ℕ
flow_since s p n reading = growth_of (reading_of p n s.nozzles) reading

-- what an event is to the point that it names; none where it is nothing to a point
abbrev pub own_event : SiteState → Event → Option (ℕ × PointEvent)
own_event s SignOn = None
own_event s SignOff = None
own_event s (Open p) = Some (p, points.Open)
own_event s (Close p) = Some (p, points.Close)
own_event s (Assign p) = Some (p, points.Assign)
own_event s (Unassign p) = Some (p, points.Unassign)
own_event s (Release p preset) = Some (p, release_at s p preset None)
own_event s (Prepay p cents) = Some (p, release_at s p (Money cents) (Some cents))
own_event s (TestRelease p) = Some (p, test_release_at s p)
own_event s (Suspend p) = Some (p, points.Suspend)
own_event s (Resume p) = Some (p, points.Resume)
own_event s (Terminate p) = Some (p, points.Terminate)
own_event s (ReplaceMeter p n reading) = Some (p, points.ReplaceMeter)
own_event s (ReadPoint p) = None
own_event s (Lock p id) = None
own_event s (Unlock p id) = None
own_event s (Clear p id) = None
own_event s (ReadTransaction p id) = None
own_event s (SetPrice q price) = None
own_event s (ReadProduct q) = None
own_event s CloseShift = None
own_event s ReadSite = None
own_event s (Online p) = Some (p, points.Online)
own_event s (Offline p) = Some (p, points.Offline)
own_event s (Lift p n reading) = Some (p, lift_at s p n)
own_event s (Flow p n reading) = Some (p, points.Flow n (flow_since s p n reading))
own_event s (HangUp p n reading) = Some (p, points.HangUp n (flow_since s p n reading))

-- this very point
abbrev pub is_point : ℕ → Option ℕ → Bool
is_point d None = false
is_point d (Some p) = p == d

-- a till signs on once, and asks nothing else before
abbrev pub signing : SiteState → Actor → Event → Option Refusal
signing s (Till t) SignOn = unless (not (is_signed_on s t)) SignedOn
signing s (Till t) event = unless (is_signed_on s t) NotSignedOn
signing s (Dispenser d) event = None

-- a point that is named is there
abbrev pub is_there : SiteState → Option ℕ → Option Refusal
is_there s None = None
is_there s (Some p) = unless (has_point s p) NoSuchPoint

-- a nozzle that is named is there, at the point that is named
abbrev pub is_nozzle_there : SiteState → Option ℕ → Option ℕ → Option Refusal
is_nozzle_there s (Some p) (Some n) = unless (has_nozzle p n s.nozzles) NoSuchNozzle
is_nozzle_there s point nozzle = None

-- a product that is named is there
abbrev pub is_product_there : SiteState → Option ℕ → Option Refusal
is_product_there s None = None
is_product_there s (Some q) = unless (is_some (row_of q s.prices)) NoSuchProduct

-- a transaction that is named is there, at the point that is named
abbrev pub is_sale_there : SiteState → Option ℕ → Option SaleId → Option Refusal
is_sale_there s (Some p) (Some id) = unless (has_sale (key_named s p id) s.sales) NoSuchTransaction
is_sale_there s point sale = None

-- the numbers that the event names are there
abbrev pub numbers : SiteState → Event → Option Refusal
numbers s event =
    is_there s (point_named event)
    or_else is_nozzle_there s (point_named event) (nozzle_named event)
    or_else is_product_there s (product_named event)
    or_else is_sale_there s (point_named event) (sale_named event)

-- a till asks what tills ask, a dispenser reports of its own point
abbrev pub own_kind : Actor → Event → Option Refusal
own_kind (Till t) event = unless (is_none (reported_by event)) NotYourPoint
own_kind (Dispenser d) event = unless (is_point d (reported_by event)) NotYourPoint

-- what is for managers alone is asked by one
abbrev pub managing : SiteState → Actor → Event → Option Refusal
managing s (Till t) event = if needs_manager event then unless (is_manager s t) NotManager else None
managing s (Dispenser d) event = None

-- a price that a product is given is in range
abbrev pub pricing : Event → Option Refusal
pricing (SetPrice q price) = unless (is_between 1 GREATEST_PRICE price) BadPrice
pricing event = None

-- a volume or a sum of money that a release may be limited to
abbrev pub is_preset : Preset → Bool
is_preset Unset = true
is_preset (Volume millilitres) = is_between 1 GREATEST_PRESET millilitres
is_preset (Money cents) = is_between 1 GREATEST_PRESET cents

-- a preset or a prepayment is in range
abbrev pub presets : Event → Option Refusal
presets (Release p preset) = unless (is_preset preset) BadPreset
presets (Prepay p cents) = unless (is_preset (Money cents)) BadPreset
presets event = None

-- no other till is the holder
abbrev pub free_for : ℕ → Option ℕ → Option Refusal
free_for t None = None
free_for t (Some holder) = unless (holder == t) (AssignedToOther holder)

-- the till that holds the point that is named
abbrev pub holder_named : SiteState → Option ℕ → Option ℕ
holder_named s None = None
holder_named s (Some p) = holder_of s p

-- a manager may terminate any point
abbrev pub is_exempt : SiteState → ℕ → Event → Bool
is_exempt s t (Terminate p) = is_manager s t
is_exempt s t event = false

-- the till's event is for a point that no other till holds
abbrev pub asks_free_point : SiteState → ℕ → Event → Bool
asks_free_point s t event = needs_free_point event && not (is_exempt s t event)

-- no other till holds the point, where a till's event is for one that no other holds
abbrev pub not_held : SiteState → Actor → Event → Option Refusal
not_held s (Till t) event = if asks_free_point s t event then free_for t
    (holder_named s (point_named event)) else None
not_held s (Dispenser d) event = None

-- why the point refuses what the event is to it
abbrev pub point_refusal : SiteState → Option (ℕ × PointEvent) → Option Refusal
point_refusal s None = None
point_refusal s (Some e) = machine.refusal_of e.1 (facts_of s e.0)

-- the point takes the event
abbrev pub at_point : SiteState → Event → Option Refusal
at_point s event = point_refusal s (own_event s event)

-- what is given back is held
abbrev pub is_held : SiteState → Event → Option Refusal
is_held s (Unassign p) = unless (is_some (holder_of s p)) NotYours
is_held s event = None

-- the point may make one more sale: fewer than two are unpaid, and the shift that is open now has a
-- number for it (a later one has all of its numbers)
abbrev pub may_sell : SiteState → ℕ → Option Refusal
may_sell s p =
    unless (nat_lt (unpaid_at p s.sales) UNPAID_LIMIT) BufferFull
    or_else unless (is_some (next_number p (open_shift s) s.sales)) SequenceSpent

-- a point that is released for a sale may make one
abbrev pub sale_room : SiteState → Event → Option Refusal
sale_room s (Release p preset) = may_sell s p
sale_room s (Prepay p cents) = may_sell s p
sale_room s event = None

-- what a nozzle that is put back may read: where its point only calls, no fuel has flowed
abbrev pub put_back_at : PointState → Report
put_back_at Calling = Still
put_back_at state = Growing

-- the meter agrees: a nozzle that is lifted, or put back where its point only calls, reads what it
-- read last; one that flows, or is put back after a fuelling, may have grown; and a meter is
-- replaced no more often than it may be
abbrev pub metering : SiteState → Event → Option Refusal
metering s (Lift p n reading) = report_refusal Still (reading_of p n s.nozzles) reading
metering s (Flow p n reading) = report_refusal Growing (reading_of p n s.nozzles) reading
metering s (HangUp p n reading) =
    report_refusal (put_back_at (facts_of s p).state) (reading_of p n s.nozzles) reading
metering s (ReplaceMeter p n reading) =
    unless (nat_lt (times_replaced p n s.nozzles) REPLACEMENT_LIMIT) MeterSpent
metering s event = None

-- what an event asks of a transaction, and the name of that transaction; a clear is made in the
-- open shift
abbrev pub sale_request : SiteState → Event → Option (Request × Key)
sale_request s (Lock p id) = Some (requests.Lock, key_named s p id)
sale_request s (Unlock p id) = Some (requests.Unlock, key_named s p id)
sale_request s (Clear p id) = Some (requests.Clear (open_shift s), key_named s p id)
sale_request s event = None

-- why the transaction refuses what till t asks of it
abbrev pub sale_refusal : SiteState → ℕ → Option (Request × Key) → Option Refusal
sale_refusal s t None = None
sale_refusal s t (Some asked) = transactions.refusal_of asked.0 t asked.1 s.sales

-- the transaction takes what the till asks of it
abbrev pub at_sale : SiteState → Actor → Event → Option Refusal
at_sale s (Till t) event = sale_refusal s t (sale_request s event)
at_sale s (Dispenser d) event = None

-- a shift that is closed isn't the last one
abbrev pub closing : SiteState → Event → Option Refusal
closing s CloseShift = unless (not (open_shift s == GREATEST_SHIFT)) ShiftsSpent
closing s event = None

-- the checks of who asks: it is signed on, what the event names is there, the event is the actor's
-- to ask, a manager asks what is for managers alone, a price and a preset are in range, and no
-- other till holds the point where the event is for one that no other holds
abbrev pub may_ask : SiteState → Actor → Event → Option Refusal
may_ask s actor event =
    signing s actor event
    or_else numbers s event
    or_else own_kind actor event
    or_else managing s actor event
    or_else pricing event
    or_else presets event
    or_else not_held s actor event

-- the checks of what is asked: the point takes the event, what is given back is held, a sale has
-- room, the meter agrees, the transaction takes what is asked of it, and there is a next shift
abbrev pub can_do : SiteState → Actor → Event → Option Refusal
can_do s actor event =
    at_point s event
    or_else is_held s event
    or_else sale_room s event
    or_else metering s event
    or_else at_sale s actor event
    or_else closing s event

-- the first check that fails
abbrev pub first_refusal : SiteState → Actor → Event → Option Refusal
first_refusal s actor event = may_ask s actor event or_else can_do s actor event

-- what is known of an accepted event: it has passed each check
pub record Passed (s : SiteState) (actor : Actor) (event : Event) : Type 0 where
  pub signs : signing s actor event ≡ None
  pub names : numbers s event ≡ None
  pub asks : own_kind actor event ≡ None
  pub manages : managing s actor event ≡ None
  pub prices : pricing event ≡ None
  pub limits : presets event ≡ None
  pub free : not_held s actor event ≡ None
  pub takes : at_point s event ≡ None
  pub holds : is_held s event ≡ None
  pub sells : sale_room s event ≡ None
  pub reads : metering s event ≡ None
  pub pays : at_sale s actor event ≡ None
  pub closes : closing s event ≡ None

-- an event that isn't refused has passed each check
abbrev pub PassesEachCheck : Type 0
PassesEachCheck = (s : SiteState) (actor : Actor) (event : Event)
    → first_refusal s actor event ≡ None → Passed s actor event
