-- What an event speaks of, who asks for it, and what a reply tells of money and fuel. Each word on
-- events stands here once; sites, mappings, books and shares read it.
use Rattle.std.specs.Prelude.{ℕ, Bool, true, false, Option, Some, None, Result, Ok}
use Rattle.site_base.specs.declared.answer.Answer.{Answer}
use Rattle.site_base.specs.declared.answer.Answer.TheVariants.{Flowed, Sold, Drawn, Cleared}
use Rattle.site_base.specs.declared.event.Event.{Event}
use Rattle.site_base.specs.declared.event.Event.TheVariants.{SignOn, SignOff, Open, Close, Assign}
use Rattle.site_base.specs.declared.event.Event.TheVariants.{Unassign, Release, Prepay, TestRelease}
use Rattle.site_base.specs.declared.event.Event.TheVariants.{Suspend, Resume, Terminate}
use Rattle.site_base.specs.declared.event.Event.TheVariants.{ReplaceMeter, ReadPoint, Lock, Unlock}
use Rattle.site_base.specs.declared.event.Event.TheVariants.{Clear, ReadTransaction, SetPrice}
use Rattle.site_base.specs.declared.event.Event.TheVariants.{ReadProduct, CloseShift, ReadSite}
use Rattle.site_base.specs.declared.event.Event.TheVariants.{Online, Offline, Lift, Flow, HangUp}
use Rattle.site_base.specs.declared.refusal.Refusal.{Refusal}
use Rattle.site_base.specs.declared.sale.SaleId.{SaleId}

-- the fuelling point that an event names
abbrev pub point_named : Event → Option ℕ
point_named SignOn = None
point_named SignOff = None
point_named (Open p) = Some p
point_named (Close p) = Some p
point_named (Assign p) = Some p
point_named (Unassign p) = Some p
point_named (Release p preset) = Some p
point_named (Prepay p cents) = Some p
point_named (TestRelease p) = Some p
point_named (Suspend p) = Some p
point_named (Resume p) = Some p
point_named (Terminate p) = Some p
point_named (ReplaceMeter p n reading) = Some p
point_named (ReadPoint p) = Some p
point_named (Lock p s) = Some p
point_named (Unlock p s) = Some p
point_named (Clear p s) = Some p
point_named (ReadTransaction p s) = Some p
point_named (SetPrice q price) = None
point_named (ReadProduct q) = None
point_named CloseShift = None
point_named ReadSite = None
point_named (Online p) = Some p
point_named (Offline p) = Some p
point_named (Lift p n reading) = Some p
point_named (Flow p n reading) = Some p
point_named (HangUp p n reading) = Some p

-- the nozzle of that point that an event names
abbrev pub nozzle_named : Event → Option ℕ
nozzle_named (ReplaceMeter p n reading) = Some n
nozzle_named (Lift p n reading) = Some n
nozzle_named (Flow p n reading) = Some n
nozzle_named (HangUp p n reading) = Some n
nozzle_named event = None

-- the transaction of that point that an event names
abbrev pub sale_named : Event → Option SaleId
sale_named (Lock p s) = Some s
sale_named (Unlock p s) = Some s
sale_named (Clear p s) = Some s
sale_named (ReadTransaction p s) = Some s
sale_named event = None

-- the product that an event names
abbrev pub product_named : Event → Option ℕ
product_named (SetPrice q price) = Some q
product_named (ReadProduct q) = Some q
product_named event = None

-- the reading of a meter that an event carries
abbrev pub reading_carried : Event → Option ℕ
reading_carried (ReplaceMeter p n reading) = Some reading
reading_carried (Lift p n reading) = Some reading
reading_carried (Flow p n reading) = Some reading
reading_carried (HangUp p n reading) = Some reading
reading_carried event = None

-- the point whose dispenser reports an event; none for what a till asks
abbrev pub reported_by : Event → Option ℕ
reported_by (Online p) = Some p
reported_by (Offline p) = Some p
reported_by (Lift p n reading) = Some p
reported_by (Flow p n reading) = Some p
reported_by (HangUp p n reading) = Some p
reported_by event = None

-- the event is for a point that no other till holds
abbrev pub needs_free_point : Event → Bool
needs_free_point (Open p) = true
needs_free_point (Close p) = true
needs_free_point (Assign p) = true
needs_free_point (Unassign p) = true
needs_free_point (Release p preset) = true
needs_free_point (Prepay p cents) = true
needs_free_point (TestRelease p) = true
needs_free_point (Resume p) = true
needs_free_point (Terminate p) = true
needs_free_point event = false

-- the event is for managers alone
abbrev pub needs_manager : Event → Bool
needs_manager (TestRelease p) = true
needs_manager (ReplaceMeter p n reading) = true
needs_manager (SetPrice q price) = true
needs_manager CloseShift = true
needs_manager event = false

-- the event, once accepted, is a change that the dispenser of its point is told of
abbrev pub has_change : Event → Bool
has_change (Open p) = true
has_change (Close p) = true
has_change (Release p preset) = true
has_change (Prepay p cents) = true
has_change (TestRelease p) = true
has_change (Suspend p) = true
has_change (Resume p) = true
has_change (Terminate p) = true
has_change event = false

-- the millilitres that a reply adds to what was metered
abbrev pub growth_in_reply : Result Answer Refusal → ℕ
growth_in_reply (Ok (Flowed growth)) = growth
growth_in_reply (Ok (Sold seq growth)) = growth
growth_in_reply (Ok (Drawn growth)) = growth
growth_in_reply reply = 0

-- the cents that a reply clears
abbrev pub cents_in_reply : Result Answer Refusal → ℕ
cents_in_reply (Ok (Cleared cents)) = cents
cents_in_reply reply = 0
