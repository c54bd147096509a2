-- What rows say of transactions: how they are named, who released the point that sold one, which
-- row sells, locks, unlocks or clears one.
use Rattle.std.specs.Prelude.{ℕ, Bool, true, false, ◌&&◌, ◌==◌, if◌then◌else◌, List, Option, Some}
use Rattle.std.specs.Prelude.{None, is_some, unwrap_or, Result, Ok, is_ok}
use Rattle.site_base.specs.declared.actor.Actor.{Actor}
use Rattle.site_base.specs.declared.actor.Actor.TheVariants.{Till}
use Rattle.site_base.specs.declared.answer.Answer.{Answer}
use Rattle.site_base.specs.declared.answer.Answer.TheVariants.{Sold}
use Rattle.site_base.specs.declared.event.Event.{Event}
use Rattle.site_base.specs.declared.event.Event.TheVariants.{SignOff, Release, Prepay, TestRelease}
use Rattle.site_base.specs.declared.event.Event.TheVariants.{Lock, Unlock, Clear}
use Rattle.site_base.specs.declared.refusal.Refusal.{Refusal}
use Rattle.site_base.specs.declared.row.Row.{Row}
use Rattle.site_base.specs.declared.sale.SaleId.{SaleId}
use Rattle.site_base.specs.Events.{point_named}
use Rattle.transaction_buffer.specs.Sales.{Key, key, same_key}
use Rattle.written_site.specs.Histories.{Moment}
use Rattle.written_site.specs.RowWords.{latest, on_after, open_after}

-- the name of the transaction of this point that a till calls so after these rows: where it says no
-- shift, one of the shift that is open
abbrev pub key_after : List Row → ℕ → SaleId → Key
key_after earlier p id = key (unwrap_or id.shift (open_after earlier)) p id.seq

-- ---- releases and sales

-- a release of a point: the till that released it, the cents where it is prepaid, and whether it is
-- for a test
pub record ToldRelease : Type 0 where
  pub till : ℕ
  pub prepaid : Option ℕ
  pub test : Bool

abbrev pub by_till : ℕ → Option ℕ → ToldRelease
by_till t prepaid = record { till = t; prepaid = prepaid; test = false }

abbrev pub for_test : ℕ → ToldRelease
for_test t = record { till = t; prepaid = None; test = true }

-- how such an event, once accepted, releases the point
abbrev pub release_said : ℕ → Actor → Event → Option ToldRelease
release_said p (Till t) (Release q preset) = if q == p then Some (by_till t None) else None
release_said p (Till t) (Prepay q cents) = if q == p then Some (by_till t (Some cents)) else None
release_said p (Till t) (TestRelease q) = if q == p then Some (for_test t) else None
release_said p actor event = None

-- an accepted Release, Prepay or TestRelease of the point
abbrev pub release_of : ℕ → Row → Option ToldRelease
release_of p r = if is_ok r.reply then release_said p r.actor r.event else None

-- how the point was released last, by these rows
abbrev pub release_after : ℕ → List Row → Option ToldRelease
release_after p earlier = latest (release_of p) earlier

-- the number under which a reply tells of a sale
abbrev pub number_sold : Result Answer Refusal → Option ℕ
number_sold (Ok (Sold number growth)) = Some number
number_sold reply = None

-- the name of the sale of a point that is told under this number after these rows: it is of the
-- shift that is open
abbrev pub key_sold : List Row → Option ℕ → Option ℕ → Option Key
key_sold earlier (Some p) (Some number) = Some (key (open_after earlier) p number)
key_sold earlier point number = None

-- the name of the transaction that a moment sells
abbrev pub sold_as : Moment → Option Key
sold_as m = key_sold m.earlier (point_named m.row.event) (number_sold m.row.reply)

-- ---- locks

-- the till for which the sale of a point that was released so is locked as it is made: of a prepaid
-- one the till that took the money, where it is signed on
abbrev pub locker_from : List Row → Option ToldRelease → Option ℕ
locker_from earlier None = None
locker_from earlier (Some release) =
    if is_some release.prepaid && on_after release.till earlier then Some release.till else None

-- the till for which a sale of this name locks transaction k
abbrev pub lock_sold : Key → List Row → Option Key → Option ℕ
lock_sold k earlier None = None
lock_sold k earlier (Some j) =
    if same_key k j then locker_from earlier (release_after j.point earlier) else None

-- the till for which such an event, once accepted with this reply, locks transaction k: a Lock for
-- the till that asks for it; any other, where it sells the transaction locked
abbrev pub lock_said : Key → List Row → Actor → Event → Result Answer Refusal → Option ℕ
lock_said k earlier (Till t) (Lock p id) reply =
    if same_key k (key_after earlier p id) then Some t else None
lock_said k earlier actor event reply =
    lock_sold k earlier (key_sold earlier (point_named event) (number_sold reply))

-- a moment locks transaction k for a till: by the till's accepted Lock, or as it sells it from a
-- point whose last accepted Release, Prepay or TestRelease is the Prepay of a till that is signed
-- on
abbrev pub locks_sale : Key → Moment → Option ℕ
locks_sale k m =
    if is_ok m.row.reply then lock_said k m.earlier m.row.actor m.row.event m.row.reply else None

-- such an event, once accepted, lets go what till t has locked
abbrev pub let_go_said : Key → ℕ → List Row → Actor → Event → Bool
let_go_said k t earlier (Till u) (Unlock p id) = u == t && same_key k (key_after earlier p id)
let_go_said k t earlier (Till u) SignOff = u == t
let_go_said k t earlier actor event = false

-- an accepted Unlock of transaction k by till t, or its accepted SignOff
abbrev pub lets_go : Key → ℕ → Moment → Bool
lets_go k t m = is_ok m.row.reply && let_go_said k t m.earlier m.row.actor m.row.event

-- such an event, once accepted, ends the lock that till t has of transaction k
abbrev pub lock_end_said : Key → ℕ → List Row → Actor → Event → Bool
lock_end_said k t earlier (Till u) (Unlock p id) = same_key k (key_after earlier p id)
lock_end_said k t earlier (Till u) (Clear p id) = same_key k (key_after earlier p id)
lock_end_said k t earlier (Till u) SignOff = u == t
lock_end_said k t earlier actor event = false

-- an accepted Unlock or Clear of transaction k, or an accepted SignOff of till t
abbrev pub ends_lock : Key → ℕ → Moment → Bool
ends_lock k t m = is_ok m.row.reply && lock_end_said k t m.earlier m.row.actor m.row.event

-- ---- clears

-- the till that such an event, once accepted, clears transaction k for
abbrev pub clear_said : Key → List Row → Actor → Event → Option ℕ
clear_said k earlier (Till t) (Clear p id) =
    if same_key k (key_after earlier p id) then Some t else None
clear_said k earlier actor event = None

-- the till that clears transaction k in a moment
abbrev pub clears_sale : Key → Moment → Option ℕ
clears_sale k m =
    if is_ok m.row.reply then clear_said k m.earlier m.row.actor m.row.event else None
