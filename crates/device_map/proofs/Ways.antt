-- The way to each event: the kind of message, the database, the command and what it carries.
use Rattle.std.specs.Prelude.{Option, Some, None, length, ◌^◌, ◌&&◌, nat_lt}
use Rattle.std.proofs.Common.{◌≡◌, ℕ, Bool, true, false, List, [], ◌∷◌, Result, Ok, refl, sym}
use Rattle.std.proofs.Common.{◌==◌, ap, subst, ◌∙◌, rules}
use Rattle.std.proofs.lemmas.Bool.{and_parts}
use Rattle.site_base.specs.declared.limits.TheConstants.{POINTS, PRODUCTS}
use Rattle.site_base.specs.declared.actor.Actor.{Actor}
use Rattle.site_base.specs.declared.actor.Actor.TheVariants.{Till, Dispenser}
use Rattle.site_base.specs.declared.event.Event.{Event}
use Rattle.site_base.specs.declared.event.Event.TheVariants as events
use Rattle.site_base.specs.declared.sale.SaleId.{SaleId}
use Rattle.site_base.specs.declared.state.Preset.{Preset}
use Rattle.site_base.specs.Ranges.{is_between}
use Rattle.site_base.specs.Events.{point_named, reported_by}
use Rattle.app_message.specs.declared.kind.Kind.{Kind}
use Rattle.app_message.specs.declared.kind.Kind.TheVariants as kinds
use Rattle.app_message.specs.Telegram.{Entry, Rises, AreOctets}
use Rattle.device_map.specs.declared.address.Database.{Database}
use Rattle.device_map.specs.declared.address.Database.TheVariants.{Site, Point, Transaction}
use Rattle.device_map.specs.declared.address.Database.TheVariants.{Product}
use Rattle.device_map.specs.declared.decimal.SaleDigits.{SaleDigits}
use Rattle.device_map.specs.declared.ids.TheConstants as ids
use Rattle.device_map.specs.declared.fault.MapFault.{MapFault}
use Rattle.device_map.specs.declared.fault.MapFault.TheVariants.{BadNumber}
use Rattle.device_map.specs.Stages.{◌>>=◌}
use Rattle.device_map.specs.Commands.{Shape, bare, limited, prepaid, metered, of_sale, priced}
use Rattle.device_map.specs.Commands.{Command, commands, reading_of}
use Rattle.device_map.specs.Further.{items_end, preset_in, money_in, meter_in, sale_in}
use Rattle.device_map.specs.Further.{four_octets_in}
use Rattle.device_map.specs.Requests.{shape_of, plain_event, event_by, command_in, event_at}
use Rattle.device_map.specs.Laws.{may_ask, is_point_if_named, is_carried, is_in_range, is_sale}
use Rattle.device_map.specs.declared.way.Content.{Content}
use Rattle.device_map.specs.declared.way.Content.TheVariants.{Nothing, Limit, Payment, Meter}
use Rattle.device_map.specs.declared.way.Content.TheVariants.{Price}
use Rattle.device_map.specs.Ways.{asking, content_inside, content_items}
use Rattle.device_map.specs.Ways.{items_of, may_send, reading, sale_digits, way_at, way_to}
use Rattle.device_map.specs.Ways.{by_command}
use Rattle.device_map.proofs.Contents.{is_content, is_below}
use Rattle.device_map.proofs.Contents.{four_there, preset_there, money_there, meter_there}
use Rattle.device_map.proofs.Contents.{inside_back, nothing_back, preset_back, money_back}
use Rattle.device_map.proofs.Contents.{meter_back}
use Rattle.device_map.proofs.DecimalDigits.{sale_there, sale_back}
use Rattle.device_map.proofs.OneAddress.{IsAsked, sale_octets}
use Rattle.device_map.proofs.Results.{bind_ok, ok_is, passed, first_that, equal, none_of}

-- ---- what is so of each event's way: of most events the same, by computing

sale_asked : (p : ℕ) (sale : SaleId) → (is_between 1 POINTS p && is_sale sale) ≡ true
    → IsAsked (Transaction p (sale_digits sale))
sale_asked p sale own =
    ((and_parts (is_between 1 POINTS p) (is_sale sale) own).0, sale_octets sale.shift sale.seq)

pub asked_there : (event : Event) → is_in_range event ≡ true → IsAsked (way_to event).database
asked_there events.SignOn own = tt
asked_there events.SignOff own = tt
asked_there events.CloseShift own = tt
asked_there events.ReadSite own = tt
asked_there (events.Lock p sale) own = sale_asked p sale own
asked_there (events.Unlock p sale) own = sale_asked p sale own
asked_there (events.Clear p sale) own = sale_asked p sale own
asked_there (events.ReadTransaction p sale) own = sale_asked p sale own
asked_there (events.SetPrice q mills) own =
    (and_parts (is_between 1 PRODUCTS q) (nat_lt mills (2 ^ 32)) own).0
asked_there (events.ReadProduct q) own = own
asked_there event own =
    (and_parts (is_point_if_named (point_named event)) (is_carried event) own).0

pub carried_there : (event : Event) → is_in_range event ≡ true
    → is_content (way_to event).content ≡ true
carried_there (events.Lock p sale) own = refl
carried_there (events.Unlock p sale) own = refl
carried_there (events.Clear p sale) own = refl
carried_there (events.ReadTransaction p sale) own = refl
carried_there (events.SetPrice q mills) own =
    (and_parts (is_between 1 PRODUCTS q) (nat_lt mills (2 ^ 32)) own).1
carried_there (events.ReadProduct q) own = refl
carried_there event own =
    (and_parts (is_point_if_named (point_named event)) (is_carried event) own).1

-- the command's identifier is below those behind it; nothing is carried in a read
abbrev pub is_spelled : Option ℕ → Content → Bool
is_spelled (Some id) content = is_below id content
is_spelled None Nothing = true
is_spelled None content = false

pub spelled_there : (event : Event)
    → is_spelled (way_to event).command (way_to event).content ≡ true
spelled_there events.SignOn = refl
spelled_there event = refl

pub sender_there : (actor : Actor) (event : Event)
    → may_ask actor (reported_by event) ≡ may_send actor (way_to event).kind
sender_there (Till t) events.SignOn = refl
sender_there (Till t) event = refl
sender_there (Dispenser d) events.SignOn = refl
sender_there (Dispenser d) event = refl

pub event_there : (event : Event) → is_in_range event ≡ true
    → event_at (way_to event).kind (way_to event).database
    (items_of (way_to event).command (way_to event).content)
    ≡ Ok event
unfolding command_in sale_in
event_there (events.Release p preset) own =
    rw (preset_there preset (carried_there (events.Release p preset) own)) refl
event_there (events.Prepay p cents) own =
    rw (money_there cents (carried_there (events.Prepay p cents) own)) refl
event_there (events.ReplaceMeter p n r) own =
    rw (meter_there n r (carried_there (events.ReplaceMeter p n r) own)) refl
event_there (events.Lift p n r) own =
    rw (meter_there n r (carried_there (events.Lift p n r) own)) refl
event_there (events.Flow p n r) own =
    rw (meter_there n r (carried_there (events.Flow p n r) own)) refl
event_there (events.HangUp p n r) own =
    rw (meter_there n r (carried_there (events.HangUp p n r) own)) refl
event_there (events.Lock p sale) own =
    rw (sale_there sale (and_parts (is_between 1 POINTS p) (is_sale sale) own).1) refl
event_there (events.Unlock p sale) own =
    rw (sale_there sale (and_parts (is_between 1 POINTS p) (is_sale sale) own).1) refl
event_there (events.Clear p sale) own =
    rw (sale_there sale (and_parts (is_between 1 POINTS p) (is_sale sale) own).1) refl
event_there (events.ReadTransaction p sale) own =
    rw (sale_there sale (and_parts (is_between 1 POINTS p) (is_sale sale) own).1) refl
event_there (events.SetPrice q mills) own =
    ap (λ (r : Result ℕ MapFault). r >>= λ x. Ok (events.SetPrice q x))
    (four_there mills (carried_there (events.SetPrice q mills) own))
event_there event own = refl

-- ---- the tables lead back: each row is the way to its events

abbrev LeadsBack : Kind → Database → Option ℕ → Shape → Type 0
LeadsBack kind d command (bare event) = way_to event ≡ way_at kind d command Nothing
LeadsBack kind d command (limited event) =
    (preset : Preset) → way_to (event preset) ≡ way_at kind d command (Limit preset)
LeadsBack kind d command (prepaid event) =
    (cents : ℕ) → way_to (event cents) ≡ way_at kind d command (Payment cents)
LeadsBack kind d command (metered event) =
    (n r : ℕ) → way_to (event n r) ≡ way_at kind d command (Meter n r)
LeadsBack kind d command (of_sale digits event) =
    (sale : SaleId) → digits ≡ sale_digits sale
    → way_to (event sale) ≡ way_at kind d command Nothing
LeadsBack kind d command (priced event) =
    (mills : ℕ) → way_to (event mills) ≡ way_at kind d command (Price mills)

abbrev RowsLeadBack : Kind → Database → List Command → Type 0
RowsLeadBack kind d [] = Unit {0}
RowsLeadBack kind d (row ∷ rows) =
    LeadsBack kind d (Some row.id) row.shape × RowsLeadBack kind d rows

abbrev pub ReadLeadsBack : Database → Shape → Type 0
ReadLeadsBack d shape = LeadsBack kinds.Read d None shape

-- a sale's digits, as they came, lead back where they are those of the sale
asked_leads : (p id : ℕ) (digits : SaleDigits) (sale : SaleId) → digits ≡ sale_digits sale
    → asking p sale id ≡ way_at kinds.Write (Transaction p digits) (Some id) Nothing
asked_leads p id digits sale same =
    ap (λ (x : SaleDigits). by_command kinds.Write (Transaction p x) id Nothing) (sym same)

commands_lead : (kind : Kind) (d : Database) → RowsLeadBack kind d (commands kind d)
commands_lead kinds.Write Site = search rules
commands_lead kinds.Write (Point p) = search rules
commands_lead kinds.Write (Transaction p digits) = (
  asked_leads p ids.LOCK digits,
  (asked_leads p ids.UNLOCK digits, (asked_leads p ids.CLEAR digits, tt)),
)
commands_lead kinds.Write (Product q) = search rules
commands_lead kinds.Report (Point p) = search rules
commands_lead kind d = tt

pub reads_lead : (d : Database) → ReadLeadsBack d (reading_of d)
reads_lead Site = refl
reads_lead (Point p) = refl
reads_lead (Transaction p digits) = λ sale same.
    ap (λ (x : SaleDigits). reading (Transaction p x)) (sym same)
reads_lead (Product q) = refl

-- so is the row that is found
found_leads : (kind : Kind) (d : Database) (id : ℕ) (shape : Shape) (rows : List Command)
    → RowsLeadBack kind d rows → shape_of id rows ≡ Ok shape → LeadsBack kind d (Some id) shape
found_leads kind d id shape [] lead found = absurd cc
found_leads kind d id shape (row ∷ rows) lead found =
    first_that (id == row.id) row.shape (shape_of id rows) shape
    (LeadsBack kind d (Some id) shape) found
    (λ here named. subst (λ (x : Shape). LeadsBack kind d (Some id) x) named
    (subst (λ (x : ℕ). LeadsBack kind d (Some x) row.shape) (sym (equal id row.id here)) lead.0))
    (λ other left. found_leads kind d id shape rows lead.1 left)

pub command_leads : (kind : Kind) (d : Database) (id : ℕ) (shape : Shape)
    → shape_of id (commands kind d) ≡ Ok shape → LeadsBack kind d (Some id) shape
command_leads kind d id shape found =
    found_leads kind d id shape (commands kind d) (commands_lead kind d) found

-- what the command carries, and the event's way
pub record IsBy (kind : Kind) (d : Database) (command : Option ℕ) (inside : List ℕ)
    (items : List Entry) (event : Event) : Type 0 where
  pub content : Content
  pub way : way_to event ≡ way_at kind d command content
  pub inside_is : inside ≡ content_inside content
  pub is : items ≡ content_items content

plain_is : (inside : List ℕ) (made event : Event) → plain_event inside made ≡ Ok event
    → (inside ≡ []) × (made ≡ event)
plain_is inside made event is =
    let test = passed (length inside == 0) BadNumber (Ok made) event is in
    (none_of inside test.0, ok_is made event test.1)

-- a request of a shape that leads back tells the way to its event
pub shaped : (kind : Kind) (d : Database) (command : Option ℕ) (shape : Shape) (low : ℕ)
    (inside : List ℕ) (items : List Entry) (event : Event) → LeadsBack kind d command shape
    → AreOctets inside → Rises low items → event_by shape inside items ≡ Ok event
    → IsBy kind d command inside items event
unfolding sale_in
shaped kind d command (bare made) low inside items event lead octets rise is =
    let ended = bind_ok (items_end items) _ event is in
    let same = plain_is inside made event ended.2 in
    record {
      content = Nothing;
      way = ap way_to (sym same.1) ∙ lead;
      inside_is = same.0;
      is = nothing_back items ended.0 ended.1;
    }
shaped kind d command (limited made) low inside items event lead octets rise is =
    let preset = bind_ok (preset_in items) _ event is in
    let same = plain_is inside (made preset.0) event preset.2 in
    record {
      content = Limit preset.0;
      way = ap way_to (sym same.1) ∙ lead preset.0;
      inside_is = same.0;
      is = preset_back low items preset.0 rise preset.1;
    }
shaped kind d command (prepaid made) low inside items event lead octets rise is =
    let cents = bind_ok (money_in items) _ event is in
    let same = plain_is inside (made cents.0) event cents.2 in
    record {
      content = Payment cents.0;
      way = ap way_to (sym same.1) ∙ lead cents.0;
      inside_is = same.0;
      is = money_back low items cents.0 rise cents.1;
    }
shaped kind d command (metered made) low inside items event lead octets rise is =
    let read = bind_ok (meter_in items) _ event is in
    let same = plain_is inside (made read.0.0 read.0.1) event read.2 in
    record {
      content = Meter read.0.0 read.0.1;
      way = ap way_to (sym same.1) ∙ lead read.0.0 read.0.1;
      inside_is = same.0;
      is = meter_back low items read.0.0 read.0.1 rise read.1;
    }
shaped kind d command (of_sale digits made) low inside items event lead octets rise is =
    let sale = bind_ok (sale_in digits items) _ event is in
    let ended = bind_ok (items_end items) _ sale.0 sale.1 in
    let same = plain_is inside (made sale.0) event sale.2 in
    record {
      content = Nothing;
      way = ap way_to (sym same.1) ∙ lead sale.0 (sale_back digits sale.0 ended.2);
      inside_is = same.0;
      is = nothing_back items ended.0 ended.1;
    }
shaped kind d command (priced made) low inside items event lead octets rise is =
    let ended = bind_ok (items_end items) _ event is in
    let mills = bind_ok (four_octets_in inside) _ event ended.2 in
    record {
      content = Price mills.0;
      way = ap way_to (sym (ok_is (made mills.0) event mills.2)) ∙ lead mills.0;
      inside_is = inside_back inside mills.0 octets mills.1;
      is = nothing_back items ended.0 ended.1;
    }
