-- Whoever asks a request sends such messages.
use Rattle.std.proofs.Common.{◌≡◌, ℕ, ◌==◌, true, List, [], ◌∷◌, length, Ok, refl, sym, ap, ◌∙◌}
use Rattle.std.proofs.Common.{subst, rules}
use Rattle.std.specs.Prelude.{slice_index}
use Rattle.std.specs.List.{AllByRecursion}
use Rattle.site_base.specs.declared.actor.Actor.{Actor}
use Rattle.site_base.specs.declared.actor.Actor.TheVariants.{Till, Dispenser}
use Rattle.site_base.specs.declared.event.Event.{Event}
use Rattle.site_base.specs.declared.sale.SaleId.{SaleId}
use Rattle.site_base.specs.declared.state.Preset.{Preset}
use Rattle.app_message.specs.declared.kind.Kind.{Kind}
use Rattle.app_message.specs.declared.kind.Kind.TheVariants as kinds
use Rattle.app_message.specs.Telegram.{Entry, Telegram}
use Rattle.device_map.specs.declared.address.Database.{Database}
use Rattle.device_map.specs.declared.address.Database.TheVariants.{Site, Point, Transaction}
use Rattle.device_map.specs.declared.address.Database.TheVariants.{Product}
use Rattle.device_map.specs.declared.fault.MapFault.TheVariants.{BadNumber, BadOriginator}
use Rattle.device_map.specs.Addresses.{database_at}
use Rattle.device_map.specs.Commands.{Command, Shape, bare, commands, limited, metered, of_sale}
use Rattle.device_map.specs.Commands.{prepaid, priced, reading_of}
use Rattle.device_map.specs.Further.{four_octets_in, items_end, meter_in, money_in, preset_in}
use Rattle.device_map.specs.Further.{sale_in}
use Rattle.device_map.specs.Nodes.{actor_at, dispenser_at, for_us, is_request, till_at}
use Rattle.device_map.specs.Requests.{command_in, event_at, event_by, plain_event}
use Rattle.device_map.specs.Requests.{request_at, shape_of, some_known}
use Rattle.device_map.specs.Ways.{sends, way_to}
use Rattle.device_map.proofs.Results.{bind_ok, first_that, ok_is, passed, went}

-- an event goes by this kind of message
abbrev GoesBy : Kind → Event → Type 0
GoesBy kind event = (way_to event).kind ≡ kind

-- so does each event of a shape
abbrev AllGoBy : Kind → Shape → Type 0
AllGoBy kind (bare event) = GoesBy kind event
AllGoBy kind (limited made) = (p : Preset) → GoesBy kind (made p)
AllGoBy kind (prepaid made) = (n : ℕ) → GoesBy kind (made n)
AllGoBy kind (metered made) = (n r : ℕ) → GoesBy kind (made n r)
AllGoBy kind (of_sale digits made) = (s : SaleId) → GoesBy kind (made s)
AllGoBy kind (priced made) = (n : ℕ) → GoesBy kind (made n)

plain_goes : (kind : Kind) (content : List ℕ) (made event : Event) → GoesBy kind made
    → plain_event content made ≡ Ok event → GoesBy kind event
plain_goes kind content made event goes is =
    let test = passed (length content == 0) BadNumber (Ok made) event is in
    subst (λ (e : Event). GoesBy kind e) (ok_is made event test.1) goes

-- the event of a shape
shape_goes : (kind : Kind) (shape : Shape) (content : List ℕ) (items : List Entry) (event : Event)
    → AllGoBy kind shape → event_by shape content items ≡ Ok event → GoesBy kind event
shape_goes kind (bare made) content items event all is =
    let ended = bind_ok (items_end items) _ event is in
    plain_goes kind content made event all ended.2
shape_goes kind (limited made) content items event all is =
    let preset = bind_ok (preset_in items) _ event is in
    plain_goes kind content (made preset.0) event (all preset.0) preset.2
shape_goes kind (prepaid made) content items event all is =
    let cents = bind_ok (money_in items) _ event is in
    plain_goes kind content (made cents.0) event (all cents.0) cents.2
shape_goes kind (metered made) content items event all is =
    let meter = bind_ok (meter_in items) _ event is in
    plain_goes kind content (made meter.0.0 meter.0.1) event (all meter.0.0 meter.0.1) meter.2
shape_goes kind (of_sale digits made) content items event all is =
    let sale = bind_ok (sale_in digits items) _ event is in
    plain_goes kind content (made sale.0) event (all sale.0) sale.2
shape_goes kind (priced made) content items event all is =
    let ended = bind_ok (items_end items) _ event is in
    let mills = bind_ok (four_octets_in content) _ event ended.2 in
    subst (λ (e : Event). GoesBy kind e) (ok_is (made mills.0) event mills.2) (all mills.0)

abbrev RowsGoBy : Kind → List Command → Type 0
RowsGoBy kind rows = AllByRecursion (λ row. AllGoBy kind row.shape) rows

commands_go : (kind : Kind) (d : Database) → RowsGoBy kind (commands kind d)
commands_go kinds.Write Site = search rules
commands_go kinds.Write (Point p) = search rules
commands_go kinds.Write (Transaction p digits) = search rules
commands_go kinds.Write (Product q) = search rules
commands_go kinds.Report (Point p) = search rules
commands_go kind d = tt

reads_go : (d : Database) → AllGoBy kinds.Read (reading_of d)
reads_go Site = refl
reads_go (Point p) = refl
reads_go (Transaction p digits) = λ sale. refl
reads_go (Product q) = refl

found_goes : (kind : Kind) (id : ℕ) (shape : Shape) (rows : List Command) → RowsGoBy kind rows
    → shape_of id rows ≡ Ok shape → AllGoBy kind shape
found_goes kind id shape [] all found = absurd cc
found_goes kind id shape (row ∷ rows) all found =
    first_that (id == row.id) row.shape (shape_of id rows) shape (AllGoBy kind shape) found
    (λ here named. subst (λ (x : Shape). AllGoBy kind x) named all.0)
    (λ other left. found_goes kind id shape rows all.1 left)

command_goes : (kind : Kind) (d : Database) (items : List Entry) (event : Event)
    → command_in (commands kind d) items ≡ Ok event → GoesBy kind event
unfolding command_in
command_goes kind d [] event is =
    let known = bind_ok (some_known (commands kind d)) _ event is in absurd (cc known.2)
command_goes kind d (e ∷ es) event is =
    let known = bind_ok (some_known (commands kind d)) _ event is in
    let shape = bind_ok (shape_of e.id (commands kind d)) _ event known.2 in
    shape_goes kind shape.0 e.content es event
    (found_goes kind e.id shape.0 (commands kind d) (commands_go kind d) shape.1) shape.2

event_goes : (kind : Kind) (d : Database) (items : List Entry) (event : Event)
    → event_at kind d items ≡ Ok event → GoesBy kind event
event_goes kinds.Read d items event is =
    shape_goes kinds.Read (reading_of d) [] items event (reads_go d) is
event_goes kind d items event is = command_goes kind d items event is

till_sends : (from : List ℕ) (actor : Actor) → till_at from ≡ Ok actor
    → (sends actor kinds.Read ≡ true) × (sends actor kinds.Write ≡ true)
unfolding till_at
till_sends from actor is =
    let test = passed _ BadOriginator (Ok (Till (slice_index from 1))) actor is in
    rw (sym (ok_is (Till (slice_index from 1)) actor test.1)) (refl, refl)

dispenser_sends : (from : List ℕ) (actor : Actor) → dispenser_at from ≡ Ok actor
    → sends actor kinds.Report ≡ true
unfolding dispenser_at
dispenser_sends from actor is =
    let test = passed _ BadOriginator (Ok (Dispenser (slice_index from 1))) actor is in
    rw (sym (ok_is (Dispenser (slice_index from 1)) actor test.1)) refl

actor_sends : (kind : Kind) (from : List ℕ) (actor : Actor) → actor_at kind from ≡ Ok actor
    → sends actor kind ≡ true
actor_sends kinds.Read from actor is = (till_sends from actor is).0
actor_sends kinds.Write from actor is = (till_sends from actor is).1
actor_sends kinds.Report from actor is = dispenser_sends from actor is
actor_sends kind from actor is = absurd cc

-- the actor of a request sends such requests
pub request_sends : (m : Telegram) (actor : Actor) (event : Event)
    → request_at m ≡ Ok (actor, event) → sends actor (way_to event).kind ≡ true
unfolding request_at
request_sends m actor event is =
    let request = bind_ok (is_request m.kind) _ (actor, event) is in
    let us = bind_ok (for_us m.to) _ (actor, event) request.2 in
    let from = bind_ok (actor_at m.kind m.from) _ (actor, event) us.2 in
    let database = bind_ok (database_at m.address) _ (actor, event) from.2 in
    let last = bind_ok (event_at m.kind database.0 m.items) _ (actor, event) database.2 in
    let pair : (from.0, last.0) ≡ (actor, event) = ok_is (from.0, last.0) (actor, event) last.2 in
    let same_actor : from.0 ≡ actor = ap (λ (x : Actor × Event). x.0) pair in
    let same_event : last.0 ≡ event = ap (λ (x : Actor × Event). x.1) pair in
    ap (λ (k : Kind). sends actor k)
    (event_goes m.kind database.0 m.items event (last.1 ∙ ap went same_event))
    ∙ actor_sends m.kind m.from actor (from.1 ∙ ap went same_actor)
