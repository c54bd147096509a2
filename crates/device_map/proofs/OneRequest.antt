-- Each event with an actor of its own kind has one request.
use Rattle.std.specs.Prelude.{slice_index, ◌&&◌, ◌≤◌, Option, Some, None}
use Rattle.std.specs.List.{flat_map}
use Rattle.std.proofs.Common.{◌≡◌, ℕ, zero, suc, ◌+◌, ◌<◌, ◌==◌, true, List, [], ◌∷◌}
use Rattle.std.proofs.Common.{length, Ok, refl, sym, ap, ◌∙◌, arith}
use Rattle.std.proofs.lemmas.Bool.{and_parts}
use Rattle.std.proofs.lemmas.Bool.Decides.{nat_tests}
use Rattle.std.proofs.lemmas.List.{length-append}
use Rattle.site_base.specs.declared.limits.TheConstants.{TILLS, POINTS}
use Rattle.site_base.specs.declared.actor.Actor.{Actor}
use Rattle.site_base.specs.declared.actor.Actor.TheVariants.{Till, Dispenser}
use Rattle.site_base.specs.declared.event.Event.{Event}
use Rattle.site_base.specs.Ranges.{is_between}
use Rattle.site_base.specs.Events.{reported_by}
use Rattle.app_message.specs.declared.kind.Kind.{Kind}
use Rattle.app_message.specs.declared.kind.Kind.TheVariants as kinds
use Rattle.app_message.specs.Telegram.{Entry, Telegram, AreOctets, Rises, entry, telegram}
use Rattle.app_message.specs.Spelling.{IsMessage, item_text}
use Rattle.device_map.specs.declared.address.Database.{Database}
use Rattle.device_map.specs.declared.fault.MapFault.TheVariants.{BadOriginator}
use Rattle.device_map.specs.declared.ids.TheConstants as ids
use Rattle.device_map.specs.Nodes.{site_node, is_request, for_us, till_at, dispenser_at, actor_at}
use Rattle.device_map.specs.Addresses.{database_at}
use Rattle.device_map.specs.Commands.{Shape, commands, reading_of}
use Rattle.device_map.specs.Requests.{some_known, shape_of}
use Rattle.device_map.specs.Requests.{command_in, read_by, event_at, request_at}
use Rattle.device_map.specs.Laws.{may_ask, is_in_range, AsksFor, IsOneRequest}
use Rattle.device_map.specs.declared.way.Content.{Content}
use Rattle.device_map.specs.declared.way.Content.TheVariants.{Nothing, Limit, Payment, Meter}
use Rattle.device_map.specs.declared.way.Content.TheVariants.{Price}
use Rattle.device_map.specs.declared.way.Way.{Way}
use Rattle.device_map.specs.Ways.{address_of, content_inside, content_items, items_of, node_of}
use Rattle.device_map.specs.Ways.{may_send, request_by, way_at, way_to}
use Rattle.device_map.proofs.Contents.{is_content, is_below}
use Rattle.device_map.proofs.Contents.{inside_octets, inside_short, contents_rise, contents_short}
use Rattle.device_map.proofs.Contents.{no_octets}
use Rattle.device_map.proofs.OneAddress.{IsAsked, database_there, address_is, names}
use Rattle.device_map.proofs.Results.{bind_ok, went, ok_is, passed, equal, one_octet}
use Rattle.device_map.proofs.Ways.{is_spelled}
use Rattle.device_map.proofs.Ways.{asked_there, carried_there, spelled_there, sender_there}
use Rattle.device_map.proofs.Ways.{event_there, shaped, command_leads, ReadLeadsBack}
use Rattle.device_map.proofs.Ways.{reads_lead}

-- ---- the request is there

two_octets : (a b : ℕ) → a < 256 → b < 256 → AreOctets (a ∷ b ∷ [])
two_octets a b first second zero = first
two_octets a b first second (suc i) = one_octet b second i

till_there : (t : ℕ) → is_between 1 TILLS t ≡ true
    → till_at (ids.TILL_SUBNET ∷ t ∷ []) ≡ Ok (Till t)
unfolding till_at
till_there t own = rw own refl

dispenser_there : (d : ℕ) → is_between 1 POINTS d ≡ true
    → dispenser_at (ids.DISPENSER_SUBNET ∷ d ∷ []) ≡ Ok (Dispenser d)
unfolding dispenser_at
dispenser_there d own = rw own refl

actor_there : (actor : Actor) (kind : Kind) → may_send actor kind ≡ true
    → actor_at kind (node_of actor) ≡ Ok actor
actor_there (Till t) kinds.Read own = till_there t own
actor_there (Till t) kinds.Write own = till_there t own
actor_there (Dispenser d) kinds.Report own = dispenser_there d own
actor_there actor kind own = absurd cc

is_requested : (actor : Actor) (kind : Kind) → may_send actor kind ≡ true
    → is_request kind ≡ Ok tt
is_requested (Till t) kinds.Read own = refl
is_requested (Till t) kinds.Write own = refl
is_requested (Dispenser d) kinds.Report own = refl
is_requested actor kind own = absurd cc

-- a node of two octets
record IsNode (node : List ℕ) : Type 0 where
  size : length node ≡ 2
  octets : AreOctets node

till_node : (t : ℕ) → is_between 1 TILLS t ≡ true → IsNode (ids.TILL_SUBNET ∷ t ∷ [])
till_node t own =
    let small : t < 256 = grind (arith, nat_tests) in
    record { size = refl; octets = two_octets ids.TILL_SUBNET t (omega arith) small }

dispenser_node : (d : ℕ) → is_between 1 POINTS d ≡ true → IsNode (ids.DISPENSER_SUBNET ∷ d ∷ [])
dispenser_node d own =
    let small : d < 256 = grind (arith, nat_tests) in
    record { size = refl; octets = two_octets ids.DISPENSER_SUBNET d (omega arith) small }

node_there : (actor : Actor) (kind : Kind) → may_send actor kind ≡ true → IsNode (node_of actor)
node_there (Till t) kinds.Read own = till_node t own
node_there (Till t) kinds.Write own = till_node t own
node_there (Dispenser d) kinds.Report own = dispenser_node d own
node_there actor kind own = absurd cc

command_small : (id : ℕ) (content : Content) → is_below id content ≡ true → id < 256
command_small id Nothing below = grind (arith, nat_tests)
command_small id (Limit preset) below = grind (arith, nat_tests)
command_small id (Payment cents) below = grind (arith, nat_tests)
command_small id (Meter n r) below = grind (arith, nat_tests)
command_small id (Price mills) below = grind (arith, nat_tests)

items_rise : (command : Option ℕ) (content : Content) → is_content content ≡ true
    → is_spelled command content ≡ true → Rises 0 (items_of command content)
items_rise (Some id) content own spelled =
    let small = command_small id content spelled in (
      omega arith,
      record {
        id = small;
        size = omega (arith, inside_short content);
        octets = inside_octets content;
      },
      contents_rise id content own spelled,
    )
items_rise None Nothing own spelled = tt
items_rise None content own spelled = absurd cc

items_short : (command : Option ℕ) (content : Content)
    → length (flat_map item_text (items_of command content)) ≤ 106
items_short (Some id) content =
    let inside = content_inside content in
    omega (
      arith,
      inside_short content,
      contents_short content,
      length-append inside (flat_map item_text (content_items content)),
    )
items_short None content = omega (arith, contents_short content)

can_be_spelled : (token : ℕ) (actor : Actor) (way : Way) → token < 32
    → may_send actor way.kind ≡ true → IsAsked way.database → is_content way.content ≡ true
    → is_spelled way.command way.content ≡ true → IsMessage (request_by token actor way)
can_be_spelled token actor way short own asked carried spelled =
    let node = node_there actor way.kind own in
    let address = address_is way.database asked in
    let items = flat_map item_text (items_of way.command way.content) in
    let size = length-append (address_of way.database) items in
    let few = items_short way.command way.content in
    record {
      head = record {
        to_size = refl;
        to_octets = two_octets ids.SITE_SUBNET ids.SITE_NODE (omega arith) (omega arith);
        from_size = node.size;
        from_octets = node.octets;
        in_range = short;
      };
      address_least = address.least;
      address_most = address.most;
      address_octets = address.octets;
      items = items_rise way.command way.content carried spelled;
      least = omega (arith, size, address.least);
      most = omega (arith, size, few, address.most);
    }

-- the request's own kind, address and items ask for the event, whatever the token
pub asks : (token : ℕ) (actor : Actor) (event : Event)
    → may_ask actor (reported_by event) ≡ true → is_in_range event ≡ true
    → request_at (request_by token actor (way_to event)) ≡ Ok (actor, event)
unfolding request_at for_us
asks token actor event own fit =
    let sent : may_send actor (way_to event).kind ≡ true = sym (sender_there actor event) ∙ own in
    rw (
      is_requested actor (way_to event).kind sent,
      actor_there actor (way_to event).kind sent,
      database_there (way_to event).database (asked_there event fit),
      event_there event fit,
    ) refl

pub there : (token : ℕ) (actor : Actor) (event : Event) → token < 32
    → may_ask actor (reported_by event) ≡ true → is_in_range event ≡ true
    → AsksFor token actor event (request_by token actor (way_to event))
there token actor event short own fit =
    let sent : may_send actor (way_to event).kind ≡ true = sym (sender_there actor event) ∙ own in
    record {
      message = can_be_spelled token actor (way_to event) short sent (asked_there event fit)
          (carried_there event fit) (spelled_there event);
      told = refl;
      asks = asks token actor event own fit;
    }

-- ---- there is no other

pair_is : (xs : List ℕ) (a b : ℕ) → length xs ≡ 2 → slice_index xs 0 ≡ a → slice_index xs 1 ≡ b
    → xs ≡ a ∷ b ∷ []
pair_is [] a b size first second = absurd (omega (arith, size))
pair_is (x ∷ []) a b size first second = absurd (omega (arith, size))
pair_is (x ∷ y ∷ []) a b size first second = rw (← first, ← second) refl
pair_is (x ∷ y ∷ z ∷ xs) a b size first second = absurd (omega (arith, size))

for_the_site : (to : List ℕ) (u : Unit {0}) → length to ≡ 2 → for_us to ≡ Ok u → to ≡ site_node
unfolding for_us
for_the_site to u size is =
    let both = and_parts _ _ (passed _ _ _ _ is).0 in
    pair_is to ids.SITE_SUBNET ids.SITE_NODE size (equal _ _ both.0) (equal _ _ both.1)

of_the_till : (from : List ℕ) (actor : Actor) → length from ≡ 2 → till_at from ≡ Ok actor
    → from ≡ node_of actor
unfolding till_at
of_the_till from actor size is =
    let test =
    passed (slice_index from 0 == ids.TILL_SUBNET && is_between 1 TILLS (slice_index from 1))
    BadOriginator (Ok (Till (slice_index from 1))) actor is in
    let both = and_parts _ _ test.0 in
    pair_is from ids.TILL_SUBNET (slice_index from 1) size (equal _ _ both.0) refl
    ∙ ap node_of (ok_is (Till (slice_index from 1)) actor test.1)

of_the_dispenser : (from : List ℕ) (actor : Actor) → length from ≡ 2 → dispenser_at from ≡ Ok actor
    → from ≡ node_of actor
unfolding dispenser_at
of_the_dispenser from actor size is =
    let test =
    passed (slice_index from 0 == ids.DISPENSER_SUBNET && is_between 1 POINTS (slice_index from 1))
    BadOriginator (Ok (Dispenser (slice_index from 1))) actor is in
    let both = and_parts _ _ test.0 in
    pair_is from ids.DISPENSER_SUBNET (slice_index from 1) size (equal _ _ both.0) refl
    ∙ ap node_of (ok_is (Dispenser (slice_index from 1)) actor test.1)

of_the_actor : (kind : Kind) (from : List ℕ) (actor : Actor) → length from ≡ 2
    → actor_at kind from ≡ Ok actor → from ≡ node_of actor
of_the_actor kinds.Read from actor size is = of_the_till from actor size is
of_the_actor kinds.Write from actor size is = of_the_till from actor size is
of_the_actor kinds.Report from actor size is = of_the_dispenser from actor size is
of_the_actor kind from actor size is = absurd cc

-- what was asked of the database is the way to the event
record IsFor (kind : Kind) (d : Database) (items : List Entry) (event : Event) : Type 0 where
  command : Option ℕ
  content : Content
  way : way_to event ≡ way_at kind d command content
  items_are : items ≡ items_of command content

command_told : (kind : Kind) (d : Database) (items : List Entry) (event : Event) → Rises 0 items
    → command_in (commands kind d) items ≡ Ok event → IsFor kind d items event
unfolding command_in
command_told kind d [] event rise is =
    let known = bind_ok (some_known (commands kind d)) _ event is in absurd (cc known.2)
command_told kind d (e ∷ es) event rise is =
    let known = bind_ok (some_known (commands kind d)) _ event is in
    let shape = bind_ok (shape_of e.id (commands kind d)) _ event known.2 in
    let by =
    shaped kind d (Some e.id) shape.0 (e.id + 1) e.content es event
    (command_leads kind d e.id shape.0 shape.1) rise.1.octets rise.2 shape.2 in
    record {
      command = Some e.id;
      content = by.content;
      way = by.way;
      items_are = ap (λ (x : List ℕ). entry e.id x ∷ es) by.inside_is
          ∙ ap (λ (x : List Entry). entry e.id (content_inside by.content) ∷ x) by.is;
    }

read_told : (d : Database) (shape : Shape) (items : List Entry) (event : Event)
    → Rises 0 items → ReadLeadsBack d shape → read_by shape items ≡ Ok event
    → IsFor kinds.Read d items event
read_told d shape items event rise lead is =
    let by = shaped kinds.Read d None shape 0 [] items event lead no_octets rise is in
    record { command = None; content = by.content; way = by.way; items_are = by.is }

asked : (kind : Kind) (d : Database) (items : List Entry) (event : Event) → Rises 0 items
    → event_at kind d items ≡ Ok event → IsFor kind d items event
asked kinds.Read d items event rise is =
    read_told d (reading_of d) items event rise (reads_lead d) is
asked kind d items event rise is = command_told kind d items event rise is

telegram_is : (m : Telegram) (to from : List ℕ) (kind : Kind) (token : ℕ)
    (address : List ℕ) (items : List Entry)
    → m.to ≡ to → m.from ≡ from → m.kind ≡ kind → m.token ≡ token → m.address ≡ address
    → m.items ≡ items → m ≡ telegram to from kind token address items
telegram_is m to from kind token address items a b c d e f = rw (← a, ← b, ← c, ← d, ← e, ← f) refl

-- what was told of each part makes the whole message
all_told : (token : ℕ) (actor : Actor) (event : Event) (m : Telegram) (d : Database)
    → IsFor m.kind d m.items event → m.to ≡ site_node → m.from ≡ node_of actor → m.token ≡ token
    → m.address ≡ address_of d → m ≡ request_by token actor (way_to event)
all_told token actor event m d told to from number address =
    telegram_is m site_node (node_of actor) m.kind token (address_of d)
    (items_of told.command told.content) to from refl number address told.items_are
    ∙ ap (request_by token actor) (sym told.way)

pub alone : (token : ℕ) (actor : Actor) (event : Event) (m : Telegram)
    → AsksFor token actor event m
    → m ≡ request_by token actor (way_to event)
unfolding request_at
alone token actor event m is =
    let request = bind_ok (is_request m.kind) _ (actor, event) is.asks in
    let us = bind_ok (for_us m.to) _ (actor, event) request.2 in
    let from = bind_ok (actor_at m.kind m.from) _ (actor, event) us.2 in
    let database = bind_ok (database_at m.address) _ (actor, event) from.2 in
    let last = bind_ok (event_at m.kind database.0 m.items) _ (actor, event) database.2 in
    let pair : (from.0, last.0) ≡ (actor, event) = ok_is (from.0, last.0) (actor, event) last.2 in
    let same_actor : from.0 ≡ actor = ap (λ (x : Actor × Event). x.0) pair in
    let same_event : last.0 ≡ event = ap (λ (x : Actor × Event). x.1) pair in
    all_told token actor event m database.0
    (asked m.kind database.0 m.items event is.message.items (last.1 ∙ ap went same_event))
    (for_the_site m.to us.0 is.message.head.to_size us.1)
    (of_the_actor m.kind m.from actor is.message.head.from_size (from.1 ∙ ap went same_actor))
    is.told
    (names m.address database.0 database.1)

pub one_request : IsOneRequest
one_request token actor event short own =
    let parts = and_parts (may_ask actor (reported_by event)) (is_in_range event) own in
    record {
      request = request_by token actor (way_to event);
      there = there token actor event short parts.0 parts.1;
      alone = λ m is. alone token actor event m is;
    }
