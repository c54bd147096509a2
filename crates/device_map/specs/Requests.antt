-- The event that a message asks for.
use Rattle.std.specs.Prelude.{ℕ, List, [], ◌∷◌, length, ◌==◌, Result, Ok, Err}
use Rattle.std.specs.Prelude.{if◌then◌else◌}
use Rattle.site_base.specs.declared.actor.Actor.{Actor}
use Rattle.site_base.specs.declared.event.Event.{Event}
use Rattle.app_message.specs.declared.kind.Kind.{Kind}
use Rattle.app_message.specs.declared.kind.Kind.TheVariants as kinds
use Rattle.app_message.specs.Telegram.{Entry, Telegram}
use Rattle.device_map.specs.declared.address.Database.{Database}
use Rattle.device_map.specs.declared.fault.MapFault.{MapFault}
use Rattle.device_map.specs.declared.fault.MapFault.TheVariants.{BadAddress, UnknownItem}
use Rattle.device_map.specs.declared.fault.MapFault.TheVariants.{ItemMissing, BadNumber}
use Rattle.device_map.specs.Stages.{◌>>=◌}
use Rattle.device_map.specs.Nodes.{for_us, actor_at, is_request}
use Rattle.device_map.specs.Addresses.{database_at}
use Rattle.device_map.specs.Commands.{Shape, bare, limited, prepaid, metered, of_sale, priced}
use Rattle.device_map.specs.Commands.{Command, commands, reading_of}
use Rattle.device_map.specs.Further.{items_end, preset_in, money_in, meter_in, sale_in}
use Rattle.device_map.specs.Further.{four_octets_in}

-- some command is known there
abbrev pub some_known : List Command → Result (Unit {0}) MapFault
some_known [] = Err BadAddress
some_known (row ∷ rows) = Ok tt

-- the command, which stands first, and the items behind it
abbrev pub first_item : List Entry → Result (Entry × List Entry) MapFault
first_item [] = Err ItemMissing
first_item (e ∷ es) = Ok (e, es)

-- the shape of the command with this identifier
abbrev pub shape_of : ℕ → List Command → Result Shape MapFault
shape_of id [] = Err UnknownItem
shape_of id (row ∷ rows) = if id == row.id then Ok row.shape else shape_of id rows

-- the event of a command without content
abbrev pub plain_event : List ℕ → Event → Result Event MapFault
plain_event content event = if length content == 0 then Ok event else Err BadNumber

-- the event of a request of this shape, by its command's content and the items behind the command,
-- which are judged first
abbrev pub event_by : Shape → List ℕ → List Entry → Result Event MapFault
event_by (bare event) content items = do
  _ ← items_end items
  plain_event content event
event_by (limited event) content items = do
  preset ← preset_in items
  plain_event content (event preset)
event_by (prepaid event) content items = do
  cents ← money_in items
  plain_event content (event cents)
event_by (metered event) content items = do
  meter ← meter_in items
  plain_event content (event meter.0 meter.1)
event_by (of_sale digits event) content items = do
  sale ← sale_in digits items
  plain_event content (event sale)
event_by (priced event) content items = do
  _ ← items_end items
  price ← four_octets_in content
  Ok (event price)

-- the event of a command of these rows, with the items behind it
abbrev pub event_among : List Command → Entry → List Entry → Result Event MapFault
event_among rows command items = do
  shape ← shape_of command.id rows
  event_by shape command.content items

-- a message with a command, of a database where some are known
unfoldable pub command_in : List Command → List Entry → Result Event MapFault
command_in rows items = do
  _ ← some_known rows
  first ← first_item items
  event_among rows first.0 first.1

-- a read: without a command there is no content
abbrev pub read_by : Shape → List Entry → Result Event MapFault
read_by shape items = event_by shape [] items

-- what the kind of message asks of the database
abbrev pub event_at : Kind → Database → List Entry → Result Event MapFault
event_at kinds.Read database items = read_by (reading_of database) items
event_at kind database items = command_in (commands kind database) items

-- the pair that a message means: a request, for this site, from one who may ask it, of a database
-- that is there, with just the items that belong to it
unfoldable pub request_at : Telegram → Result (Actor × Event) MapFault
request_at m = do
  _ ← is_request m.kind
  _ ← for_us m.to
  actor ← actor_at m.kind m.from
  database ← database_at m.address
  event ← event_at m.kind database m.items
  Ok (actor, event)
