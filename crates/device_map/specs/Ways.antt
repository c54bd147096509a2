-- The way to each event, and the message that goes it: the kind of message, the database, the
-- command and what it carries.
use Rattle.std.specs.Prelude.{ℕ, ◌+◌, ◌*◌, ◌/◌, ◌%◌, List, [], ◌∷◌, ◌++◌, Option, Some, None}
use Rattle.std.specs.Prelude.{Bool, true, false}
use Rattle.site_base.specs.declared.limits.TheConstants.{TILLS, POINTS}
use Rattle.site_base.specs.Ranges.{is_between}
use Rattle.std.specs.Int.{w32, to_be_bytes}
use Rattle.site_base.specs.declared.actor.Actor.{Actor}
use Rattle.site_base.specs.declared.actor.Actor.TheVariants.{Till, Dispenser}
use Rattle.site_base.specs.declared.event.Event.{Event}
use Rattle.site_base.specs.declared.event.Event.TheVariants as events
use Rattle.site_base.specs.declared.sale.SaleId.{SaleId}
use Rattle.app_message.specs.declared.kind.Kind.{Kind}
use Rattle.app_message.specs.declared.kind.Kind.TheVariants as kinds
use Rattle.app_message.specs.Telegram.{Entry, Telegram, entry, telegram}
use Rattle.device_map.specs.declared.address.Database.{Database}
use Rattle.device_map.specs.declared.address.Database.TheVariants.{Site, Point, Transaction}
use Rattle.device_map.specs.declared.address.Database.TheVariants.{Product}
use Rattle.device_map.specs.declared.decimal.Digits.{Digits}
use Rattle.device_map.specs.declared.decimal.SaleDigits.{SaleDigits}
use Rattle.device_map.specs.declared.ids.TheConstants as ids
use Rattle.device_map.specs.declared.way.Content.{Content}
use Rattle.device_map.specs.declared.way.Content.TheVariants.{Nothing, Limit, Payment, Meter}
use Rattle.device_map.specs.declared.way.Content.TheVariants.{Price}
use Rattle.device_map.specs.declared.way.Way.{Way}
use Rattle.device_map.specs.Items.{octet, four_octets, eight_octets}
use Rattle.device_map.specs.Nodes.{site_node}
use Rattle.device_map.specs.Replies.{preset_items}

-- a number's four digits, in two octets
abbrev pub digits_of : ℕ → Digits
digits_of n = record {
  high = n / 1000 % 10 * 16 + n / 100 % 10;
  low = n / 10 % 10 * 16 + n % 10;
}

-- the digits of a shift, where one is named
abbrev pub shift_digits : Option ℕ → Option Digits
shift_digits None = None
shift_digits (Some shift) = Some (digits_of shift)

-- the digits of a transaction
abbrev pub sale_digits : SaleId → SaleDigits
sale_digits sale = record { shift = shift_digits sale.shift; seq = digits_of sale.seq }

-- the form and the digits that name a transaction
abbrev pub digit_octets : Option Digits → Digits → List ℕ
digit_octets None seq = ids.TRANSACTION_FORM ∷ seq.high ∷ seq.low ∷ []
digit_octets (Some shift) seq =
    ids.SHIFT_FORM ∷ shift.high ∷ shift.low ∷ seq.high ∷ seq.low ∷ []

-- the address of a database
abbrev pub address_of : Database → List ℕ
address_of Site = ids.SITE_ADDRESS ∷ []
address_of (Point p) = (ids.POINT_ADDRESS + p) ∷ []
address_of (Transaction p digits) = (ids.POINT_ADDRESS + p) ∷ digit_octets digits.shift digits.seq
address_of (Product q) = (ids.PRODUCT_ADDRESS + q) ∷ []

-- the content of the command
abbrev pub content_inside : Content → List ℕ
content_inside (Price mills) = to_be_bytes w32 mills
content_inside content = []

-- the items behind it
abbrev pub content_items : Content → List Entry
content_items Nothing = []
content_items (Limit preset) = preset_items preset
content_items (Payment cents) = four_octets ids.PRESET_MONEY cents
content_items (Meter nozzle reading) = octet ids.NOZZLE nozzle ++ eight_octets ids.READING reading
content_items (Price mills) = []

-- a kind of message to a database, with a command or without, and what this carries
abbrev pub way_at : Kind → Database → Option ℕ → Content → Way
way_at kind database command content = record {
  kind = kind;
  database = database;
  command = command;
  content = content;
}

-- a command with what it carries
abbrev pub by_command : Kind → Database → ℕ → Content → Way
by_command kind database id content = way_at kind database (Some id) content

-- what a till asks of a transaction
abbrev pub asking : ℕ → SaleId → ℕ → Way
asking p sale id = by_command kinds.Write (Transaction p (sale_digits sale)) id Nothing

-- a read of a database
abbrev pub reading : Database → Way
reading database = way_at kinds.Read database None Nothing

-- the way to each event, a line for each
abbrev pub way_to : Event → Way
way_to events.SignOn = by_command kinds.Write Site ids.SIGN_ON Nothing
way_to events.SignOff = by_command kinds.Write Site ids.SIGN_OFF Nothing
way_to (events.Open p) = by_command kinds.Write (Point p) ids.OPEN Nothing
way_to (events.Close p) = by_command kinds.Write (Point p) ids.CLOSE Nothing
way_to (events.Assign p) = by_command kinds.Write (Point p) ids.ASSIGN Nothing
way_to (events.Unassign p) = by_command kinds.Write (Point p) ids.UNASSIGN Nothing
way_to (events.Release p preset) = by_command kinds.Write (Point p) ids.RELEASE (Limit preset)
way_to (events.Prepay p cents) = by_command kinds.Write (Point p) ids.PREPAY (Payment cents)
way_to (events.TestRelease p) = by_command kinds.Write (Point p) ids.TEST_RELEASE Nothing
way_to (events.Suspend p) = by_command kinds.Write (Point p) ids.SUSPEND Nothing
way_to (events.Resume p) = by_command kinds.Write (Point p) ids.RESUME Nothing
way_to (events.Terminate p) = by_command kinds.Write (Point p) ids.TERMINATE Nothing
way_to (events.ReplaceMeter p n r) =
    by_command kinds.Write (Point p) ids.REPLACE_METER (Meter n r)
way_to (events.ReadPoint p) = reading (Point p)
way_to (events.Lock p sale) = asking p sale ids.LOCK
way_to (events.Unlock p sale) = asking p sale ids.UNLOCK
way_to (events.Clear p sale) = asking p sale ids.CLEAR
way_to (events.ReadTransaction p sale) = reading (Transaction p (sale_digits sale))
way_to (events.SetPrice q mills) = by_command kinds.Write (Product q) ids.SET_PRICE (Price mills)
way_to (events.ReadProduct q) = reading (Product q)
way_to events.CloseShift = by_command kinds.Write Site ids.CLOSE_SHIFT Nothing
way_to events.ReadSite = reading Site
way_to (events.Online p) = by_command kinds.Report (Point p) ids.ONLINE Nothing
way_to (events.Offline p) = by_command kinds.Report (Point p) ids.OFFLINE Nothing
way_to (events.Lift p n r) = by_command kinds.Report (Point p) ids.LIFT (Meter n r)
way_to (events.Flow p n r) = by_command kinds.Report (Point p) ids.FLOW (Meter n r)
way_to (events.HangUp p n r) = by_command kinds.Report (Point p) ids.HANG_UP (Meter n r)

-- the items of a message: the command, if there is one, and what stands behind it
abbrev pub items_of : Option ℕ → Content → List Entry
items_of None content = content_items content
items_of (Some id) content = entry id (content_inside content) ∷ content_items content

-- subnet and node of an actor
abbrev pub node_of : Actor → List ℕ
node_of (Till t) = ids.TILL_SUBNET ∷ t ∷ []
node_of (Dispenser d) = ids.DISPENSER_SUBNET ∷ d ∷ []

-- the message by which an actor goes a way, with this token
abbrev pub request_by : ℕ → Actor → Way → Telegram
request_by token actor way =
    telegram site_node (node_of actor) way.kind token (address_of way.database)
    (items_of way.command way.content)

-- who sends a kind of message, with a number in its range
abbrev pub may_send : Actor → Kind → Bool
may_send (Till t) kinds.Read = is_between 1 TILLS t
may_send (Till t) kinds.Write = is_between 1 TILLS t
may_send (Dispenser d) kinds.Report = is_between 1 POINTS d
may_send actor kind = false

-- a till reads and writes, a dispenser reports: an actor sends messages of this kind
abbrev pub sends : Actor → Kind → Bool
sends (Till t) kinds.Read = true
sends (Till t) kinds.Write = true
sends (Dispenser d) kinds.Report = true
sends actor kind = false
