-- The message that tells a reply.
use Rattle.std.specs.Prelude.{◌≡◌, ◌≤◌, ℕ, length, Bool, true, false, List, [], ◌∷◌, ◌++◌}
use Rattle.std.specs.Prelude.{Option, Some, None, Result, Ok, Err, unwrap_or}
use Rattle.std.specs.List.{flat_map}
use Rattle.site_base.specs.declared.answer.Answer.{Answer}
use Rattle.site_base.specs.declared.answer.Answer.TheVariants as answers
use Rattle.site_base.specs.declared.refusal.Refusal.{Refusal}
use Rattle.site_base.specs.declared.state.Preset.{Preset}
use Rattle.site_base.specs.declared.state.Preset.TheVariants.{Unset, Volume, Money}
use Rattle.site_base.specs.declared.view.PointView.{PointView}
use Rattle.site_base.specs.declared.view.TransactionView.{TransactionView}
use Rattle.site_base.specs.declared.view.ProductView.{ProductView}
use Rattle.site_base.specs.declared.view.SiteView.{SiteView}
use Rattle.site_base.specs.States.{state_number, status_number}
use Rattle.site_base.specs.Refusals.{refusal_number, refusal_detail}
use Rattle.app_message.specs.declared.fault.StreamFault.{StreamFault}
use Rattle.app_message.specs.declared.kind.Kind.{Kind}
use Rattle.app_message.specs.declared.kind.Kind.TheVariants as kinds
use Rattle.app_message.specs.Numbers.{grammar_number}
use Rattle.app_message.specs.Parts.{do_rise}
use Rattle.app_message.specs.Spelling.{item_text}
use Rattle.app_message.specs.Telegram.{Entry, Telegram}
use Rattle.device_map.specs.declared.ids.TheConstants as ids
use Rattle.device_map.specs.Decimal.{pack_digits}
use Rattle.device_map.specs.Items.{octet, two_octets, four_octets, eight_octets}
use Rattle.device_map.specs.Nodes.{site_node}

-- 1 where it is so, else 0
abbrev pub flag : Bool → ℕ
flag true = 1
flag false = 0

-- the test mark, if the fuelling is a test
abbrev pub test_items : Bool → List Entry
test_items true = octet ids.TEST 1
test_items false = []

-- the preset, if one is set
abbrev pub preset_items : Preset → List Entry
preset_items Unset = []
preset_items (Volume ml) = four_octets ids.PRESET_VOLUME ml
preset_items (Money cents) = four_octets ids.PRESET_MONEY cents

-- the prepaid cents, if it is prepaid
abbrev pub prepaid_items : Option ℕ → List Entry
prepaid_items None = []
prepaid_items (Some cents) = four_octets ids.PREPAID cents

-- what state a point is in, the nozzle that is out, who holds it, whether it is ending
unfoldable pub standing_items : PointView → List Entry
standing_items v = octet ids.STATE (state_number v.state)
    ++ octet ids.NOZZLE_OUT (unwrap_or v.out 0) ++ octet ids.HOLDER (unwrap_or v.holder 0)
    ++ octet ids.ENDING (flag v.ending)

abbrev pub point_items : PointView → List Entry
point_items v = standing_items v ++ test_items v.test ++ preset_items v.preset
    ++ four_octets ids.PRICE v.price ++ eight_octets ids.VOLUME v.volume
    ++ prepaid_items v.prepaid

abbrev pub transaction_items : TransactionView → List Entry
transaction_items v = four_octets ids.PRICE v.price ++ eight_octets ids.VOLUME v.volume
    ++ eight_octets ids.CENTS v.cents
    ++ four_octets ids.PREPAID (unwrap_or v.prepaid 0) ++ octet ids.STATUS (status_number v.status)
    ++ octet ids.TILL (unwrap_or v.till 0) ++ octet ids.PRODUCT v.product

abbrev pub product_items : ProductView → List Entry
product_items v = four_octets ids.PRICE v.price ++ eight_octets ids.METERED v.metered
    ++ eight_octets ids.RUNNING v.running
    ++ eight_octets ids.PAYABLE v.payable ++ eight_octets ids.LOCKED v.locked
    ++ eight_octets ids.CLEARED v.cleared ++ eight_octets ids.ADJUSTED v.adjusted

abbrev pub site_items : SiteView → List Entry
site_items v = eight_octets ids.CENTS v.cents ++ two_octets ids.SHIFT v.shift

-- the result 0 and the outcome
abbrev pub outcome : ℕ → List Entry
outcome n = octet ids.RESULT 0 ++ octet ids.OUTCOME n

-- the items that tell an answer
abbrev pub answer_items : Answer → List Entry
answer_items answers.Done = outcome 0
answer_items answers.Calling = outcome 1
answer_items (answers.Start preset price) = outcome 2 ++ preset_items preset
    ++ four_octets ids.PRICE price
answer_items (answers.Flowed growth) = outcome 3 ++ eight_octets ids.VOLUME growth
answer_items answers.HungUp = outcome 4
answer_items answers.NoSale = outcome 5
answer_items (answers.Sold seq growth) = outcome 6 ++ eight_octets ids.VOLUME growth
    ++ two_octets ids.SEQUENCE (pack_digits seq)
answer_items answers.Stopped = outcome 7
answer_items answers.Ending = outcome 8
answer_items answers.Locked = outcome 9
answer_items answers.Unlocked = outcome 10
answer_items (answers.Cleared cents) = outcome 11 ++ eight_octets ids.CENTS cents
answer_items (answers.ShiftClosed shift) = outcome 12 ++ two_octets ids.SHIFT shift
answer_items (answers.Drawn growth) = outcome 13 ++ eight_octets ids.VOLUME growth
answer_items (answers.PointIs view) = point_items view
answer_items (answers.TransactionIs view) = transaction_items view
answer_items (answers.ProductIs view) = product_items view
answer_items (answers.SiteIs view) = site_items view

-- an Answer where something was read, else an Ack
abbrev pub answer_kind : Answer → Kind
answer_kind answers.Done = kinds.Ack
answer_kind answers.Calling = kinds.Ack
answer_kind (answers.Start preset price) = kinds.Ack
answer_kind (answers.Flowed growth) = kinds.Ack
answer_kind answers.HungUp = kinds.Ack
answer_kind answers.NoSale = kinds.Ack
answer_kind (answers.Sold seq growth) = kinds.Ack
answer_kind answers.Stopped = kinds.Ack
answer_kind answers.Ending = kinds.Ack
answer_kind answers.Locked = kinds.Ack
answer_kind answers.Unlocked = kinds.Ack
answer_kind (answers.Cleared cents) = kinds.Ack
answer_kind (answers.ShiftClosed shift) = kinds.Ack
answer_kind (answers.Drawn growth) = kinds.Ack
answer_kind (answers.PointIs view) = kinds.Answer
answer_kind (answers.TransactionIs view) = kinds.Answer
answer_kind (answers.ProductIs view) = kinds.Answer
answer_kind (answers.SiteIs view) = kinds.Answer

abbrev pub detail_items : Option ℕ → List Entry
detail_items None = []
detail_items (Some detail) = eight_octets ids.DETAIL detail

-- the number of a refusal, and its detail if it has one
abbrev pub refusal_items : Refusal → List Entry
refusal_items refusal = octet ids.RESULT (refusal_number refusal)
    ++ detail_items (refusal_detail refusal)

abbrev pub reply_items : Result Answer Refusal → List Entry
reply_items (Ok answer) = answer_items answer
reply_items (Err refusal) = refusal_items refusal

abbrev pub reply_kind : Result Answer Refusal → Kind
reply_kind (Ok answer) = answer_kind answer
reply_kind (Err refusal) = kinds.Ack

-- items in rising order, of at most 254 octets each and 1,000 in all: with an address they fit a
-- message
pub record AreShort (items : List Entry) : Type 0 where
  pub rise : do_rise 0 items ≡ true
  pub size : length (flat_map item_text items) ≤ 1000

-- a message from the site back to the originator of the request, with its token and address
abbrev pub back : Telegram → Kind → List Entry → Telegram
back request kind items = record {
  to = request.from;
  from = site_node;
  kind = kind;
  token = request.token;
  address = request.address;
  items = items;
}

-- the message that tells the reply to a request
abbrev pub reply_message : Telegram → Result Answer Refusal → Telegram
reply_message request reply = back request (reply_kind reply) (reply_items reply)

-- a message with the recipient, the token and the address of this one, that tells a reply
abbrev pub told_message : Telegram → Result Answer Refusal → Telegram
told_message m reply = record m {
  from = site_node;
  kind = reply_kind reply;
  items = reply_items reply;
}

-- .. and one that tells a number
abbrev pub told_number : Telegram → ℕ → Telegram
told_number m number = record m {
  from = site_node;
  kind = kinds.Ack;
  items = octet ids.RESULT number;
}

-- the message that tells a number in place of a reply
abbrev pub number_message : Telegram → ℕ → Telegram
number_message request number = back request kinds.Ack (octet ids.RESULT number)

-- the message that tells why a stream ended
abbrev pub fault_message : StreamFault → Telegram
fault_message f = record {
  to = f.originator;
  from = site_node;
  kind = kinds.Ack;
  token = f.token;
  address = ids.SITE_ADDRESS ∷ [];
  items = octet ids.RESULT (grammar_number f.fault);
}
