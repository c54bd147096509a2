-- Worked replies, by computing the definitions: what was asked, what is replied, and the octets
-- that tell it, cut in two behind the address.
use Prim.Native.String.{String}
use Rattle.std.specs.Prelude.{◌≡◌, ℕ, List, [], ◌∷◌, ◌++◌, map, Some, None, true, false}
use Rattle.std.specs.Prelude.{Result, Ok, Err}
use Rattle.std.proofs.Common.{refl}
use Rattle.site_base.specs.declared.answer.Answer.{Answer}
use Rattle.site_base.specs.declared.answer.Answer.TheVariants as answers
use Rattle.site_base.specs.declared.refusal.Refusal.{Refusal}
use Rattle.site_base.specs.declared.refusal.Refusal.TheVariants as refusals
use Rattle.site_base.specs.declared.state.PointState.TheVariants as states
use Rattle.site_base.specs.declared.state.Preset.TheVariants.{Unset, Volume, Money}
use Rattle.site_base.specs.declared.state.Status.TheVariants as statuses
use Rattle.site_base.specs.declared.view.PointView.{PointView}
use Rattle.site_base.specs.declared.view.TransactionView.{TransactionView}
use Rattle.site_base.specs.declared.view.ProductView.{ProductView}
use Rattle.app_message.specs.declared.fault.GrammarFault.{GrammarFault}
use Rattle.app_message.specs.declared.fault.GrammarFault.TheVariants as grammar
use Rattle.app_message.specs.declared.fault.StreamFault.{StreamFault}
use Rattle.app_message.specs.Grammar.{header_at, item_at, items_at, address_at, body_at, front_at}
use Rattle.app_message.specs.Spelling.{spelling}
use Rattle.app_message.specs.Stream.{walk, stream_of}
use Rattle.app_message.proofs.Hexadecimal.{octets}
use Rattle.device_map.specs.Items.{octet, two_octets, four_octets, eight_octets}
use Rattle.device_map.specs.Replies.{standing_items, reply_message, number_message, fault_message}

-- a request by its octets, a reply, and the octets that tell it
record Row : Type 0 where
  request : String
  reply : Result Answer Refusal
  text : List ℕ

abbrev told : String → Result Answer Refusal → String → String → Row
told request reply head items =
    record { request = request; reply = reply; text = octets head ++ octets items }

-- the octets that tell the reply to each message of these
abbrev tells : Row → List (List ℕ)
tells row =
    map (λ m. spelling (reply_message m row.reply)) (stream_of (octets row.request)).messages

-- ---- replies to a Write to point 3 with token 5

abbrev to_write : Result Answer Refusal → String → String → Row
to_write reply head items = told "01 01 02 01 00 45 00 04 01 23 3E 00" reply head items

-- each answer
abbrev answer_rows : List Row
answer_rows =
    to_write (Ok answers.Done) "02 01 01 01 00 E5 0008 01 23" "010100 030100" ∷
    to_write (Ok answers.Calling) "02 01 01 01 00 E5 0008 01 23" "010100 030101" ∷
    to_write (Ok (answers.Start Unset 1500))
    "02 01 01 01 00 E5 000E 01 23" "010100 030102 7204000005DC" ∷
    to_write (Ok (answers.Start (Volume 3000) 1500))
    "02 01 01 01 00 E5 0014 01 23" "010100 030102 500400000BB8 7204000005DC" ∷
    to_write (Ok (answers.Start (Money 2000) 1500))
    "02 01 01 01 00 E5 0014 01 23" "010100 030102 5104000007D0 7204000005DC" ∷
    to_write (Ok (answers.Flowed 12345))
    "02 01 01 01 00 E5 0012 01 23" "010100 030103 73080000000000003039" ∷
    to_write (Ok answers.HungUp) "02 01 01 01 00 E5 0008 01 23" "010100 030104" ∷
    to_write (Ok answers.NoSale) "02 01 01 01 00 E5 0008 01 23" "010100 030105" ∷
    to_write (Ok (answers.Sold 1 0))
    "02 01 01 01 00 E5 0016 01 23" "010100 030106 73080000000000000000 74020001" ∷
    to_write (Ok (answers.Sold 9999 1000000))
    "02 01 01 01 00 E5 0016 01 23" "010100 030106 730800000000000F4240 74029999" ∷
    to_write (Ok (answers.Sold 1234 5))
    "02 01 01 01 00 E5 0016 01 23" "010100 030106 73080000000000000005 74021234" ∷
    to_write (Ok answers.Stopped) "02 01 01 01 00 E5 0008 01 23" "010100 030107" ∷
    to_write (Ok answers.Ending) "02 01 01 01 00 E5 0008 01 23" "010100 030108" ∷
    to_write (Ok answers.Locked) "02 01 01 01 00 E5 0008 01 23" "010100 030109" ∷
    to_write (Ok answers.Unlocked) "02 01 01 01 00 E5 0008 01 23" "010100 03010A" ∷
    to_write (Ok (answers.Cleared 1500))
    "02 01 01 01 00 E5 0012 01 23" "010100 03010B 750800000000000005DC" ∷
    to_write (Ok (answers.ShiftClosed 1)) "02 01 01 01 00 E5 000C 01 23" "010100 03010C 76020001" ∷
    to_write (Ok (answers.ShiftClosed 999))
    "02 01 01 01 00 E5 000C 01 23" "010100 03010C 760203E7" ∷
    to_write (Ok (answers.Drawn 20000))
    "02 01 01 01 00 E5 0012 01 23" "010100 03010D 73080000000000004E20" ∷
    to_write (Ok (answers.Drawn 0))
    "02 01 01 01 00 E5 0012 01 23" "010100 03010D 73080000000000000000" ∷
    []

answers_are_told : map tells answer_rows ≡ map (λ row. row.text ∷ []) answer_rows
unfolding walk front_at header_at item_at items_at address_at body_at octet two_octets four_octets
    eight_octets
answers_are_told = refl

-- each refusal, with its detail where it has one
abbrev refusal_rows : List Row
refusal_rows =
    to_write (Err refusals.NotSignedOn) "02 01 01 01 00 E5 0005 01 23" "010101" ∷
    to_write (Err refusals.SignedOn) "02 01 01 01 00 E5 0005 01 23" "010102" ∷
    to_write (Err refusals.NoSuchPoint) "02 01 01 01 00 E5 0005 01 23" "010103" ∷
    to_write (Err refusals.NoSuchNozzle) "02 01 01 01 00 E5 0005 01 23" "010104" ∷
    to_write (Err refusals.NoSuchProduct) "02 01 01 01 00 E5 0005 01 23" "010105" ∷
    to_write (Err refusals.NoSuchTransaction) "02 01 01 01 00 E5 0005 01 23" "010106" ∷
    to_write (Err refusals.NotManager) "02 01 01 01 00 E5 0005 01 23" "010107" ∷
    to_write (Err refusals.BadPrice) "02 01 01 01 00 E5 0005 01 23" "010108" ∷
    to_write (Err refusals.BadPreset) "02 01 01 01 00 E5 0005 01 23" "010109" ∷
    to_write (Err (refusals.WrongState states.Authorised))
    "02 01 01 01 00 E5 000F 01 23" "01010A 02080000000000000005" ∷
    to_write (Err (refusals.AssignedToOther 1))
    "02 01 01 01 00 E5 000F 01 23" "01010B 02080000000000000001" ∷
    to_write (Err refusals.NotYours) "02 01 01 01 00 E5 0005 01 23" "01010C" ∷
    to_write (Err refusals.NotYourPoint) "02 01 01 01 00 E5 0005 01 23" "01010D" ∷
    to_write (Err (refusals.WrongNozzle 2))
    "02 01 01 01 00 E5 000F 01 23" "01010E 02080000000000000002" ∷
    to_write (Err refusals.BufferFull) "02 01 01 01 00 E5 0005 01 23" "01010F" ∷
    to_write (Err refusals.SequenceSpent) "02 01 01 01 00 E5 0005 01 23" "010110" ∷
    to_write (Err (refusals.MeterGap 5000))
    "02 01 01 01 00 E5 000F 01 23" "010111 02080000000000001388" ∷
    to_write (Err (refusals.MeterBack 5000))
    "02 01 01 01 00 E5 000F 01 23" "010112 02080000000000001388" ∷
    to_write (Err refusals.MeterJump) "02 01 01 01 00 E5 0005 01 23" "010113" ∷
    to_write (Err (refusals.LockedByOther 2))
    "02 01 01 01 00 E5 000F 01 23" "010114 02080000000000000002" ∷
    to_write (Err refusals.NotLocked) "02 01 01 01 00 E5 0005 01 23" "010115" ∷
    to_write (Err (refusals.AlreadyCleared 1))
    "02 01 01 01 00 E5 000F 01 23" "010116 02080000000000000001" ∷
    to_write (Err refusals.Ending) "02 01 01 01 00 E5 0005 01 23" "010117" ∷
    to_write (Err refusals.ShiftsSpent) "02 01 01 01 00 E5 0005 01 23" "010118" ∷
    to_write (Err refusals.MeterSpent) "02 01 01 01 00 E5 0005 01 23" "010119" ∷
    []

refusals_are_told : map tells refusal_rows ≡ map (λ row. row.text ∷ []) refusal_rows
unfolding walk front_at header_at item_at items_at address_at body_at octet two_octets four_octets
    eight_octets
refusals_are_told = refl

-- ---- views

-- a prepaid point that has started and is to end, a closed point that till 1 holds, an idle point
abbrev started : PointView
started = record {
  state = states.Started;
  out = Some 1;
  holder = Some 2;
  ending = true;
  test = false;
  preset = Money 2000;
  prepaid = Some 2000;
  price = 1500;
  volume = 0;
}

abbrev held : PointView
held = record {
  state = states.Closed;
  out = None;
  holder = Some 1;
  ending = false;
  test = false;
  preset = Unset;
  prepaid = None;
  price = 0;
  volume = 0;
}

abbrev idle : PointView
idle = record {
  state = states.Idle;
  out = None;
  holder = None;
  ending = false;
  test = false;
  preset = Unset;
  prepaid = None;
  price = 0;
  volume = 0;
}

-- a test that waits for its nozzle, and a test under way
abbrev tested : PointView
tested = record {
  state = states.Authorised;
  out = None;
  holder = Some 1;
  ending = false;
  test = true;
  preset = Unset;
  prepaid = None;
  price = 0;
  volume = 0;
}

abbrev drawing : PointView
drawing = record {
  state = states.Fuelling;
  out = Some 1;
  holder = Some 32;
  ending = false;
  test = true;
  preset = Unset;
  prepaid = None;
  price = 1500;
  volume = 5000;
}

-- a fuelling under way within a preset volume
abbrev fuelling : PointView
fuelling = record {
  state = states.Fuelling;
  out = Some 2;
  holder = Some 8;
  ending = false;
  test = false;
  preset = Volume 3000;
  prepaid = None;
  price = 1799;
  volume = 12345;
}

-- a transaction that is payable; one that was prepaid, locked; one that is cleared
abbrev payable : TransactionView
payable = record {
  price = 1799;
  volume = 12345;
  cents = 2221;
  prepaid = None;
  status = statuses.Payable;
  till = None;
  product = 2;
}

abbrev locked : TransactionView
locked = record {
  price = 1799;
  volume = 12345;
  cents = 2221;
  prepaid = Some 2000;
  status = statuses.Locked;
  till = Some 8;
  product = 2;
}

abbrev cleared : TransactionView
cleared = record {
  price = 1500;
  volume = 10000;
  cents = 1500;
  prepaid = None;
  status = statuses.Cleared;
  till = Some 1;
  product = 1;
}

abbrev metered : ProductView
metered = record {
  price = 1799;
  metered = 12345;
  running = 1;
  payable = 12344;
  locked = 2;
  cleared = 3;
  adjusted = 20000;
}

-- what a read of point 3 with token 5 is answered with: an Answer
abbrev view_rows : List Row
view_rows =
    to_write (Ok (answers.PointIs started))
    "02 01 01 01 00 25 002A 01 23"
    "100106 110101 120102 130101 5104000007D0 7204000005DC 73080000000000000000 7704000007D0" ∷
    to_write (Ok (answers.PointIs fuelling))
    "02 01 01 01 00 25 0024 01 23"
    "100108 110102 120108 130100 500400000BB8 720400000707 73080000000000003039" ∷
    to_write (Ok (answers.PointIs tested))
    "02 01 01 01 00 25 0021 01 23"
    "100105 110100 120101 130100 140101 720400000000 73080000000000000000" ∷
    to_write (Ok (answers.PointIs drawing))
    "02 01 01 01 00 25 0021 01 23"
    "100108 110101 120120 130100 140101 7204000005DC 73080000000000001388" ∷
    to_write (Ok (answers.TransactionIs payable))
    "02 01 01 01 00 25 002B 01 23"
    "720400000707 73080000000000003039 750800000000000008AD 770400000000 780102 790100 7A0102" ∷
    to_write (Ok (answers.TransactionIs locked))
    "02 01 01 01 00 25 002B 01 23"
    "720400000707 73080000000000003039 750800000000000008AD 7704000007D0 780103 790108 7A0102" ∷
    to_write (Ok (answers.TransactionIs cleared))
    "02 01 01 01 00 25 002B 01 23"
    "7204000005DC 73080000000000002710 750800000000000005DC 770400000000 780101 790101 7A0101" ∷
    to_write (Ok (answers.ProductIs metered))
    "02 01 01 01 00 25 0044 01 23 720400000707 7B080000000000003039 7C080000000000000001"
    "7D080000000000003038 7E080000000000000002 7F080000000000000003 85080000000000004E20" ∷
    to_write (Ok (answers.SiteIs (record { cents = 1500; shift = 1 })))
    "02 01 01 01 00 25 0010 01 23" "750800000000000005DC 76020001" ∷
    told "01 01 02 01 00 05 00 02 01 22" (Ok (answers.PointIs held))
    "02 01 01 01 00 25 001E 01 22" "100102 110100 120101 130100 720400000000 73080000000000000000" ∷
    told "01 01 02 01 00 03 00 02 01 23" (Ok (answers.PointIs idle))
    "02 01 01 01 00 23 001E 01 23" "100103 110100 120100 130100 720400000000 73080000000000000000" ∷
    []

views_are_told : map tells view_rows ≡ map (λ row. row.text ∷ []) view_rows
unfolding walk front_at header_at item_at items_at address_at body_at standing_items octet
    two_octets four_octets eight_octets
views_are_told = refl

-- ---- the way back: originator, token and address are those of the request

abbrev way_rows : List Row
way_rows =
    told "01 01 02 01 00 41 00 04 01 01 31 00" (Ok answers.Done)
    "02 01 01 01 00 E1 0008 01 01" "010100 030100" ∷
    told "01 01 02 01 00 47 00 04 01 01 32 00" (Ok answers.Done)
    "02 01 01 01 00 E7 0008 01 01" "010100 030100" ∷
    told "01 01 02 01 00 42 00 04 01 23 3C 00" (Err (refusals.AssignedToOther 1))
    "02 01 01 01 00 E2 000F 01 23" "01010B 02080000000000000001" ∷
    told "01 01 02 01 00 44 00 04 01 22 42 00" (Ok answers.Done)
    "02 01 01 01 00 E4 0008 01 22" "010100 030100" ∷
    told "01 01 02 02 00 46 00 04 01 23 3E 00" (Err (refusals.AssignedToOther 1))
    "02 02 01 01 00 E6 000F 01 23" "01010B 02080000000000000001" ∷
    told "01 01 02 01 00 48 00 04 01 22 43 00" (Err refusals.NotYours)
    "02 01 01 01 00 E8 0005 01 22" "01010C" ∷
    -- a dispenser's report, and the address of a transaction
    told "01 01 03 40 00 7F 00 04 01 60 60 00" (Ok answers.Done)
    "03 40 01 01 00 FF 0008 01 60" "010100 030100" ∷
    told "01 01 02 20 00 40 00 07 04 21 21 00 01 80 00" (Ok answers.Locked)
    "02 20 01 01 00 E0 000B 04 21 21 00 01" "010100 030109" ∷
    told "01 01 02 01 00 4A 00 09 06 21 22 00 01 00 01 80 00" (Ok answers.Locked)
    "02 01 01 01 00 EA 000D 06 21 22 00 01 00 01" "010100 030109" ∷
    -- a sale of an earlier shift, by the form without a shift
    told "01 01 02 01 00 4B 00 07 04 21 21 00 01 80 00" (Err refusals.NoSuchTransaction)
    "02 01 01 01 00 EB 0008 04 21 21 00 01" "010106" ∷
    told "01 01 02 01 00 49 00 08 01 81 90 04 00 00 06 40" (Ok answers.Done)
    "02 01 01 01 00 E9 0008 01 81" "010100 030100" ∷
    told "01 01 02 01 00 48 00 04 01 01 33 00" (Ok (answers.ShiftClosed 1))
    "02 01 01 01 00 E8 000C 01 01" "010100 03010C 76020001" ∷
    told "01 01 02 01 00 0A 00 02 01 01"
    (Ok (answers.SiteIs (record { cents = 1500; shift = 2 })))
    "02 01 01 01 00 2A 0010 01 01" "75080000000000 0005DC 76020002" ∷
    []

ways_back : map tells way_rows ≡ map (λ row. row.text ∷ []) way_rows
unfolding walk front_at header_at item_at items_at address_at body_at standing_items octet
    two_octets four_octets eight_octets
ways_back = refl

-- ---- numbers in place of replies, and faults of a stream

abbrev numbered_to : String → ℕ → List (List ℕ)
numbered_to text number =
    map (λ m. spelling (number_message m number)) (stream_of (octets text)).messages

abbrev numbered : ℕ → List (List ℕ)
numbered number = numbered_to "01 01 02 01 00 42 00 04 01 23 3C 00" number

-- the address stands as it came, also where its digits are none
digits_are_refused : numbered_to "01 01 02 01 00 47 00 07 04 21 21 00 0A 80 00" 55
    ≡ octets "02 01 01 01 00 E7 0008 04 21 21 00 0A 010137" ∷ []
unfolding walk front_at header_at item_at items_at address_at body_at octet two_octets four_octets
    eight_octets
digits_are_refused = refl

numbers_are_told : map numbered (30 ∷ 31 ∷ 50 ∷ 58 ∷ [])
    ≡ (octets "02 01 01 01 00 E2 0005 01 23 01011E" ∷ []) ∷
    (octets "02 01 01 01 00 E2 0005 01 23 01011F" ∷ []) ∷
    (octets "02 01 01 01 00 E2 0005 01 23 010132" ∷ []) ∷
    (octets "02 01 01 01 00 E2 0005 01 23 01013A" ∷ []) ∷ []
unfolding walk front_at header_at item_at items_at address_at body_at octet two_octets four_octets
    eight_octets
numbers_are_told = refl

-- a stream of the node 03 09, with token 31
abbrev from_dispenser_9 : GrammarFault → StreamFault
from_dispenser_9 fault = record { fault = fault; originator = octets "03 09"; token = 31 }

faults_are_told : map (λ fault. spelling (fault_message (from_dispenser_9 fault)))
    (grammar.BadCode ∷ grammar.BadKind ∷ grammar.BadLength ∷ grammar.BadItem ∷ [])
    ≡ octets "03 09 01 01 00 FF 0005 01 01 010128" ∷
    octets "03 09 01 01 00 FF 0005 01 01 010129" ∷
    octets "03 09 01 01 00 FF 0005 01 01 01012A" ∷
    octets "03 09 01 01 00 FF 0005 01 01 01012B" ∷ []
unfolding octet two_octets four_octets eight_octets
faults_are_told = refl
