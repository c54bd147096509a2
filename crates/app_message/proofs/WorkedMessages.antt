-- Worked messages, by computing the definitions: octets written down from the layout, and what they
-- mean.
use Prim.Native.String.{String}
use Rattle.std.specs.Prelude.{◌≡◌, ℕ, List, [], ◌∷◌, ◌++◌, map, take, drop, replicate, Option}
use Rattle.std.specs.Prelude.{Some, None}
use Rattle.std.proofs.Common.{refl}
use Rattle.app_message.specs.declared.fault.GrammarFault.{GrammarFault}
use Rattle.app_message.specs.declared.fault.GrammarFault.TheVariants as grammar
use Rattle.app_message.specs.declared.fault.MessageFault.{MessageFault}
use Rattle.app_message.specs.declared.fault.MessageFault.TheVariants.{BadLength, BadItem}
use Rattle.app_message.specs.declared.fault.MessageFault.TheVariants.{Truncated, NoMemory}
use Rattle.app_message.specs.declared.fault.StreamFault.{StreamFault}
use Rattle.app_message.specs.declared.kind.Kind.TheVariants.{Read, Answer, Write, Report, Notice}
use Rattle.app_message.specs.declared.kind.Kind.TheVariants.{Ack}
use Rattle.app_message.specs.Telegram.{Entry, Telegram, entry, telegram}
use Rattle.app_message.specs.Spelling.{kind_code, spelling}
use Rattle.app_message.specs.Parts.{parts_fault}
use Rattle.app_message.specs.Numbers.{as_message_fault, grammar_number, message_number}
use Rattle.app_message.specs.Grammar.{header_at, item_at, items_at, address_at, body_at, front_at}
use Rattle.app_message.specs.Stream.{Stream, stream, with_messages, walk, stream_of, held_part}
use Rattle.app_message.specs.Stream.{held_after, fed_by}
use Rattle.app_message.proofs.Hexadecimal.{octets}

-- ---- messages and their octets

-- till 1 signs on: to 01 01, from 02 01, Write with token 1, address 01, item 31 without content
abbrev sign_on : Telegram
sign_on = telegram (octets "01 01") (octets "02 01") Write 1 (octets "01") (entry 0x31 [] ∷ [])

-- point 3 reports a lift: Report with token 0, address 23, items 62, 70 with nozzle 1 and 71 with a
-- reading
abbrev lift : Telegram
lift = telegram (octets "01 01") (octets "03 03") Report 0 (octets "23")
    (entry 0x62 [] ∷ entry 0x70 (octets "01") ∷ entry 0x71 (octets "00 00 00 00 00 00 00 05") ∷ [])

abbrev sign_on_text : List ℕ
sign_on_text = octets "01 01 02 01 00 41 00 04 01 01 31 00"

abbrev lift_text : List ℕ
lift_text = octets "01 01 03 03 00 60 00 11 01 23 62 00 70 01 01 71 08 00 00 00 00 00 00 00 05"

spell : spelling sign_on ≡ sign_on_text
spell = refl

lift_is_spelled : spelling lift ≡ lift_text
lift_is_spelled = refl

-- the three bits of each kind
kinds_are : map kind_code (Read ∷ Answer ∷ Write ∷ Report ∷ Notice ∷ Ack ∷ [])
    ≡ 0 ∷ 1 ∷ 2 ∷ 3 ∷ 4 ∷ 7 ∷ []
kinds_are = refl

-- ---- reading, whole and by the octet

-- a stream that brought these messages, and what an octet adds to it
abbrev fed_on : Stream → List ℕ → Stream
fed_on t [] = t
fed_on t (octet ∷ more) = fed_on (with_messages t.messages (fed_by (held_part t) (octet ∷ []))) more

abbrev by_octets : List ℕ → Stream
by_octets s = fed_on (stream [] [] None) s

both_are_read : stream_of (sign_on_text ++ lift_text) ≡ stream (sign_on ∷ lift ∷ []) [] None
unfolding walk front_at header_at item_at items_at address_at body_at
both_are_read = refl

both_are_read_by_octets :
    by_octets (sign_on_text ++ lift_text) ≡ stream (sign_on ∷ lift ∷ []) [] None
unfolding walk front_at header_at item_at items_at address_at body_at
both_are_read_by_octets = refl

-- an octet short: kept, and 44 where the stream ends there
cut_short : stream_of (take 11 sign_on_text) ≡ stream [] (take 11 sign_on_text) None
unfolding walk front_at header_at
cut_short = refl

ends_are_told : map message_number (Truncated ∷ NoMemory ∷ []) ≡ 44 ∷ 31 ∷ []
ends_are_told = refl

-- ---- faults

-- what a faulty message says behind its recipient and originator, its fault, and its number
record FaultRow : Type 0 where
  text : String
  fault : GrammarFault
  number : ℕ

abbrev is_told : String → GrammarFault → ℕ → FaultRow
is_told text fault number = record { text = text; fault = fault; number = number }

abbrev faults : List FaultRow
faults =
    -- another code, and the kinds 5 and 6
    is_told "01 41 00 04" grammar.BadCode 40 ∷
    is_told "FF A1 00 01" grammar.BadCode 40 ∷
    is_told "00 A1 00 04" grammar.BadKind 41 ∷
    is_told "00 C1 00 04" grammar.BadKind 41 ∷
    is_told "00 C1 00 01" grammar.BadKind 41 ∷
    -- a body of 0, 1 and 1,025 octets
    is_told "00 41 00 00" grammar.BadLength 42 ∷
    is_told "00 41 00 01" grammar.BadLength 42 ∷
    is_told "00 41 04 01" grammar.BadLength 42 ∷
    -- an address of none, of nine, and of more octets than the body has
    is_told "00 41 00 02 00 01" grammar.BadLength 42 ∷
    is_told "00 41 00 0A 09 01 02 03 04 05 06 07 08 09" grammar.BadLength 42 ∷
    is_told "00 41 00 02 02 01" grammar.BadLength 42 ∷
    -- the address is judged before the items
    is_told "00 41 00 04 00 31 FF 00" grammar.BadLength 42 ∷
    -- an identifier twice, a lower one, a length of 255, an item above the end, one without length
    is_told "00 41 00 06 01 01 31 00 31 00" grammar.BadItem 43 ∷
    is_told "00 41 00 06 01 01 31 00 30 00" grammar.BadItem 43 ∷
    is_told "00 41 00 04 01 01 31 FF" grammar.BadItem 43 ∷
    is_told "00 41 00 04 01 01 31 01" grammar.BadItem 43 ∷
    is_told "00 41 00 03 01 01 31" grammar.BadItem 43 ∷
    []

-- a whole message, and then a faulty one of node 02 07
abbrev faulty : FaultRow → List ℕ
faulty row = sign_on_text ++ octets "01 01 02 07" ++ octets row.text

-- a fault with the originator and the token of that header
abbrev of_node_7 : GrammarFault → StreamFault
of_node_7 fault = record { fault = fault; originator = octets "02 07"; token = 1 }

-- the message, and then the fault
abbrev ended : FaultRow → Stream
ended row = stream (sign_on ∷ []) [] (Some (of_node_7 row.fault))

faults_are_found : map (λ row. stream_of (faulty row)) faults ≡ map ended faults
unfolding walk front_at header_at item_at items_at address_at body_at
faults_are_found = refl

faults_are_found_by_octets : map (λ row. by_octets (faulty row)) faults ≡ map ended faults
unfolding walk front_at header_at item_at items_at address_at body_at
faults_are_found_by_octets = refl

-- the number of each fault, and of the end that it makes
faults_are_numbered : map (λ row. grammar_number row.fault) faults ≡ map (λ row. row.number) faults
faults_are_numbered = refl

ends_are_numbered :
    map (λ row. message_number (as_message_fault row.fault)) faults ≡ map (λ row. row.number) faults
ends_are_numbered = refl

-- after a fault nothing more is read
fault_stays : fed_by (held_after (octets "01 01 02 07 09 41 00 04")) sign_on_text
    ≡ stream [] [] (Some (of_node_7 grammar.BadCode))
unfolding walk front_at header_at
fault_stays = refl

-- seven octets are kept, the next five end the message, and nothing is kept then
kept_in_between : held_after (take 7 sign_on_text) ≡ record {
  rest = take 7 sign_on_text;
  fault = None;
}
unfolding walk front_at header_at
kept_in_between = refl

ended_by_the_rest : fed_by (held_after (take 7 sign_on_text)) (drop 7 sign_on_text)
    ≡ stream (sign_on ∷ []) [] None
unfolding walk front_at header_at item_at items_at address_at body_at
ended_by_the_rest = refl

-- ---- parts of a message

-- an address, items, and the first fault of a message of these parts
record PartsRow : Type 0 where
  address : List ℕ
  items : List Entry
  fault : Option MessageFault

abbrev parts : List ℕ → List Entry → Option MessageFault → PartsRow
parts address items fault = record { address = address; items = items; fault = fault }

abbrev zeros : ℕ → List ℕ
zeros n = replicate n 0

-- three items of 254 octets and one of this size: with the address 1,024 octets where it is 252
abbrev long_items : ℕ → List Entry
long_items n =
    entry 1 (zeros 254) ∷ entry 2 (zeros 254) ∷ entry 3 (zeros 254) ∷ entry 4 (zeros n) ∷ []

abbrev rows_of_parts : List PartsRow
rows_of_parts =
    -- addresses of 0, 1, 8 and 9 octets
    parts (zeros 0) [] (Some BadLength) ∷
    parts (zeros 1) [] None ∷
    parts (zeros 8) [] None ∷
    parts (zeros 9) [] (Some BadLength) ∷
    -- 1,024 octets in all, and one more
    parts (octets "01") (long_items 252) None ∷
    parts (octets "01") (long_items 253) (Some BadLength) ∷
    -- an item above 254 octets, and more than 1,024 in all: the length comes first
    parts (octets "01") (long_items 255) (Some BadLength) ∷
    parts (octets "01") (entry 1 (zeros 255) ∷ []) (Some BadItem) ∷
    parts (octets "01") (entry 1 (zeros 254) ∷ []) None ∷
    -- identifiers that rise, stand twice, and fall
    parts (octets "01") (entry 0x30 [] ∷ entry 0x31 [] ∷ []) None ∷
    parts (octets "01") (entry 0x31 [] ∷ entry 0x31 [] ∷ []) (Some BadItem) ∷
    parts (octets "01") (entry 0x31 [] ∷ entry 0x30 [] ∷ []) (Some BadItem) ∷
    []

parts_are_judged :
    map (λ row. parts_fault row.address row.items) rows_of_parts ≡ map (λ row. row.fault)
    rows_of_parts
unfolding parts_fault
parts_are_judged = refl

-- ---- the longest message

abbrev longest : Telegram
longest = telegram (octets "01 01") (octets "02 01") Write 1 (octets "01") (long_items 252)

longest_length : take 2 (drop 6 (spelling longest)) ≡ octets "04 00"
longest_length = refl

longest_is_kept : stream_of (take 1031 (spelling longest))
    ≡ stream [] (take 1031 (spelling longest)) None
unfolding walk front_at header_at
longest_is_kept = refl

longest_is_ended :
    fed_by (held_after (take 1031 (spelling longest))) (drop 1031 (spelling longest))
    ≡ stream (longest ∷ []) [] None
unfolding walk front_at header_at item_at items_at address_at body_at
longest_is_ended = refl
