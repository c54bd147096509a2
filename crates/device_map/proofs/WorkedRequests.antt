-- Worked requests, by computing the definitions: messages by their octets, and what each asks for,
-- or its first fault.
use Prim.Native.String.{String}
use Rattle.std.specs.Prelude.{◌≡◌, ℕ, List, [], ◌∷◌, map, Option, Some, None, Result, Ok, Err}
use Rattle.std.proofs.Common.{refl}
use Rattle.site_base.specs.declared.actor.Actor.{Actor}
use Rattle.site_base.specs.declared.actor.Actor.TheVariants.{Till, Dispenser}
use Rattle.site_base.specs.declared.event.Event.{Event}
use Rattle.site_base.specs.declared.event.Event.TheVariants as events
use Rattle.site_base.specs.declared.sale.SaleId.{SaleId}
use Rattle.site_base.specs.declared.state.Preset.TheVariants.{Unset, Volume, Money}
use Rattle.app_message.specs.Grammar.{header_at, item_at, items_at, address_at, body_at, front_at}
use Rattle.app_message.specs.Stream.{walk, stream_of}
use Rattle.app_message.proofs.Hexadecimal.{octets}
use Rattle.device_map.specs.declared.address.Database.{Database}
use Rattle.device_map.specs.declared.address.Database.TheVariants.{Site, Point, Transaction}
use Rattle.device_map.specs.declared.address.Database.TheVariants.{Product}
use Rattle.device_map.specs.declared.decimal.Digits.{Digits}
use Rattle.device_map.specs.declared.fault.MapFault.{MapFault}
use Rattle.device_map.specs.declared.fault.MapFault.TheVariants.{NotARequest, NotForUs}
use Rattle.device_map.specs.declared.fault.MapFault.TheVariants.{BadOriginator, BadAddress}
use Rattle.device_map.specs.declared.fault.MapFault.TheVariants.{UnknownItem, ItemMissing}
use Rattle.device_map.specs.declared.fault.MapFault.TheVariants.{BadDecimal, BadNumber}
use Rattle.device_map.specs.Faults.{map_number}
use Rattle.device_map.specs.Nodes.{for_us, till_at, dispenser_at}
use Rattle.device_map.specs.Addresses.{database_at}
use Rattle.device_map.specs.Decimal.{decimal_in, sale_named}
use Rattle.device_map.specs.Further.{preset_in, money_in, meter_in, sale_in}
use Rattle.device_map.specs.Requests.{command_in, request_at}

-- a message by its octets, and what it asks for
record Row : Type 0 where
  text : String
  pair : Result (Actor × Event) MapFault

abbrev asks : String → Actor → Event → Row
asks text actor event = record { text = text; pair = Ok (actor, event) }

abbrev fails : String → MapFault → Row
fails text fault = record { text = text; pair = Err fault }

-- the messages that stand in these octets, each with what it asks for
abbrev read_in : String → List (Result (Actor × Event) MapFault)
read_in text = map request_at (stream_of (octets text)).messages

abbrev requests : List Row
requests =
    asks "01 01 02 01 00 41 00 04 01 01 31 00" (Till 1) events.SignOn ∷
    asks "01 01 02 01 00 47 00 04 01 01 32 00" (Till 1) events.SignOff ∷
    asks "01 01 02 01 00 42 00 04 01 23 3C 00" (Till 1) (events.Open 3) ∷
    asks "01 01 02 01 00 42 00 04 01 23 3D 00" (Till 1) (events.Close 3) ∷
    asks "01 01 02 01 00 44 00 04 01 22 42 00" (Till 1) (events.Assign 2) ∷
    asks "01 01 02 01 00 48 00 04 01 22 43 00" (Till 1) (events.Unassign 2) ∷
    asks "01 01 02 01 00 03 00 02 01 23" (Till 1) (events.ReadPoint 3) ∷
    asks "01 01 02 01 00 48 00 04 01 23 45 00" (Till 1) (events.TestRelease 3) ∷
    asks "01 01 02 01 00 49 00 04 01 23 40 00" (Till 1) (events.Suspend 3) ∷
    asks "01 01 02 01 00 4A 00 04 01 23 41 00" (Till 1) (events.Resume 3) ∷
    asks "01 01 02 01 00 4B 00 04 01 23 3F 00" (Till 1) (events.Terminate 3) ∷
    -- the last till, and the last point
    asks "01 01 02 20 00 40 00 04 01 60 42 00" (Till 32) (events.Assign 64) ∷
    asks "01 01 02 20 00 1F 00 02 01 60" (Till 32) (events.ReadPoint 64) ∷
    -- a point that only a larger site has: the site tells whether it is there
    asks "01 01 02 01 00 03 00 02 01 26" (Till 1) (events.ReadPoint 6) ∷
    []

requests_ask : map (λ row. read_in row.text) requests ≡ map (λ row. row.pair ∷ []) requests
unfolding request_at for_us till_at database_at command_in
    walk front_at header_at item_at items_at address_at body_at
requests_ask = refl

-- ---- presets, meters and reports

abbrev carrying : List Row
carrying =
    asks "01 01 02 01 00 45 00 04 01 23 3E 00" (Till 1) (events.Release 3 Unset) ∷
    asks "01 01 02 01 00 45 00 0A 01 23 3E 00 50 04 00 00 0B B8"
    (Till 1) (events.Release 3 (Volume 3000)) ∷
    asks "01 01 02 01 00 45 00 0A 01 23 3E 00 51 04 00 00 07 D0"
    (Till 1) (events.Release 3 (Money 2000)) ∷
    -- a preset out of range is the site's to refuse
    asks "01 01 02 01 00 45 00 0A 01 23 3E 00 50 04 00 00 00 00"
    (Till 1) (events.Release 3 (Volume 0)) ∷
    asks "01 01 02 01 00 45 00 0A 01 23 3E 00 51 04 FF FF FF FF"
    (Till 1) (events.Release 3 (Money 4294967295)) ∷
    asks "01 01 02 01 00 45 00 0A 01 21 44 00 51 04 00 00 07 D0"
    (Till 1) (events.Prepay 1 2000) ∷
    asks "01 01 02 01 00 41 00 11 01 21 46 00 70 01 02 71 08 00 00 00 00 00 00 00 07"
    (Till 1) (events.ReplaceMeter 1 2 7) ∷
    asks "01 01 03 01 00 61 00 04 01 21 60 00" (Dispenser 1) (events.Online 1) ∷
    asks "01 01 03 40 00 61 00 04 01 60 60 00" (Dispenser 64) (events.Online 64) ∷
    asks "01 01 03 01 00 62 00 11 01 21 62 00 70 01 02 71 08 00 00 00 00 00 00 03 E8"
    (Dispenser 1) (events.Lift 1 2 1000) ∷
    -- the last nozzle, and the greatest reading
    asks "01 01 03 01 00 62 00 11 01 21 62 00 70 01 08 71 08 00 00 00 E8 D4 A5 0F FF"
    (Dispenser 1) (events.Lift 1 8 999999999999) ∷
    asks "01 01 03 01 00 63 00 04 01 21 61 00" (Dispenser 1) (events.Offline 1) ∷
    asks "01 01 03 01 00 63 00 11 01 21 63 00 70 01 01 71 08 00 00 00 00 00 00 13 88"
    (Dispenser 1) (events.Flow 1 1 5000) ∷
    asks "01 01 03 03 00 64 00 11 01 23 64 00 70 01 02 71 08 00 00 00 00 00 00 34 21"
    (Dispenser 3) (events.HangUp 3 2 13345) ∷
    -- products are read
    asks "01 01 02 01 00 01 00 02 01 81" (Till 1) (events.ReadProduct 1) ∷
    asks "01 01 02 01 00 01 00 02 01 88" (Till 1) (events.ReadProduct 8) ∷
    -- a dispenser that speaks of another point is the site's to refuse
    asks "01 01 03 02 00 61 00 04 01 21 60 00" (Dispenser 2) (events.Online 1) ∷
    []

carrying_asks : map (λ row. read_in row.text) carrying ≡ map (λ row. row.pair ∷ []) carrying
unfolding request_at for_us till_at dispenser_at database_at command_in preset_in money_in meter_in
    walk front_at header_at item_at items_at address_at body_at
carrying_asks = refl

-- ---- transactions

abbrev sale : Option ℕ → ℕ → SaleId
sale shift seq = record { shift = shift; seq = seq }

abbrev transactions : List Row
transactions =
    asks "01 01 02 01 00 01 00 05 04 23 21 00 01"
    (Till 1) (events.ReadTransaction 3 (sale None 1)) ∷
    asks "01 01 02 01 00 01 00 05 04 60 21 99 99"
    (Till 1) (events.ReadTransaction 64 (sale None 9999)) ∷
    asks "01 01 02 01 00 01 00 07 06 23 22 00 02 00 01"
    (Till 1) (events.ReadTransaction 3 (sale (Some 2) 1)) ∷
    asks "01 01 02 01 00 01 00 07 06 21 22 09 99 12 34"
    (Till 1) (events.ReadTransaction 1 (sale (Some 999) 1234)) ∷
    -- each of the four digits above 9, and 0000
    fails "01 01 02 01 00 01 00 05 04 21 21 A0 00" BadDecimal ∷
    fails "01 01 02 01 00 01 00 05 04 21 21 0A 80" BadDecimal ∷
    fails "01 01 02 01 00 01 00 05 04 21 21 00 A0" BadDecimal ∷
    fails "01 01 02 01 00 01 00 05 04 21 21 00 0A" BadDecimal ∷
    fails "01 01 02 01 00 01 00 05 04 21 21 00 00" BadDecimal ∷
    -- shift 0000 and 1000, a shift of no digits, and one with sequence 0000
    fails "01 01 02 01 00 01 00 07 06 21 22 00 00 00 01" BadDecimal ∷
    fails "01 01 02 01 00 01 00 07 06 21 22 10 00 00 01" BadDecimal ∷
    fails "01 01 02 01 00 01 00 07 06 21 22 00 0A 00 01" BadDecimal ∷
    fails "01 01 02 01 00 01 00 07 06 21 22 00 01 00 00" BadDecimal ∷
    -- an item in a read comes before the digits
    fails "01 01 02 01 00 01 00 07 04 21 21 00 0A 80 00" UnknownItem ∷
    []

transactions_ask :
    map (λ row. read_in row.text) transactions ≡ map (λ row. row.pair ∷ []) transactions
unfolding request_at for_us till_at database_at command_in sale_in sale_named decimal_in
    walk front_at header_at item_at items_at address_at body_at
transactions_ask = refl

-- what tills ask of transactions: no shift is the open one
abbrev payments : List Row
payments =
    asks "01 01 02 01 00 4B 00 07 04 21 21 00 01 80 00" (Till 1) (events.Lock 1 (sale None 1)) ∷
    asks "01 01 02 01 00 4A 00 09 06 21 22 00 01 00 01 80 00"
    (Till 1) (events.Lock 1 (sale (Some 1) 1)) ∷
    asks "01 01 02 02 00 41 00 07 04 23 21 00 02 81 00" (Till 2) (events.Unlock 3 (sale None 2)) ∷
    asks "01 01 02 02 00 41 00 09 06 23 22 00 02 00 02 81 00"
    (Till 2) (events.Unlock 3 (sale (Some 2) 2)) ∷
    asks "01 01 02 20 00 41 00 07 04 60 21 99 99 82 00"
    (Till 32) (events.Clear 64 (sale None 9999)) ∷
    asks "01 01 02 20 00 41 00 09 06 60 22 09 99 99 99 82 00"
    (Till 32) (events.Clear 64 (sale (Some 999) 9999)) ∷
    -- a digit above 9, 0000, shift 0000 and 1000
    fails "01 01 02 01 00 47 00 07 04 21 21 00 0A 80 00" BadDecimal ∷
    fails "01 01 02 01 00 47 00 07 04 21 21 00 00 81 00" BadDecimal ∷
    fails "01 01 02 01 00 47 00 09 06 21 22 00 00 00 01 82 00" BadDecimal ∷
    fails "01 01 02 01 00 47 00 09 06 21 22 10 00 00 01 80 00" BadDecimal ∷
    -- a command that is none of a transaction's, one behind another, and none: before the digits
    fails "01 01 02 01 00 47 00 07 04 21 21 00 0A 83 00" UnknownItem ∷
    fails "01 01 02 01 00 47 00 07 04 21 21 00 0A 3C 00" UnknownItem ∷
    fails "01 01 02 01 00 47 00 09 04 21 21 00 0A 80 00 81 00" UnknownItem ∷
    fails "01 01 02 01 00 47 00 05 04 21 21 00 0A" ItemMissing ∷
    -- content: behind the digits
    fails "01 01 02 01 00 47 00 08 04 21 21 00 0A 80 01 00" BadDecimal ∷
    fails "01 01 02 01 00 47 00 08 04 21 21 00 01 80 01 00" BadNumber ∷
    -- till 33
    fails "01 01 02 21 00 47 00 07 04 21 21 00 01 80 00" BadOriginator ∷
    []

payments_ask : map (λ row. read_in row.text) payments ≡ map (λ row. row.pair ∷ []) payments
unfolding request_at for_us till_at database_at command_in sale_in sale_named decimal_in
    walk front_at header_at item_at items_at address_at body_at
payments_ask = refl

-- ---- prices, shifts and the site

abbrev managing : List Row
managing =
    asks "01 01 02 01 00 49 00 08 01 81 90 04 00 00 06 40" (Till 1) (events.SetPrice 1 1600) ∷
    asks "01 01 02 20 00 49 00 08 01 88 90 04 00 01 86 9F" (Till 32) (events.SetPrice 8 99999) ∷
    -- a price out of range is the site's to refuse, and so is a till that is no manager
    asks "01 01 02 01 00 49 00 08 01 81 90 04 00 00 00 00" (Till 1) (events.SetPrice 1 0) ∷
    asks "01 01 02 02 00 49 00 08 01 81 90 04 00 01 86 A0" (Till 2) (events.SetPrice 1 100000) ∷
    asks "01 01 02 01 00 49 00 08 01 81 90 04 FF FF FF FF" (Till 1) (events.SetPrice 1 4294967295) ∷
    asks "01 01 02 01 00 48 00 04 01 01 33 00" (Till 1) events.CloseShift ∷
    asks "01 01 02 01 00 0A 00 02 01 01" (Till 1) events.ReadSite ∷
    -- an item behind a price, even of a wrong width, and one behind a close
    fails "01 01 02 01 00 49 00 0A 01 81 90 04 00 00 06 40 91 00" UnknownItem ∷
    fails "01 01 02 01 00 49 00 06 01 81 90 00 91 00" UnknownItem ∷
    fails "01 01 02 01 00 48 00 06 01 01 33 00 34 00" UnknownItem ∷
    -- a site's command to a product, a product's to the site and to a point, the site read with one
    fails "01 01 02 01 00 49 00 04 01 81 33 00" UnknownItem ∷
    fails "01 01 02 01 00 49 00 08 01 01 90 04 00 00 06 40" UnknownItem ∷
    fails "01 01 02 01 00 49 00 08 01 21 90 04 00 00 06 40" UnknownItem ∷
    fails "01 01 02 01 00 01 00 04 01 01 31 00" UnknownItem ∷
    -- no command to a product
    fails "01 01 02 01 00 41 00 02 01 81" ItemMissing ∷
    -- a price of none, of two, three and five octets, and a close with content
    fails "01 01 02 01 00 49 00 04 01 81 90 00" BadNumber ∷
    fails "01 01 02 01 00 49 00 06 01 81 90 02 06 40" BadNumber ∷
    fails "01 01 02 01 00 49 00 07 01 81 90 03 00 06 40" BadNumber ∷
    fails "01 01 02 01 00 49 00 09 01 81 90 05 00 00 00 06 40" BadNumber ∷
    fails "01 01 02 01 00 48 00 05 01 01 33 01 00" BadNumber ∷
    []

managing_asks : map (λ row. read_in row.text) managing ≡ map (λ row. row.pair ∷ []) managing
unfolding request_at for_us till_at database_at command_in
    walk front_at header_at item_at items_at address_at body_at
managing_asks = refl

-- ---- messages that ask for nothing

-- in each group the first fault is told: what stands behind it is wrong too
abbrev no_requests : List Row
no_requests =
    -- an Answer, a Notice and an Ack, for another site, from nobody, of no database
    fails "01 02 09 09 00 21 00 02 01 99" NotARequest ∷
    fails "01 02 09 09 00 81 00 02 01 99" NotARequest ∷
    fails "01 02 09 09 00 E1 00 02 01 99" NotARequest ∷
    -- another node, another subnet
    fails "01 02 09 09 00 41 00 02 01 99" NotForUs ∷
    fails "02 01 09 09 00 41 00 02 01 99" NotForUs ∷
    -- tills 0 and 33, a dispenser that writes and one that reads
    fails "01 01 02 00 00 41 00 02 01 99" BadOriginator ∷
    fails "01 01 02 21 00 41 00 02 01 99" BadOriginator ∷
    fails "01 01 03 02 00 41 00 04 01 22 42 00" BadOriginator ∷
    fails "01 01 03 02 00 01 00 02 01 22" BadOriginator ∷
    -- a till that reports, dispensers 0 and 65
    fails "01 01 02 01 00 61 00 02 01 99" BadOriginator ∷
    fails "01 01 03 00 00 61 00 02 01 99" BadOriginator ∷
    fails "01 01 03 41 00 61 00 02 01 99" BadOriginator ∷
    -- points 0 and 65, no product 0 and 9, two octets, the site with an octet more
    fails "01 01 02 01 00 41 00 02 01 20" BadAddress ∷
    fails "01 01 02 20 00 41 00 02 01 61" BadAddress ∷
    fails "01 01 02 01 00 41 00 02 01 80" BadAddress ∷
    fails "01 01 02 01 00 41 00 02 01 89" BadAddress ∷
    fails "01 01 02 01 00 41 00 03 02 21 21" BadAddress ∷
    fails "01 01 02 01 00 41 00 03 02 01 01" BadAddress ∷
    -- a transaction of point 65, of another form, with an octet too few and one too many
    fails "01 01 02 01 00 01 00 05 04 61 21 00 01" BadAddress ∷
    fails "01 01 02 01 00 01 00 05 04 21 22 00 01" BadAddress ∷
    fails "01 01 02 01 00 01 00 07 06 21 21 00 01 00 01" BadAddress ∷
    fails "01 01 02 01 00 01 00 04 03 21 21 00" BadAddress ∷
    fails "01 01 02 01 00 01 00 06 05 21 21 00 01 00" BadAddress ∷
    -- a dispenser reports nothing of the site, of a product, nor of a transaction
    fails "01 01 03 02 00 61 00 04 01 01 60 00" BadAddress ∷
    fails "01 01 03 01 00 61 00 04 01 81 60 00" BadAddress ∷
    fails "01 01 03 01 00 61 00 07 04 21 21 00 01 60 00" BadAddress ∷
    -- a first item that is no command, with content
    fails "01 01 02 01 00 41 00 05 01 21 31 01 00" UnknownItem ∷
    -- a point's command to the site, and the site's to a point
    fails "01 01 02 01 00 41 00 04 01 01 42 00" UnknownItem ∷
    fails "01 01 02 01 00 41 00 04 01 01 43 00" UnknownItem ∷
    fails "01 01 02 01 00 41 00 04 01 22 32 00" UnknownItem ∷
    -- a till's command reported, and a report written
    fails "01 01 03 02 00 61 00 04 01 22 42 00" UnknownItem ∷
    fails "01 01 02 01 00 41 00 04 01 22 60 00" UnknownItem ∷
    -- a command behind another, and content in the first
    fails "01 01 02 01 00 41 00 06 01 22 42 00 43 00" UnknownItem ∷
    fails "01 01 02 01 00 41 00 07 01 22 42 01 00 43 00" UnknownItem ∷
    -- a read with an item
    fails "01 01 02 01 00 01 00 04 01 21 3C 00" UnknownItem ∷
    fails "01 01 02 01 00 01 00 04 01 81 90 00" UnknownItem ∷
    -- no command, at a point and at the site
    fails "01 01 02 01 00 41 00 02 01 21" ItemMissing ∷
    fails "01 01 02 01 00 41 00 02 01 01" ItemMissing ∷
    -- a command with content
    fails "01 01 02 01 00 41 00 05 01 21 3C 01 00" BadNumber ∷
    fails "01 01 02 01 00 41 00 05 01 22 42 01 00" BadNumber ∷
    []

no_requests_ask : map (λ row. read_in row.text) no_requests ≡ map (λ row. row.pair ∷ []) no_requests
unfolding request_at for_us till_at dispenser_at database_at command_in walk front_at header_at
    item_at items_at address_at body_at
no_requests_ask = refl

-- what stands behind commands
abbrev strange_items : List Row
strange_items =
    -- both presets, even of wrong widths, another item, and one behind a preset
    fails "01 01 02 01 00 45 00 10 01 23 3E 00 50 04 00 00 0B B8 51 04 00 00 07 D0" UnknownItem ∷
    fails "01 01 02 01 00 45 00 08 01 23 3E 00 50 00 51 00" UnknownItem ∷
    fails "01 01 02 01 00 45 00 06 01 23 3E 00 52 00" UnknownItem ∷
    fails "01 01 02 01 00 45 00 0C 01 23 3E 00 50 04 00 00 0B B8 52 00" UnknownItem ∷
    -- a prepayment by volume, by both, and by money with another item
    fails "01 01 02 01 00 45 00 0A 01 21 44 00 50 04 00 00 0B B8" UnknownItem ∷
    fails "01 01 02 01 00 45 00 08 01 21 44 00 50 00 51 00" UnknownItem ∷
    fails "01 01 02 01 00 45 00 08 01 21 44 00 51 00 52 00" UnknownItem ∷
    -- a test with a preset
    fails "01 01 02 01 00 45 00 0A 01 21 45 00 51 04 00 00 07 D0" UnknownItem ∷
    -- another item before, between and behind a nozzle and its reading, each of them empty
    fails "01 01 03 01 00 62 00 0A 01 21 62 00 6F 00 70 00 71 00" UnknownItem ∷
    fails "01 01 03 01 00 62 00 0A 01 21 62 00 70 00 71 00 72 00" UnknownItem ∷
    -- another item in place of the reading, and of both
    fails "01 01 03 01 00 62 00 08 01 21 62 00 70 00 72 00" UnknownItem ∷
    fails "01 01 03 01 00 62 00 08 01 21 62 00 71 00 72 00" UnknownItem ∷
    fails "01 01 03 01 00 62 00 06 01 21 62 00 72 00" UnknownItem ∷
    -- an online with a nozzle
    fails "01 01 03 01 00 61 00 07 01 21 60 00 70 01 01" UnknownItem ∷
    -- no money; no nozzle and reading, no reading, no nozzle; a report of nothing
    fails "01 01 02 01 00 45 00 04 01 21 44 00" ItemMissing ∷
    fails "01 01 03 01 00 62 00 04 01 21 62 00" ItemMissing ∷
    fails "01 01 03 01 00 62 00 06 01 21 62 00 70 00" ItemMissing ∷
    fails "01 01 03 01 00 62 00 06 01 21 62 00 71 00" ItemMissing ∷
    fails "01 01 02 01 00 41 00 07 01 21 46 00 70 01 02" ItemMissing ∷
    fails "01 01 03 01 00 61 00 02 01 21" ItemMissing ∷
    []

strange_items_ask :
    map (λ row. read_in row.text) strange_items ≡ map (λ row. row.pair ∷ []) strange_items
unfolding request_at for_us till_at dispenser_at database_at command_in preset_in money_in meter_in
    walk front_at header_at item_at items_at address_at body_at
strange_items_ask = refl

-- widths and ranges
abbrev bad_numbers : List Row
bad_numbers =
    -- a preset of three octets, money of five, a prepayment of none
    fails "01 01 02 01 00 45 00 09 01 23 3E 00 50 03 00 0B B8" BadNumber ∷
    fails "01 01 02 01 00 45 00 0B 01 23 3E 00 51 05 00 00 00 07 D0" BadNumber ∷
    fails "01 01 02 01 00 45 00 06 01 21 44 00 51 00" BadNumber ∷
    -- content in the command of a right request
    fails "01 01 02 01 00 45 00 0B 01 23 3E 01 00 50 04 00 00 0B B8" BadNumber ∷
    -- nozzles 0 and 9, and one of two octets
    fails "01 01 03 01 00 62 00 11 01 21 62 00 70 01 00 71 08 00 00 00 00 00 00 03 E8" BadNumber ∷
    fails "01 01 03 01 00 62 00 11 01 21 62 00 70 01 09 71 08 00 00 00 00 00 00 03 E8" BadNumber ∷
    fails "01 01 03 01 00 62 00 12 01 21 62 00 70 02 00 01 71 08 00 00 00 00 00 00 03 E8"
    BadNumber ∷
    -- the reading 1,000,000,000,000, and one of seven octets
    fails "01 01 03 01 00 62 00 11 01 21 62 00 70 01 02 71 08 00 00 00 E8 D4 A5 10 00" BadNumber ∷
    fails "01 01 03 01 00 62 00 10 01 21 62 00 70 01 02 71 07 00 00 00 00 00 03 E8" BadNumber ∷
    fails "01 01 02 01 00 41 00 11 01 21 46 00 70 01 09 71 08 00 00 00 00 00 00 00 07" BadNumber ∷
    []

bad_numbers_ask :
    map (λ row. read_in row.text) bad_numbers ≡ map (λ row. row.pair ∷ []) bad_numbers
unfolding request_at for_us till_at dispenser_at database_at command_in preset_in money_in meter_in
    walk front_at header_at item_at items_at address_at body_at
bad_numbers_ask = refl

-- the octets of an address, and the database that it names
record AddressRow : Type 0 where
  text : String
  database : Result Database MapFault

abbrev names : String → Result Database MapFault → AddressRow
names text database = record { text = text; database = database }

-- two octets as they came
abbrev digits : ℕ → ℕ → Digits
digits high low = record { high = high; low = low }

abbrev transaction : ℕ → Option Digits → Digits → Result Database MapFault
transaction p shift seq = Ok (Transaction p (record { shift = shift; seq = seq }))

-- the five forms of an address; digits stay as they came, also where they are none
abbrev addresses : List AddressRow
addresses =
    names "01" (Ok Site) ∷
    names "21" (Ok (Point 1)) ∷
    names "60" (Ok (Point 64)) ∷
    names "21 21 12 34" (transaction 1 None (digits 18 52)) ∷
    names "60 21 AB 00" (transaction 64 None (digits 171 0)) ∷
    names "21 22 09 99 12 34" (transaction 1 (Some (digits 9 153)) (digits 18 52)) ∷
    names "81" (Ok (Product 1)) ∷
    names "88" (Ok (Product 8)) ∷
    -- another form, a point out of range, and three octets
    names "21 22 00 01" (Err BadAddress) ∷
    names "20 21 00 01" (Err BadAddress) ∷
    names "61 21 00 01" (Err BadAddress) ∷
    names "20 22 00 01 00 01" (Err BadAddress) ∷
    names "21 21 00 01 00 01" (Err BadAddress) ∷
    names "21 21 00" (Err BadAddress) ∷
    names "02" (Err BadAddress) ∷
    []

addresses_name :
    map (λ row. database_at (octets row.text)) addresses ≡ map (λ row. row.database) addresses
unfolding database_at
addresses_name = refl

-- in the order in which they are looked for
faults_are_numbered : map map_number (NotARequest ∷ NotForUs ∷ BadOriginator ∷ BadAddress ∷ [])
    ≡ 58 ∷ 50 ∷ 51 ∷ 52 ∷ []
faults_are_numbered = refl

later_faults_are_numbered : map map_number (UnknownItem ∷ ItemMissing ∷ BadDecimal ∷ BadNumber ∷ [])
    ≡ 53 ∷ 54 ∷ 55 ∷ 56 ∷ []
later_faults_are_numbered = refl
