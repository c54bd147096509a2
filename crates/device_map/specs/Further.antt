-- What stands behind a command, or in a read: which items are there is judged first, then their
-- widths and the ranges of their numbers.
use Rattle.std.specs.Prelude.{ℕ, List, [], ◌∷◌, length, ◌==◌, ◌&&◌, nat_le, slice_index}
use Rattle.std.specs.Prelude.{Option, Some, None, Result, Ok, Err, if◌then◌else◌}
use Rattle.std.specs.Int.{w32, w64, from_be_bytes}
use Rattle.site_base.specs.declared.limits.TheConstants.{NOZZLES}
use Rattle.site_base.specs.declared.amounts.TheConstants.{GREATEST_READING}
use Rattle.site_base.specs.declared.sale.SaleId.{SaleId}
use Rattle.site_base.specs.declared.state.Preset.{Preset}
use Rattle.site_base.specs.declared.state.Preset.TheVariants.{Unset, Volume, Money}
use Rattle.site_base.specs.Ranges.{is_between}
use Rattle.app_message.specs.Telegram.{Entry}
use Rattle.device_map.specs.declared.decimal.SaleDigits.{SaleDigits}
use Rattle.device_map.specs.declared.fault.MapFault.{MapFault}
use Rattle.device_map.specs.declared.fault.MapFault.TheVariants.{UnknownItem, ItemMissing}
use Rattle.device_map.specs.declared.fault.MapFault.TheVariants.{BadNumber}
use Rattle.device_map.specs.declared.ids.TheConstants as ids
use Rattle.device_map.specs.Stages.{◌>>=◌}
use Rattle.device_map.specs.Decimal.{sale_named}

-- no items are left
abbrev pub items_end : List Entry → Result (Unit {0}) MapFault
items_end items = if length items == 0 then Ok tt else Err UnknownItem

-- the item with this identifier, if it stands next, and the items left. Identifiers rise: a listed
-- item that isn't next isn't there
abbrev pub take_item : ℕ → List Entry → Option Entry × List Entry
take_item id [] = (None, [])
take_item id (e ∷ es) = if e.id == id then (Some e, es) else (None, e ∷ es)

-- a listed item is there
abbrev pub expect_item : Option Entry → Result Entry MapFault
expect_item None = Err ItemMissing
expect_item (Some e) = Ok e

-- the number of a content of four octets
abbrev pub four_octets_in : List ℕ → Result ℕ MapFault
four_octets_in content =
    if length content == 4 then Ok (from_be_bytes w32 content) else Err BadNumber

-- a nozzle's number, an octet
abbrev pub nozzle_in : Entry → Result ℕ MapFault
nozzle_in e =
    if length e.content == 1 && is_between 1 NOZZLES (slice_index e.content 0)
    then Ok (slice_index e.content 0)
    else Err BadNumber

-- a meter's reading, eight octets
abbrev pub reading_in : Entry → Result ℕ MapFault
reading_in e =
    if length e.content == 8 && nat_le (from_be_bytes w64 e.content) GREATEST_READING
    then Ok (from_be_bytes w64 e.content)
    else Err BadNumber

-- the preset of a volume and of money that may be there: both are one item too many
abbrev pub preset_of : Option Entry → Option Entry → Result Preset MapFault
preset_of None None = Ok Unset
preset_of (Some volume) None = do
  millilitres ← four_octets_in volume.content
  Ok (Volume millilitres)
preset_of None (Some money) = do
  cents ← four_octets_in money.content
  Ok (Money cents)
preset_of (Some volume) (Some money) = Err UnknownItem

-- a volume, or money, or nothing
unfoldable pub preset_in : List Entry → Result Preset MapFault
preset_in items = do
  let volume = take_item ids.PRESET_VOLUME items
  let money = take_item ids.PRESET_MONEY volume.1
  _ ← items_end money.1
  preset_of volume.0 money.0

-- money
unfoldable pub money_in : List Entry → Result ℕ MapFault
money_in items = do
  let money = take_item ids.PRESET_MONEY items
  _ ← items_end money.1
  item ← expect_item money.0
  four_octets_in item.content

-- a nozzle and the reading of its meter
unfoldable pub meter_in : List Entry → Result (ℕ × ℕ) MapFault
meter_in items = do
  let nozzle = take_item ids.NOZZLE items
  let reading = take_item ids.READING nozzle.1
  _ ← items_end reading.1
  nozzle_item ← expect_item nozzle.0
  reading_item ← expect_item reading.0
  number ← nozzle_in nozzle_item
  millilitres ← reading_in reading_item
  Ok (number, millilitres)

-- nothing, and a sale that the address names
unfoldable pub sale_in : SaleDigits → List Entry → Result SaleId MapFault
sale_in digits items = do
  _ ← items_end items
  sale_named digits
