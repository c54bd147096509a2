-- The sales of a history with their times, and those whose clear lies in a span of time.
use Rattle.std.specs.Prelude.{ℕ, Bool, true, false, if◌then◌else◌, List, [], ◌∷◌, ◌++◌, Option}
use Rattle.std.specs.Prelude.{Some, None, codes, flat_map, is_ok, filter}
use Rattle.std.specs.List.{list_any}
use Rattle.serde_json.specs.Written.{compact_text}
use Rattle.stamps.specs.Stamps.{is_between}
use Rattle.stamps.specs.declared.span.TimeSpan.{TimeSpan}
use Rattle.site_base.specs.declared.actor.Actor.{Actor}
use Rattle.site_base.specs.declared.actor.Actor.TheVariants.{Till}
use Rattle.site_base.specs.declared.config.ProductEntry.{ProductEntry}
use Rattle.site_base.specs.declared.event.Event.{Event}
use Rattle.site_base.specs.declared.event.Event.TheVariants.{Clear}
use Rattle.site_base.specs.declared.row.Row.{Row}
use Rattle.transaction_buffer.specs.Sales.{Key, key, same_key}
use Rattle.written_site.specs.SaleWords.{key_after}
use Rattle.site_book.specs.declared.named_sale.NamedSale.{NamedSale}
use Rattle.sales_table.specs.declared.form.Form.{Form}
use Rattle.sales_table.specs.declared.form.Form.TheVariants.{Csv, Json}
use Rattle.sales_table.specs.declared.timed_sale.SaleName.{SaleName}
use Rattle.sales_table.specs.declared.timed_sale.TimedSale.{TimedSale}
use Rattle.sales_table.specs.Objects.{timed_data}
use Rattle.sales_table.specs.Tables.{sale_line}

-- ---- names

abbrev pub key_of : SaleName → Key
key_of n = key n.shift n.point n.number

-- the name of a sale with this key
abbrev pub name_of_key : Key → SaleName
name_of_key k = record { shift = k.shift; point = k.point; number = k.number }

-- ---- the times of a sale

-- a sale that was just sold, at this time if it is known
abbrev pub just_sold : Option (List ℕ) → Key → TimedSale
just_sold time k = record { name = name_of_key k; sold_at = time; cleared_at = None }

-- the name of the sale that such an event, once accepted, clears
abbrev pub key_clear : List Row → Actor → Event → Option Key
key_clear earlier (Till t) (Clear p id) = Some (key_after earlier p id)
key_clear earlier actor event = None

-- the name of the sale that a row clears: an accepted Clear
abbrev pub key_cleared : List Row → Row → Option Key
key_cleared earlier r = if is_ok r.reply then key_clear earlier r.actor r.event else None

-- it is the sale of this name
abbrev pub is_named : SaleName → TimedSale → Bool
is_named name t = same_key (key_of t.name) (key_of name)

-- the sales, once the last one of this name was cleared at this time
abbrev pub with_clear_of : SaleName → Option (List ℕ) → List TimedSale → List TimedSale
with_clear_of name time [] = []
with_clear_of name time (t ∷ sales) =
    if list_any (is_named name) sales then t ∷ with_clear_of name time sales
    else (if is_named name t then record t { cleared_at = time } else t) ∷ sales

-- ---- the filter

-- a sale was cleared at a time in the span
abbrev pub is_cleared_in : TimeSpan → Option (List ℕ) → Bool
is_cleared_in span None = false
is_cleared_in span (Some time) = is_between span.from span.to time

-- a sale is asked for: without a span each one is, else one that was cleared in it
abbrev pub is_asked : Option TimeSpan → TimedSale → Bool
is_asked None t = true
is_asked (Some span) t = is_cleared_in span t.cleared_at

-- the sales that are asked for
abbrev pub asked_sales : Option TimeSpan → List TimedSale → List TimedSale
asked_sales span sales = filter (is_asked span) sales

-- ---- lines

abbrev pub time_titles : List (List ℕ)
time_titles = codes "sold at" ∷ codes "cleared at" ∷ []

-- a time, or nothing
abbrev pub time_field : Option (List ℕ) → List ℕ
time_field None = []
time_field (Some time) = time

abbrev pub time_fields : TimedSale → List (List ℕ)
time_fields t = time_field t.sold_at ∷ time_field t.cleared_at ∷ []

-- the line of a sale with its times
abbrev pub timed_text : Form → List ProductEntry → TimedSale → NamedSale → List ℕ
timed_text Csv products t x = sale_line products (time_fields t) x
timed_text Json products t x = compact_text (timed_data products t x) ++ codes "\n"
