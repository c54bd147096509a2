-- What is told of a row beside who asked what and the reply: what the site shows after it.
use Rattle.std.specs.Prelude.{ℕ, List, Option, Some, None, Result, Ok, Err}
use Rattle.std.specs.Prelude.{option_and_then, option_map}
use Rattle.site_base.specs.declared.answer.Answer.{Answer}
use Rattle.site_base.specs.declared.answer.Answer.TheVariants.{Sold}
use Rattle.site_base.specs.declared.event.Event.{Event}
use Rattle.site_base.specs.declared.event.Event.TheVariants.{Lock, Unlock, Clear}
use Rattle.site_base.specs.declared.refusal.Refusal.{Refusal}
use Rattle.site_base.specs.declared.row.Row.{Row}
use Rattle.site_base.specs.declared.state.PointState.{PointState}
use Rattle.site_base.specs.Events.{point_named}
use Rattle.transaction_buffer.specs.Sales.{Key, key}
use Rattle.written_site.specs.SiteState.{SiteState, key_named, open_shift, view_point}
use Rattle.site_book.specs.declared.named_sale.NamedSale.{NamedSale}
use Rattle.site_book.specs.BookSales.{sale_named}
use Rattle.row_json.specs.declared.told_row.ToldRow.{ToldRow}

-- the state of a point, where one is named that the site has
abbrev pub state_at : SiteState → Option ℕ → Option PointState
state_at s None = None
state_at s (Some p) = option_map (λ v. v.state) (view_point s p)

-- the sale that such an event, once accepted, changes: a Lock, an Unlock or a Clear
abbrev pub key_changed : SiteState → Event → Option Key
key_changed s (Lock p id) = Some (key_named s p id)
key_changed s (Unlock p id) = Some (key_named s p id)
key_changed s (Clear p id) = Some (key_named s p id)
key_changed s event = None

-- the sale that an event with this reply makes or changes: where it is answered Sold, it makes one
-- of the shift that is open
abbrev pub key_replied : SiteState → Event → Result Answer Refusal → Option Key
key_replied s event (Ok (Sold number growth)) =
    option_map (λ p. key (open_shift s) p number) (point_named event)
key_replied s event (Ok answer) = key_changed s event
key_replied s event (Err refusal) = None

-- the sale that a row makes or changes, as it stands at the site after it
abbrev pub sale_told : SiteState → Row → Option NamedSale
sale_told s r = option_and_then (sale_named s) (key_replied s r.event r.reply)

-- a row with its number and time, and with what the site after it shows: the state of the point
-- that it names, and the sale that it makes or changes
abbrev pub told_row : SiteState → ℕ → Option (List ℕ) → Row → ToldRow
told_row s number time r = record {
  number = number;
  time = time;
  row = r;
  state = state_at s (point_named r.event);
  sale = sale_told s r;
}
