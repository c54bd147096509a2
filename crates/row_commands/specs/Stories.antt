-- Which rows are the story of a sale: at its point, from the release that began the fuelling to the
-- row that sold it; behind that one, each row that names it.
use Rattle.std.specs.Prelude.{◌==◌, ◌&&◌, ℕ, Bool, true, false, not, is_ok, List, [], ◌∷◌, ◌++◌}
use Rattle.std.specs.Prelude.{Option, Some, None, length, unwrap_or, if◌then◌else◌}
use Rattle.site_base.specs.declared.event.Event.{Event}
use Rattle.site_base.specs.declared.event.Event.TheVariants.{Release, Prepay, TestRelease, HangUp}
use Rattle.site_base.specs.declared.event.Event.TheVariants.{Offline}
use Rattle.site_base.specs.declared.row.Row.{Row}
use Rattle.site_base.specs.declared.sale.SaleId.{SaleId}
use Rattle.site_base.specs.Events.{point_named, sale_named}
use Rattle.written_site.specs.SaleWords.{number_sold}
use Rattle.sales_table.specs.declared.timed_sale.SaleName.{SaleName}
use Rattle.row_commands.specs.declared.past_row.PastRow.{PastRow}

-- ---- a row

-- this number is the one that is there
abbrev pub is_number : ℕ → Option ℕ → Bool
is_number n None = false
is_number n (Some m) = m == n

-- the row is at this point
abbrev pub is_at : ℕ → Row → Bool
is_at p r = is_number p (point_named r.event)

-- the event releases a point
abbrev pub is_release : Event → Bool
is_release (Release p preset) = true
is_release (Prepay p cents) = true
is_release (TestRelease p) = true
is_release event = false

-- the row begins a fuelling at its point: an accepted release
abbrev pub begins : Row → Bool
begins r = is_ok r.reply && is_release r.event

-- the nozzle is put back, or the dispenser isn't reached any more
abbrev pub is_over : Event → Bool
is_over (HangUp p n reading) = true
is_over (Offline p) = true
is_over event = false

-- the row ends what is under way at its point
abbrev pub ends : Row → Bool
ends r = is_ok r.reply && is_over r.event

-- this row at the sale's point sold it: under its number, in its shift
abbrev pub sells : SaleName → PastRow → Bool
sells s r = is_number s.number (number_sold r.row.reply) && (r.shift == s.shift)

-- a transaction of the sale's point that a row names so is the sale; without a shift it is one of
-- the shift that is open
abbrev pub is_sale : SaleName → ℕ → Option SaleId → Bool
is_sale s shift None = false
is_sale s shift (Some id) = (unwrap_or id.shift shift == s.shift) && (id.seq == s.number)

-- the row names the sale
abbrev pub names : SaleName → PastRow → Bool
names s r = is_at s.point r.row && is_sale s r.shift (sale_named r.row.event)

-- ---- the story

-- the sale; the rows that are kept; whether it is sold
pub record StoryState : Type 0 where
  pub sale : SaleName
  pub rows : List PastRow
  pub sold : Bool

abbrev pub with_row : StoryState → PastRow → StoryState
with_row s r = record s { rows = s.rows ++ r ∷ [] }

-- a row at the point while something is under way there: it is kept; the one that sells the sale is
-- kept with those before it, and any other end forgets them
abbrev pub under_way : StoryState → PastRow → StoryState
under_way s r =
    if sells s.sale r then record (with_row s r) { sold = true }
    else if ends r.row then record s { rows = [] }
    else with_row s r

-- a row before the sale is sold: a release of its point begins the story anew, and the rows at the
-- point behind it are kept
abbrev pub before_sold : StoryState → PastRow → StoryState
before_sold s r =
    if not (is_at s.sale.point r.row) then s
    else if begins r.row then under_way (record s { rows = [] }) r
    else if length s.rows == 0 then s
    else under_way s r

-- a row: once the sale is sold, each row that names it is kept
abbrev pub story_with : StoryState → PastRow → StoryState
story_with s r =
    if not s.sold then before_sold s r else if names s.sale r then with_row s r else s
