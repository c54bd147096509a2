-- The book: a configuration and the rows of its history, of which it may forget the first ones.
use Rattle.std.specs.Prelude.{◌≡◌, ℕ, ◌+◌, ◌≤◌, Bool, List, [], ◌∷◌, ◌++◌, length, nat_le, Result}
use Rattle.std.specs.Prelude.{if◌then◌else◌}
use Rattle.std.specs.List.{AllByRecursion}
use Rattle.site_base.specs.declared.actor.Actor.{Actor}
use Rattle.site_base.specs.declared.answer.Answer.{Answer}
use Rattle.site_base.specs.declared.event.Event.{Event}
use Rattle.site_base.specs.declared.limits.TheConstants.{TILLS}
use Rattle.site_base.specs.declared.refusal.Refusal.{Refusal}
use Rattle.site_base.specs.declared.row.Row.{Row}
use Rattle.site_base.specs.Configured.{Configured}
use Rattle.kept_history.specs.KeptRows.{kept_rows}
use Rattle.written_site.specs.SiteState.{SiteState, opening}
use Rattle.written_site.specs.SiteStep.{reply_to}
use Rattle.written_site.specs.SiteRun.{row_to, site_of_rows, IsLegal}
use Rattle.written_site.specs.FitLaws.{AreReadable}
use Rattle.site_book.specs.declared.book.TheConstants.{FORGOTTEN_ROWS}
use Rattle.site_book.specs.SignedOn.{AreTills, IsTillActor, tills_on}

-- a configuration, the rows so far, and how many of them, from the first on, are forgotten: the
-- site goes on from them, but nobody can read them in the book any more
pub record Book : Type 0 where
  pub config : Configured
  pub rows : List Row
  pub forgotten : ℕ

-- a book that has forgotten none of its rows
abbrev pub whole_book : Configured → List Row → Book
whole_book config rows = record { config = config; rows = rows; forgotten = 0 }

-- the site that the rows lead to, from the opening site
abbrev pub site_at : Configured → List Row → SiteState
site_at config rows = site_of_rows (opening config) rows

abbrev pub site_of_book : Book → SiteState
site_of_book b = site_at b.config b.rows

-- as many rows as the configuration allows, or more, aren't forgotten
abbrev pub is_full : Book → Bool
is_full b = nat_le (b.forgotten + b.config.rows) (length b.rows)

-- the written step's reply at the book's site
abbrev pub book_reply : Book → Actor → Event → Result Answer Refusal
book_reply b actor event = reply_to (site_of_book b) actor event

-- the row of the written step at the book's site
abbrev pub next_row : Book → Actor → Event → Row
next_row b actor event = row_to (site_of_book b) actor event

-- the book with that row
abbrev pub with_row_of : Book → Actor → Event → Book
with_row_of b actor event = record b { rows = b.rows ++ next_row b actor event ∷ [] }

-- the book without its rows in memory: all are forgotten, where they can be counted
abbrev pub with_rows_forgotten : Book → Book
with_rows_forgotten b =
    if nat_le (length b.rows) FORGOTTEN_ROWS then record b { forgotten = length b.rows } else b

-- but for the rows that it has forgotten, it is the same book
pub record IsSameButForgotten (b b' : Book) : Type 0 where
  pub config : b'.config ≡ b.config
  pub rows : b'.rows ≡ b.rows
  pub site : site_of_book b' ≡ site_of_book b

-- each till that acts in these rows is one that may be
abbrev pub AreActors : List Row → Type 0
AreActors rows = AllByRecursion (λ r. IsTillActor r.actor) rows

-- the numbers that these rows carry are in range: the readings that they report, and the tills that
-- act
pub record AreRowsInRange (rows : List Row) : Type 0 where
  pub readings : AreReadable rows
  pub actors : AreActors rows

-- What the book always keeps, with these rows behind the forgotten ones: the site is that of all
-- rows, and they are a legal history whose numbers are in range. Room for one row more is reserved
-- for each till that is signed on, and with these there are, beside the forgotten rows, at most as
-- many as the configuration allows and one for each till that may be. The forgotten rows are
-- counted, and so are, of all rows, those that a history keeps: each but those of reads.
pub record IsBook (config : Configured) (earlier rows : List Row) (site : SiteState)
    (count room forgotten kept : ℕ) : Type 0 where
  pub leads : site ≡ site_at config (earlier ++ rows)
  pub legal : IsLegal (opening config) (earlier ++ rows)
  pub ranges : AreRowsInRange (earlier ++ rows)
  pub tills : AreTills site
  pub counted : count ≡ tills_on site
  pub reserved : count ≤ room
  pub few : length rows + count ≤ config.rows + TILLS
  pub counts : forgotten ≡ length earlier
  pub countable : forgotten ≤ FORGOTTEN_ROWS
  pub keeps : kept ≡ length (kept_rows (earlier ++ rows))
