-- The figures of some shifts of a history.
use Rattle.std.specs.Prelude.{◌≡◌, ◌≤◌, ◌<◌, ◌+◌, ℕ, List, [], ◌∷◌, ◌++◌, Option, Some, None}
use Rattle.std.specs.Prelude.{nat_le}
use Rattle.std.specs.Prelude.{if◌then◌else◌}
use Rattle.site_base.specs.declared.row.Row.{Row}
use Rattle.site_base.specs.declared.totals.Totals.{Totals}
use Rattle.written_site.specs.RowWords.{closes_shift, open_after}
use Rattle.site_book.specs.Book.{Book, whole_book}
use Rattle.site_book.specs.Figures.{AreFiguresOf}
use Rattle.past_rows.specs.declared.shifts.ShiftRange.{ShiftRange}
use Rattle.past_rows.specs.FiguresBetween.{figures_between}

-- the shift that is open behind a row, where this one was before it
abbrev pub shift_behind : Row → ℕ → ℕ
shift_behind r h = if closes_shift r then h + 1 else h

-- the rows up to the first moment at which shift n or a later one is open, where shift h was before
-- them
abbrev pub until_from : ℕ → ℕ → List Row → List Row
until_from n h [] = []
until_from n h (r ∷ rows) =
    if nat_le n h then [] else r ∷ until_from n (shift_behind r h) rows

-- the rows before shift n: those up to the one that opens it
abbrev pub until_shift : ℕ → List Row → List Row
until_shift n rows = until_from n 1 rows

-- the totals are those of the book's rows before shift n
abbrev pub AreOfRowsBefore : ℕ → Book → Totals → Type 0
AreOfRowsBefore n b totals = AreFiguresOf (whole_book b.config (until_shift n b.rows)) totals

-- the totals before shift n are taken just if it has been opened
abbrev pub IsTaken : ℕ → Book → Option Totals → Type 0
IsTaken n b None = open_after b.rows < n
IsTaken n b (Some totals) = (n ≤ open_after b.rows) × AreOfRowsBefore n b totals

-- of which shifts; the totals before the first of them, and those behind the last one
pub record FiguresState : Type 0 where
  pub shifts : ShiftRange
  pub before : Option Totals
  pub after : Option Totals

-- the book was looked at as it stands, and at each moment before
pub record HasTaken (f : FiguresState) (b : Book) : Type 0 where
  pub before : IsTaken f.shifts.first b f.before
  pub after : IsTaken (f.shifts.last + 1) b f.after

-- the book has one row more than it had
pub record IsNextBook (earlier b : Book) : Type 0 where
  pub row : Row
  pub config : b.config ≡ earlier.config
  pub rows : b.rows ≡ earlier.rows ++ row ∷ []

-- the figures of these shifts: between the moment that opened the first of them and the one that
-- closed the last, or the book's end
pub record AreOfShifts (shifts : ShiftRange) (b : Book) (totals : Totals) : Type 0 where
  pub before : Totals
  pub after : Totals
  pub begins : AreOfRowsBefore shifts.first b before
  pub ends : AreOfRowsBefore (shifts.last + 1) b after
  pub between : totals ≡ figures_between before after

-- the first of these shifts isn't open yet
abbrev pub IsBefore : ShiftRange → Book → Type 0
IsBefore shifts b = open_after b.rows < shifts.first
