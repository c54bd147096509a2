-- The first row of the shift that is open.
use Rattle.std.specs.Prelude.{ℕ, List, [], ◌∷◌, Option, Some, None, if◌then◌else◌, unwrap_or}
use Rattle.site_base.specs.declared.row.Row.{Row}
use Rattle.written_site.specs.RowWords.{closes_shift}
use Rattle.stamps.specs.Stamps.{later_of}
use Rattle.chapters.specs.declared.open_shift.FirstRow.{FirstRow}

-- a first row at this time, if it is known
abbrev pub first_at : Option (List ℕ) → FirstRow
first_at time = record { time = time }

-- the first row of the open shift behind this row, which was at this time: an accepted CloseShift
-- ends its shift
abbrev pub first_after : Row → Option (List ℕ) → Option FirstRow → Option FirstRow
first_after r time first =
    if closes_shift r then None else Some (unwrap_or first (first_at time))

-- .. if there is a row
abbrev pub first_with : Option Row → Option (List ℕ) → Option FirstRow → Option FirstRow
first_with None time first = first
first_with (Some r) time first = first_after r time first

-- .. behind the rows of a round at this time, behind the last time
abbrev pub first_behind : Option (List ℕ) → Option (List ℕ) → List Row → Option FirstRow
    → Option FirstRow
first_behind last now [] first = first
first_behind last now (r ∷ rows) first =
    first_behind (later_of last now) now rows (first_after r (later_of last now) first)

-- the time of a shift's first row, if it has one and its time is known
abbrev pub open_since : Option FirstRow → Option (List ℕ)
open_since None = None
open_since (Some first) = first.time
