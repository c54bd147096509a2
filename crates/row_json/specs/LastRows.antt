-- The last rows of a history, as lines.
use Rattle.std.specs.Prelude.{ℕ, ◌+◌, ◌-◌, List, [], ◌∷◌, ◌++◌, Option, Some, None, drop, length}
use Rattle.std.specs.Prelude.{nat_le, slice_get, if◌then◌else◌}
use Rattle.circular_buffer.specs.Buffer.{keep_last}
use Rattle.site_base.specs.declared.row.Row.{Row}
use Rattle.written_site.specs.SiteState.{SiteState}
use Rattle.written_site.specs.SiteStep.{site_after}
use Rattle.row_json.specs.declared.sizes.TheConstants.{LAST_ROWS}
use Rattle.row_json.specs.RowObjects.{row_line}
use Rattle.row_json.specs.ToldRows.{told_row}

-- the site after the rows so far, the lines of the last of them, and the number of the next row
pub record Last : Type 0 where
  pub site : SiteState
  pub lines : List (List ℕ)
  pub next : ℕ

-- the number of the row of the first line
abbrev pub first_of : Last → ℕ
first_of l = l.next - length l.lines

-- the line of the next row, with this time
abbrev pub next_line : Option (List ℕ) → Row → Last → List ℕ
next_line time r l = row_line (told_row (site_after l.site r.actor r.event) l.next time r)

-- one row more; where there are too many lines, the first one makes way
abbrev pub with_row : Option (List ℕ) → Row → Last → Last
with_row time r l = record {
  site = site_after l.site r.actor r.event;
  lines = keep_last LAST_ROWS (l.lines ++ next_line time r l ∷ []);
  next = l.next + 1;
}

-- the line of the row of this number, if it is one of the last ones
abbrev pub line_at : Last → ℕ → Option (List ℕ)
line_at l n = if nat_le (first_of l) n then slice_get l.lines (n - first_of l) else None

-- a line, if there is one
abbrev pub line_if : Option (List ℕ) → List ℕ
line_if None = []
line_if (Some line) = line

-- the lines of the rows from this number on
abbrev pub lines_from : ℕ → Last → List (List ℕ)
lines_from n l = drop (n - first_of l) l.lines
