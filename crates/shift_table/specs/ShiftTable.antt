-- The table of a book's shifts.
use Rattle.std.specs.Prelude.{ℕ, ◌+◌, ◌-◌, ◌==◌, List, [], ◌++◌, Option, Some, None, codes}
use Rattle.std.specs.Prelude.{flat_map, min}
use Rattle.std.specs.List.{range_with_len}
use Rattle.serde_json.specs.Written.{compact_text}
use Rattle.shift_ledger.specs.declared.row.ShiftRow.{ShiftRow}
use Rattle.site_book.specs.Book.{Book, site_of_book}
use Rattle.site_core.specs.Accounts.{shift_row}
use Rattle.written_site.specs.SiteState.{open_shift}
use Rattle.shift_table.specs.declared.form.Form.{Form}
use Rattle.shift_table.specs.declared.form.Form.TheVariants.{Text, Json}
use Rattle.row_tally.specs.declared.shift_times.ShiftTimes.{ShiftTimes}
use Rattle.shift_table.specs.declared.table.TheConstants.{SHIFTS_AT_ONCE}
use Rattle.shift_table.specs.ShiftLines.{shift_line}
use Rattle.shift_table.specs.ShiftObjects.{shift_data}
use Rattle.row_tally.specs.ShiftTimes.{TimesRead, times_of_shift}

-- the figures of shift n of a book, if it is open or closed
abbrev pub figures_of : Book → ℕ → Option ShiftRow
figures_of b n = shift_row n (site_of_book b).sales (site_of_book b).drawn

-- the number of a book's open shift
abbrev pub open_of : Book → ℕ
open_of b = open_shift (site_of_book b)

-- the line of shift n of a book, with these times and figures
abbrev pub line_of : Form → Book → ℕ → ShiftTimes → Option ShiftRow → List ℕ
line_of form b n times None = []
line_of Text b n times (Some row) = shift_line b.config.products n times row
line_of Json b n times (Some row) =
    compact_text (shift_data b.config.products n (n == open_of b) times row) ++ codes "\n"

-- the line of shift n of a book, with the times that were read
abbrev pub line_at : Form → Book → TimesRead → ℕ → List ℕ
line_at form b read n = line_of form b n (times_of_shift n read) (figures_of b n)

-- the lines of this many shifts of a book, from shift n on
abbrev pub lines_from : Form → Book → TimesRead → ℕ → ℕ → List ℕ
lines_from form b read n count = flat_map (line_at form b read) (range_with_len n count)

-- the table of a book's shifts: a line for each, from shift 1 to the open one
abbrev pub shifts_text : Form → Book → TimesRead → List ℕ
shifts_text form b read = lines_from form b read 1 (open_of b)

-- the lines of a book's shifts from shift n on: to the open one, and of at most SHIFTS_AT_ONCE
abbrev pub shifts_from : ℕ → Form → Book → TimesRead → List ℕ
shifts_from n form b read = lines_from form b read n (min SHIFTS_AT_ONCE (open_of b + 1 - n))
