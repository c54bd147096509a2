-- The lines of rows.
use Rattle.std.specs.Prelude.{◌≡◌, ℕ, true, List, take, drop}
use Rattle.std.specs.List.{AllByRecursion, flat_map}
use Rattle.site_base.specs.declared.row.Row.{Row}
use Rattle.app_message.specs.Telegram.{Telegram}
use Rattle.device_map.specs.Laws.{AsksFor}
use Rattle.device_map.specs.Ways.{request_by, sends, way_to}
use Rattle.hex_lines.specs.Lines.{line_of}
use Rattle.kept_history.specs.KeptRows.{kept_rows}

-- the request of a row's actor and event, with token 0
abbrev pub row_request : Row → Telegram
row_request r = request_by 0 r.actor (way_to r.event)

-- .. as a line of lower case hexadecimal, with its line feed
abbrev pub row_line : Row → List ℕ
row_line r = line_of (row_request r)

-- a line for each row, in order
abbrev pub rows_text : List Row → List ℕ
rows_text rows = flat_map row_line rows

-- the row's actor sends such requests: a till doesn't report, and a dispenser does nothing else
abbrev pub IsSent : Row → Type 0
IsSent r = sends r.actor (way_to r.event).kind ≡ true

-- each row's request is a message that can be spelled, and asks for its actor's event
abbrev pub CanBeSpelled : List Row → Type 0
CanBeSpelled rows = AllByRecursion (λ r. AsksFor 0 r.actor r.event (row_request r)) rows

-- of the first rows, so many, those that are kept
abbrev pub kept_first : ℕ → List Row → List Row
kept_first n rows = kept_rows (take n rows)

-- .. and of those behind them
abbrev pub kept_behind : ℕ → List Row → List Row
kept_behind n rows = kept_rows (drop n rows)
