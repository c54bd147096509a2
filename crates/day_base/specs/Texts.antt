-- What a day writes: where it listens, and the report of its book.
use Rattle.std.specs.Prelude.{ℕ, List, [], ◌++◌, Option, Some, None, codes, decimal, length}
use Rattle.site_base.specs.declared.totals.Totals.{Totals}
use Rattle.day_report.specs.Json.{json_text}
use Rattle.day_report.specs.Text.{report_text}
use Rattle.forecourt_engines.specs.Reporting.{book_totals}
use Rattle.kept_history.specs.KeptRows.{kept_rows}
use Rattle.site_book.specs.Book.{Book}
use Rattle.day_base.specs.declared.plan.ReportForm.{ReportForm}
use Rattle.day_base.specs.declared.plan.ReportForm.TheVariants.{Json, Text}

-- where the server listens
abbrev pub listening_line : ℕ → List ℕ
listening_line port = codes "listening 127.0.0.1:" ++ decimal port ++ codes "\n"

-- where a station's page is
abbrev pub page_line : ℕ → List ℕ
page_line page = codes "page http://127.0.0.1:" ++ decimal page ++ codes "/\n"

-- where a station's feed is
abbrev pub feed_line : ℕ → List ℕ
feed_line feed = codes "feed 127.0.0.1:" ++ decimal feed ++ codes "\n"

-- where a station listens: on a port, or at its doors alone
abbrev pub station_line : Option ℕ → List ℕ
station_line None = codes "listening at doors\n"
station_line (Some port) = listening_line port

-- the line of a port, if there is one
abbrev pub line_if : (ℕ → List ℕ) → Option ℕ → List ℕ
line_if line None = []
line_if line (Some port) = line port

-- where a station listens, and where its page and its feed are, if it has them on a port
abbrev pub places_text : Option ℕ → Option ℕ → Option ℕ → List ℕ
places_text port page feed =
    (station_line port ++ line_if page_line page) ++ line_if feed_line feed

-- the figures of a station's book: its rows are those that a history keeps
abbrev pub kept_totals : Book → Totals
kept_totals b = record (book_totals b) { rows = length (kept_rows b.rows) }

-- the report of a station's book, as text or as JSON
abbrev pub report_in : ReportForm → Book → List ℕ
report_in Text b = report_text b.config (kept_totals b) 0
report_in Json b = json_text b.config.products (kept_totals b) 0
