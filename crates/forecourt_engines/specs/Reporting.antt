-- What a replay that ends with a report has done when it ends.
use Rattle.std.specs.Prelude.{◌≡◌, ℕ, ◌≤◌, ◌*◌, length, false, List, [], Option}
use Rattle.std.specs.Io.KnownBytes.{Appends, Consumes}
use Rattle.site_base.specs.Configured.{Configured}
use Rattle.devices.specs.Devices.{AppendsFront}
use Rattle.site_base.specs.declared.totals.Totals.{Totals}
use Rattle.day_report.specs.Text.{report_text}
use Rattle.written_site.specs.ShiftFigures.{product_totals, till_totals}
use Rattle.site_book.specs.Book.{Book, site_of_book, whole_book}
use Rattle.forecourt_engines.specs.declared.fault.ReplayFault.{ReplayFault}
use Rattle.devices.specs.declared.transfer.TheConstants.{PIECE_OCTETS}
use Rattle.forecourt_engines.specs.Replay.{is_early, as_fault, StopsThere}
use Rattle.forecourt_engines.specs.Text.{State, start, fault_of, book_of}

-- a replay of this configuration before its first octet, which tells no changes
abbrev pub opening_state : Configured → State
opening_state c = start (record { book = whole_book c []; changes = false })

-- the figures of a book's rows
abbrev pub book_totals : Book → Totals
book_totals b = record {
  rows = length b.rows;
  products = product_totals (site_of_book b);
  tills = till_totals (site_of_book b);
}

-- the report of a book's figures, before any share settled
abbrev pub book_report : Book → List ℕ
book_report b = report_text b.config (book_totals b) 0

-- the report of the figures of the rows that an input makes
abbrev pub input_report : Configured → List ℕ → List ℕ
input_report c input = book_report (book_of (opening_state c) input)

-- A report of a book was written, or a front of it, after a text that ended so. Without an early
-- end the whole report was, and the end is the text's.
pub record WritesReport (ended : Option ReplayFault) (b : Book) (holds holds' : Option (List ℕ))
    (fault : Option ReplayFault) : Type 0 where
  pub front : AppendsFront holds holds' (book_report b)
  pub whole : is_early fault ≡ false → Appends holds holds' (book_report b)
  pub exact : is_early fault ≡ false → fault ≡ ended

-- Some octets were read, a piece a turn at most, and a front of the report of their rows was
-- written. Where it didn't end early, the whole report was, its fault is that of their text, and it
-- read until the text stopped or to the end.
pub record Reported (turns : ℕ) (c : Configured) (left left' holds holds' : Option (List ℕ))
    (fault : Option ReplayFault) : Type 0 where
  pub read : List ℕ
  pub consumed : Consumes left left' read
  pub few : length read ≤ turns * PIECE_OCTETS
  pub front : AppendsFront holds holds' (input_report c read)
  pub whole : is_early fault ≡ false → Appends holds holds' (input_report c read)
  pub exact : is_early fault ≡ false → fault ≡ as_fault (fault_of (opening_state c) read)
  pub there : is_early fault ≡ false → StopsThere (opening_state c) read left'
