-- A station that goes on where its journal ended.
use Rattle.std.specs.Prelude.{◌≡◌, ℕ, zero, suc, true, false, List, length, Option, Some}
use Rattle.site_base.specs.declared.limits.TheConstants.{TILLS}
use Rattle.site_base.specs.Configured.{Configured}
use Rattle.written_site.specs.SiteState.{is_signed_on}
use Rattle.site_book.specs.Book.{Book, site_of_book}
use Rattle.station.specs.Gates.{open_gates}
use Rattle.station.specs.Runs.{opening_station}
use Rattle.station.specs.Sessions.{without_till}
use Rattle.journal.specs.Disks.{DiskFile, Keeps, OfFile, OfFiles}
use Rattle.chapters.specs.RowText.{kept_behind}
use Rattle.journal.specs.Recovering.{IsReadIn, KeepsWholeLines}
use Rattle.journal.specs.Stored.{GrowsByRound, JournalState, StoredState, is_all_stored}

-- no till is signed on
abbrev pub HasNobodyOn : Book → Type 0
HasNobodyOn b = (t : ℕ) → is_signed_on (site_of_book b) t ≡ false

-- a book behind whose rows of the first tills each that is signed on has signed off, in order
abbrev pub tills_off : ℕ → Book → Book
tills_off zero b = b
tills_off (suc n) b = without_till (Some (suc n)) (tills_off n b)

-- .. each till
abbrev pub all_off : Book → Book
all_off b = tills_off TILLS b

-- a station without peers, at the recovered book with the sign-offs of those that are signed on
-- behind it; each row is stored in the journal, which goes on from this disk by their lines, at
-- this time behind the last one
pub record Resumes (site : List ℕ) (recovered : Book) (last now : Option (List ℕ))
    (file : Option DiskFile) (s : StoredState) : Type 0 where
  pub alone : s.station ≡ opening_station open_gates s.station.book
  pub rows : s.station.book ≡ all_off recovered
  pub off : HasNobodyOn s.station.book
  pub stored : is_all_stored s ≡ true
  pub journal : JournalState
  pub there : s.journal ≡ Some journal
  pub named : journal.site ≡ site
  pub clock : journal.clock ≡ now
  pub lines : OfFiles
      (GrowsByRound last now (kept_behind (length recovered.rows) s.station.book.rows)) file
      journal.file
  pub moments : OfFiles Keeps file journal.file

-- .. of a disk from which this book is read: so many rows, and the sign-offs behind them, whose
-- lines stand at this time behind what was read. Whole lines that were on the disk stay there, at
-- each moment
pub record Reopens (site : List ℕ) (config : Configured) (now : Option (List ℕ))
    (file : Option DiskFile) (rows : ℕ) (s : StoredState) : Type 0 where
  pub recovered : Book
  pub same : recovered.config ≡ config
  pub read : OfFile (IsReadIn site recovered) file
  pub count : rows ≡ length recovered.rows
  pub signed_off : s.station.book ≡ all_off recovered
  pub stored : is_all_stored s ≡ true
  pub journal : JournalState
  pub there : s.journal ≡ Some journal
  pub named : journal.site ≡ site
  pub clock : journal.clock ≡ now
  pub read_file : Option DiskFile
  pub last : Option (List ℕ)
  pub lines : OfFiles
      (GrowsByRound last now (kept_behind (length recovered.rows) s.station.book.rows)) read_file
      journal.file
  pub moments : OfFiles KeepsWholeLines file journal.file
