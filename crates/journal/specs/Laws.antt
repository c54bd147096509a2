-- What holds of every journal: what is found again after a crash, and what is never refused.
use Rattle.std.specs.Prelude.{◌≡◌, ℕ, List, ◌++◌, IfSome, Option, Some, false, take, true}
use Rattle.std.specs.Prelude.{⊤}
use Rattle.std.specs.List.{AllByRecursion}
use Rattle.site_base.specs.declared.limits.TheConstants.{POINTS, TILLS}
use Rattle.site_base.specs.declared.row.Row.{Row}
use Rattle.site_base.specs.Configured.{Configured}
use Rattle.site_base.specs.Ranges.{is_between}
use Rattle.app_message.specs.Telegram.{AreOctets}
use Rattle.written_site.specs.SiteRun.{IsLegal, events_of}
use Rattle.written_site.specs.SiteState.{opening}
use Rattle.kept_history.specs.KeptRows.{kept_rows}
use Rattle.site_book.specs.Book.{Book}
use Rattle.station.specs.Gates.{GateState}
use Rattle.station.specs.Runs.{EndsRelease, Loses, Move, Says, after, opening_station}
use Rattle.chapters.specs.ChapterReading.{HistoryRead, nothing_read, read_from}
use Rattle.chapters.specs.History.{rows_asked}
use Rattle.chapters.specs.Lines.{whole_lines}
use Rattle.chapters.specs.RowText.{CanBeSpelled, IsSent}
use Rattle.chapters.specs.Times.{Rise, times_in}
use Rattle.journal.specs.Disks.{DiskFile, GoesOn, Grows, Moment, moment_of, shown_of}
use Rattle.journal.specs.Lives.{IsLife, end_of}
use Rattle.journal.specs.Readings.{IsRead, TellsNothing, TellsWhole, texts_of}
use Rattle.journal.specs.Stored.{GrowsByLines, IsJournalOf, IsStored, JournalState, StoredState}
use Rattle.journal.specs.Steps.{AreSteps, Step, after_steps}
use Rattle.journal.specs.Stored.{is_all_stored}

-- a book begins with these rows, and has maybe more behind them
pub record BeginsWithRows (rows : List Row) (b : Book) : Type 0 where
  pub more : List Row
  pub parts : b.rows ≡ rows ++ more

-- Each row that is on the disk is found again. Take chapters that tell these rows, and any that go
-- on from them. If a book is read of these, it begins with the rows.
abbrev pub StoredRowsAreFoundAgain : Type 0
StoredRowsAreFoundAgain = (site : List ℕ) (m n : Moment) (config : Configured) (rows : List Row)
    (b : Book) → IsLegal (opening config) rows → b.config ≡ config
    → TellsWhole site m (events_of rows) → GoesOn m n → IsRead site n b → BeginsWithRows rows b

-- What is told is found again, however the history lives on. Nobody is told or shown anything of a
-- station but while each row is stored (`told_at`, and the book that is shown). Take any life from
-- then on: stores, ends of chapters and starts, each whole or cut off by a crash. If a book is read
-- of what it leaves, that begins with each row that the station had, but those of reads.
abbrev pub ToldRowsAreFoundAgain : Type 0
ToldRowsAreFoundAgain = (s : StoredState) (j : JournalState) (f : DiskFile)
    (life : List Moment) (b : Book) → IsStored s → s.journal ≡ Some j → j.file ≡ Some f
    → is_all_stored s ≡ true → IsLife (moment_of f) life
    → b.config ≡ s.station.book.config → IsRead j.site (end_of (moment_of f) life) b
    → BeginsWithRows (kept_rows s.station.book.rows) b

-- these rows are the first that a book keeps
pub record KeepsFirst (rows : List Row) (b : Book) : Type 0 where
  pub more : List Row
  pub parts : kept_rows b.rows ≡ rows ++ more

-- What was told is never taken back. Take a station of which each row is stored, as whenever
-- anybody is told or shown anything of it, and any steps from there on: moves, what peers take
-- among them, gates that are set, calls of the journal, crashes and starts. All rows that it had,
-- but those of reads, stay the first ones that its book keeps. So any start finds them.
abbrev pub ToldRowsStay : Type 0
ToldRowsStay = (s : StoredState) (j : JournalState) (f : DiskFile) (steps : List Step)
    → IsStored s → s.journal ≡ Some j → j.file ≡ Some f → is_all_stored s ≡ true
    → AreSteps steps s
    → KeepsFirst (kept_rows s.station.book.rows) (after_steps steps s).station.book

-- the times of this text rise behind the last one that the chapters tell
pub record RisesBehind (site : List ℕ) (m : Moment) (text : List ℕ) : Type 0 where
  pub reading : HistoryRead
  pub read : read_from site 1 (texts_of m) nothing_read ≡ Some reading
  pub last : Option (List ℕ)
  pub rises : Rise reading.time (times_in (whole_lines text)) last

-- such a text stands behind what a file had
pub record WritesRising (site : List ℕ) (old new : DiskFile) : Type 0 where
  pub text : List ℕ
  pub grows : Grows text old new
  pub rises : RisesBehind site (shown_of old) text

-- The stamps of a history rise. Take a journal of which no write has failed, whatever its chapters
-- told when it was opened. The times that a store writes rise behind the last one that they tell.
abbrev pub StampsRise : Type 0
StampsRise = (rows : List Row) (a b : JournalState) (old new : DiskFile) → IsJournalOf rows a
    → a.failed ≡ false → a.file ≡ Some old → b.file ≡ Some new → GrowsByLines rows a b
    → WritesRising a.site old new

-- A beginning of what a store writes is never refused, lines of times and of seals included: take
-- chapters that tell rows, and also do with a text behind them. With a beginning of it they tell
-- something.
abbrev pub BeginningsAreRead : Type 0
BeginningsAreRead = (site : List ℕ) (m : Moment) (told more : List Row) (text : List ℕ) (n : ℕ)
    → TellsWhole site m (events_of told)
    → TellsWhole site (record m { front = m.front ++ text }) (events_of more)
    → TellsNothing site (record m { front = m.front ++ take n text }) → ⊥

-- A legal history, however long it is, is made again of its requests, replies included.
abbrev pub HistoriesAreMadeAgain : Type 0
HistoriesAreMadeAgain = (config : Configured) (rows : List Row) → IsLegal (opening config) rows
    → rows_asked (opening config) (events_of rows) ≡ rows

-- Whatever moves come, each row of a station is one that its actor sends.
abbrev pub StationsRowsAreSent : Type 0
StationsRowsAreSent = (g : GateState) (b : Book) (ms : List Move)
    → AllByRecursion IsSent b.rows
    → AllByRecursion IsSent (after ms (opening_station g b)).book.rows

-- what is heard are octets, and the station itself acts for a point that there may be
abbrev pub IsMeant : Move → Type 0
IsMeant (Says memory k octets) = AreOctets octets
IsMeant (EndsRelease on off p) = is_between 1 POINTS p ≡ true
IsMeant (Loses memory p) = is_between 1 POINTS p ≡ true
IsMeant m = ⊤

-- .. and the house till is one that there may be, if there is one
abbrev pub HasHouse : GateState → Type 0
HasHouse g = IfSome g.house (λ t. is_between 1 TILLS t ≡ true)

-- Whatever such moves come, each row of a station can be spelled. So no row is in the way of those
-- behind it.
abbrev pub StationsRowsCanBeSpelled : Type 0
StationsRowsCanBeSpelled = (g : GateState) (b : Book) (ms : List Move) → HasHouse g
    → AllByRecursion IsMeant ms → CanBeSpelled b.rows
    → CanBeSpelled (after ms (opening_station g b)).book.rows
