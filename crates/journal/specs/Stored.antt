-- A station with its journal: what is stored, and what may be told.
use Rattle.std.specs.Prelude.{◌≡◌, ℕ, ◌≤◌, ◌==◌, Bool, true, false, ◌+◌, List, [], length}
use Rattle.std.specs.Prelude.{Option, Some, None, IfSome, if◌then◌else◌, ⊤}
use Rattle.std.specs.List.{AllByRecursion}
use Rattle.site_base.specs.declared.row.Row.{Row}
use Rattle.site_book.specs.Unpaid.{GoesBy, Kept}
use Rattle.written_site.specs.SiteRun.{events_of}
use Rattle.stamps.specs.Stamps.{is_before}
use Rattle.station.specs.Moves.{StationState}
use Rattle.station.specs.Reads.{owed_at}
use Rattle.journal.specs.declared.memory.TheConstants.{LEAST_ROWS}
use Rattle.journal.specs.Disks.{DiskFile, GoesOn, Grows, Holds, Keeps, Moment, OfFile, OfFiles}
use Rattle.journal.specs.Disks.{moment_of}
use Rattle.chapters.specs.declared.chapter_begin.ChapterBegin.{ChapterBegin}
use Rattle.chapters.specs.ChapterReading.{HistoryRead}
use Rattle.chapters.specs.History.{IsHistory}
use Rattle.chapters.specs.HistoryEnds.{EndState, EndsAt}
use Rattle.chapters.specs.OpenShift.{first_behind, open_since}
use Rattle.chapters.specs.declared.open_shift.FirstRow.{FirstRow}
use Rattle.chapters.specs.Rounds.{IsRound}
use Rattle.chapters.specs.RowText.{CanBeSpelled, IsSent, kept_behind, kept_first}
use Rattle.journal.specs.Readings.{TellsWhole}

-- the name of its site, how many rows a journal has stored, whether a write or a flush has failed,
-- where its text ends, where its open chapter began, at how many kept rows the next one was refused
-- last, the time of this round, whether a seal is due at its end, and its disk, where that is known
pub record JournalState : Type 0 where
  pub site : List ℕ
  pub stored : ℕ
  pub failed : Bool
  pub end : EndState
  pub begin : ChapterBegin
  pub refused : Option ℕ
  pub clock : Option (List ℕ)
  pub due : Bool
  pub file : Option DiskFile

-- a station, the unpaid transactions as far as they were read, and its journal if it has one
pub record StoredState : Type 0 where
  pub station : StationState
  pub unpaid : Kept
  pub journal : Option JournalState

-- the disk has just these chapters, of which this was read, and their text ends so: with its last
-- time, too
pub record IsSettled (m : Moment) (r : HistoryRead) (e : EndState) (file : DiskFile)
    : Type 0 where
  pub closed : file.closed ≡ m.closed
  pub open_one : Holds m.front file
  pub ends : EndsAt (length m.closed + 1) r.seal r.unsealed e
  pub time : e.time ≡ r.time

-- what is on the disk goes on from chapters that tell just these rows; unless a write has failed,
-- that is all
pub record HoldsRows (site : List ℕ) (rows : List Row) (failed : Bool) (e : EndState)
    (file : DiskFile) : Type 0 where
  pub at : Moment
  pub tells : TellsWhole site at (events_of rows)
  pub there : GoesOn at (moment_of file)
  pub settled : failed ≡ false → IsSettled at tells.tells.reading e file

-- the journal has stored the first of the book's rows: all but those of reads, and each of these
-- can be spelled
pub record IsJournalOf (rows : List Row) (j : JournalState) : Type 0 where
  pub few : j.stored ≤ length rows
  pub spelled : CanBeSpelled (kept_first j.stored rows)
  pub holds : OfFile (HoldsRows j.site (kept_first j.stored rows) j.failed j.end) j.file

-- what a station with a journal always keeps: its rows are a legal history, each of them one that
-- its actor sends; what is kept of unpaid transactions goes by its book; no row is forgotten that
-- the journal hasn't stored; and its configuration allows so many rows as a station has to have
pub record IsStored (s : StoredState) : Type 0 where
  pub legal : IsHistory s.station.book
  pub sent : AllByRecursion IsSent s.station.book.rows
  pub unpaid : GoesBy s.unpaid s.station.book
  pub journal : IfSome s.journal (IsJournalOf s.station.book.rows)
  pub behind : IfSome s.journal (λ j. s.station.book.forgotten ≤ j.stored)
  pub enough : LEAST_ROWS ≤ s.station.book.config.rows

abbrev pub has_stored : ℕ → Option JournalState → Bool
has_stored count None = true
has_stored count (Some j) = j.stored == count

-- the next chapter has begun, or the open one goes on
abbrev pub HasBegun : Bool → EndState → EndState → Type 0
HasBegun begun old new =
    new.chapters ≡ (if begun then old.chapters + 1 else old.chapters)

-- a journal goes on: its site stays, and so does what is on its disk, at each moment
abbrev pub JournalGoesOn : Option JournalState → Option JournalState → Type 0
JournalGoesOn None None = ⊤
JournalGoesOn (Some a) (Some b) = (b.site ≡ a.site) × OfFiles Keeps a.file b.file
JournalGoesOn a b = ⊥

-- behind what a file had stand the lines of a round at this time: of these rows, and seals
pub record GrowsByRound (last now : Option (List ℕ)) (rows : List Row) (old new : DiskFile)
    : Type 0 where
  pub text : List ℕ
  pub round : IsRound last now rows text
  pub grows : Grows text old new

-- .. of the rows that a journal hadn't stored
abbrev pub GrowsByLines : List Row → JournalState → JournalState → Type 0
GrowsByLines rows a b =
    OfFiles (GrowsByRound a.end.time a.clock (kept_behind a.stored rows)) a.file b.file

abbrev pub WritesLines : List Row → Option JournalState → Option JournalState → Type 0
WritesLines rows None None = ⊤
WritesLines rows (Some a) (Some b) = GrowsByLines rows a b
WritesLines rows a b = ⊥

-- the first row of the open shift, as a journal knows it once these rows are stored
abbrev pub first_stored : List Row → JournalState → Option FirstRow
first_stored rows j = first_behind j.end.time j.clock (kept_behind j.stored rows) j.end.first

-- the time of that row, as the journal of a station knows it, if there is one
abbrev pub since_of : Option JournalState → Option (List ℕ)
since_of None = None
since_of (Some j) = open_since j.end.first

-- .. once these rows are stored
abbrev pub since_stored : List Row → Option JournalState → Option (List ℕ)
since_stored rows None = None
since_stored rows (Some j) = open_since (first_stored rows j)

-- the last time that the journal of a station tells, if there is one
abbrev pub time_of : Option JournalState → Option (List ℕ)
time_of None = None
time_of (Some j) = j.end.time

-- the clock is behind the last time that a history tells
abbrev pub is_behind : Option (List ℕ) → Option (List ℕ) → Bool
is_behind (Some time) (Some last) = is_before time last
is_behind time last = false

-- the time of the round, as the journal of a station knows it, if there is one
abbrev pub clock_of : Option JournalState → Option (List ℕ)
clock_of None = None
clock_of (Some j) = j.clock

-- the round's time is before the last one that the journal tells, if there is one
abbrev pub is_clock_behind : Option (List ℕ) → Option JournalState → Bool
is_clock_behind time None = false
is_clock_behind time (Some j) = is_behind time j.end.time

-- where the rows that the journal hadn't stored are those of reads alone, nothing is done to its
-- file
abbrev pub LeavesReadsOut : List Row → Option JournalState → Option JournalState → Type 0
LeavesReadsOut rows (Some a) (Some b) = kept_behind a.stored rows ≡ [] → b.file ≡ a.file
LeavesReadsOut rows a b = ⊤

-- each row is stored, where there is a journal
abbrev pub is_all_stored : StoredState → Bool
is_all_stored s = has_stored (length s.station.book.rows) s.journal

-- what a peer may be told now: what it is owed, where each row is stored, and else nothing
abbrev pub told_at : StoredState → ℕ → List ℕ
told_at s key = if is_all_stored s then owed_at s.station key else []

-- the station has come so far, and its journal stays
abbrev pub with_station : StationState → StoredState → StoredState
with_station station s = record s { station = station }
