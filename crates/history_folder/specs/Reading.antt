-- What is read of a folder's chapters.
use Rattle.std.specs.Prelude.{◌≡◌, ◌≤◌, ◌+◌, ℕ, List, Some, drop, length}
use Rattle.std.specs.Prelude.{string_bytes}
use Rattle.chapters.specs.declared.reader.ReadHistory.{ReadHistory}
use Rattle.chapters.specs.ChapterReading.{HistoryRead, nothing_read, read_from}
use Rattle.chapters.specs.History.{IsMadeOf}
use Rattle.chapters.specs.HistoryEnds.{EndsAt}
use Rattle.chapters.specs.Readers.{HasRead, IsReading, ReaderState}
use Rattle.chapters.specs.declared.history_end.TheConstants.{MOST_CHAPTERS}
use Rattle.history_folder.specs.declared.place.WalkPlace.{WalkPlace}
use Rattle.history_folder.specs.declared.place.WalkPlace.TheVariants.{Between, Within}

-- so many chapters have been read
pub record HasReadSome (count : ℕ) (s : ReaderState) : Type 0 where
  pub texts : List (List ℕ)
  pub count_is : length texts ≡ count
  pub has : HasRead texts s

-- there are texts of chapters of which this was read: the book is made of their rows, and they end
-- so
pub record IsRead (r : ReadHistory) : Type 0 where
  pub texts : List (List ℕ)
  pub reading : HistoryRead
  pub read : read_from (string_bytes r.site) 1 texts nothing_read ≡ Some reading
  pub made : IsMadeOf r.book reading.events
  pub ends : EndsAt (length texts) reading.seal reading.unsealed r.end

-- ---- row after row

-- a walk: what its reader keeps, how many chapters there are, and where it is
pub record WalkState : Type 0 where
  pub reader : ReaderState
  pub count : ℕ
  pub place : WalkPlace

-- the reader is reading a chapter with this text, of which it has read so many octets
pub record IsWithin (s : ReaderState) (text : List ℕ) (octets : ℕ) : Type 0 where
  pub texts : List (List ℕ)
  pub count : s.end.chapters ≡ length texts + 1
  pub reads : IsReading texts text (drop octets text) s

-- the chapters that the reader has begun have been read
abbrev pub HasReadBegun : ReaderState → Type 0
HasReadBegun s = HasReadSome s.end.chapters s

-- what a walk always keeps: there may be so many chapters, and each that the reader has begun has
-- been read, but for the one that it is within, or that is refused
pub record IsWalking (s : ReaderState) (count : ℕ) (text : List ℕ) (octets : ℕ) (place : WalkPlace)
    : Type 0 where
  pub most : count ≤ MOST_CHAPTERS
  pub few : s.end.chapters ≤ count
  pub ahead : octets ≤ length text
  pub inside : place ≡ Within → IsWithin s text octets
  pub between : place ≡ Between → HasReadBegun s

-- each chapter of the folder has been read
abbrev pub IsWhole : WalkState → Type 0
IsWhole w = HasReadSome w.count w.reader
