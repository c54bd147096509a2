-- What recovery makes of a disk's history.
use Rattle.std.specs.Prelude.{◌≡◌, ◌+◌, ◌⊎◌, ℕ, List, [], Option, length, take}
use Rattle.site_book.specs.Book.{Book}
use Rattle.chapters.specs.ChapterText.{first_lines, text_of_lines}
use Rattle.chapters.specs.Lines.{unfinished}
use Rattle.chapters.specs.Readers.{HasRead, ReaderState}
use Rattle.journal.specs.Disks.{BeginsWith, DiskFile, KeepsMoment, OfFile, shown_of}
use Rattle.journal.specs.Readings.{IsRead, TellsNothing}

-- the book is what a disk's chapters tell
abbrev pub IsReadIn : List ℕ → Book → DiskFile → Type 0
IsReadIn site b file = IsRead site (shown_of file) b

-- .. which tell no book of this site
abbrev pub TellsNothingIn : List ℕ → DiskFile → Type 0
TellsNothingIn site file = TellsNothing site (shown_of file)

-- whole lines of the open chapter that were on the disk stay there, at each moment, and so do the
-- closed chapters
abbrev pub KeepsWholeLines : DiskFile → DiskFile → Type 0
KeepsWholeLines old new =
    (front : List ℕ) → unfinished front ≡ [] → BeginsWith front old.synced
    → KeepsMoment (record { closed = old.closed; front = front }) old new

-- the reader has read so many of the closed chapters
pub record HasReadTo (place : ℕ) (file : Option DiskFile) (s : ReaderState) : Type 0 where
  pub texts : List (List ℕ)
  pub has : HasRead texts s
  pub count : length texts ≡ place
  pub are : OfFile (λ f. take place f.closed ≡ texts) file

-- .. all of them
pub record HasReadClosed (file : Option DiskFile) (s : ReaderState) : Type 0 where
  pub texts : List (List ℕ)
  pub has : HasRead texts s
  pub are : OfFile (λ f. f.closed ≡ texts) file

-- the octets are those of the open chapter, and something is written
pub record AreOpen (chapters : ℕ) (octets : List ℕ) (file : DiskFile) : Type 0 where
  pub same : file.octets ≡ octets
  pub begun : octets ≡ [] → chapters ≡ 0 → ⊥

-- nothing is written yet, and the octets are the first chapter's first lines
pub record AreFirst (s : ReaderState) (octets : List ℕ) (file : DiskFile) : Type 0 where
  pub none : file.octets ≡ []
  pub first : s.end.chapters ≡ 0
  pub lines : octets ≡ text_of_lines (first_lines s.site (s.end.chapters + 1) s.end.seal)

-- what the reader reads for the open chapter
pub record StandsFor (s : ReaderState) (octets : List ℕ) (file : DiskFile) : Type 0 where
  pub is : AreOpen s.end.chapters octets file ⊎ AreFirst s octets file
  pub front : BeginsWith file.synced file.octets
