-- What a fault says of a history.
use Rattle.std.specs.Prelude.{◌≡◌, ◌+◌, ⊤, ℕ, List, ◌∷◌, ◌++◌, Some, length}
use Rattle.chapters.specs.declared.fault.HistoryFault.{HistoryFault}
use Rattle.chapters.specs.ChapterReading.{HistoryRead, nothing_read, read_from}
use Rattle.chapters.specs.Readers.{IsOfText as IsOfLines, Names}
use Rattle.journal.specs.declared.recovery.OpenFault.{OpenFault}
use Rattle.journal.specs.declared.recovery.OpenFault.TheVariants.{Refused, Unread}
use Rattle.journal.specs.Disks.{DiskFile, Moment, shown_of}
use Rattle.journal.specs.Readings.{texts_of}

-- a fault of what the chapters say
abbrev pub IsOfText : OpenFault → Type 0
IsOfText (Refused fault) = IsOfLines fault
IsOfText fault = ⊥

-- a fault of a start that does nothing to the chapters: they can't be read, or are none of this
-- site
abbrev pub IsRefusal : OpenFault → Type 0
IsRefusal Unread = ⊤
IsRefusal fault = IsOfText fault

-- the chapters ahead of one are read, and the fault is that one's
pub record NamesChapter (site : List ℕ) (m : Moment) (fault : HistoryFault) : Type 0 where
  pub before : List (List ℕ)
  pub text : List ℕ
  pub others : List (List ℕ)
  pub texts : texts_of m ≡ before ++ text ∷ others
  pub reading : HistoryRead
  pub read : read_from site 1 before nothing_read ≡ Some reading
  pub names : Names site (length before + 1) reading text fault

-- what a fault names
abbrev pub FaultNames : List ℕ → OpenFault → Moment → Type 0
FaultNames site (Refused fault) m = NamesChapter site m fault
FaultNames site fault m = ⊤

-- .. of a disk
abbrev pub NamesIn : List ℕ → OpenFault → DiskFile → Type 0
NamesIn site fault file = FaultNames site fault (shown_of file)
