-- A station's life: moves, what peers take, stores, crashes and starts, in any order. Of what is
-- unpaid, which a call may read anew, nothing is said.
use Rattle.std.specs.Prelude.{ℕ, List, [], ◌∷◌, Option, Some, None, ⊤}
use Rattle.site_base.specs.Configured.{Configured}
use Rattle.station.specs.Gates.{GateState}
use Rattle.station.specs.Runs.{Move, after_move}
use Rattle.journal.specs.Disks.{BeginsWith, DiskFile, IsSameChapter, Moment, moment_of}
use Rattle.journal.specs.Lives.{IsLife, end_of}
use Rattle.journal.specs.Opening.{Reopens}
use Rattle.journal.specs.Stored.{JournalGoesOn, JournalState, StoredState, with_station}

-- a crash, and a start behind it: calls and starts that were cut off before, the disk that the
-- start finds, its time, how many rows it reads, and its station
pub record Restart : Type 0 where
  pub life : List Moment
  pub found : DiskFile
  pub clock : Option (List ℕ)
  pub rows : ℕ
  pub later : StoredState

-- What may come next: a move, what a peer takes among them; that it is said who may speak where; a
-- call of the journal, as a store or a chapter's end; or a crash and a start.
pub data Step : Type 0 where
  Moves : (move : Move) → Step
  Gates : (gates : GateState) → Step
  Calls : (later : Option JournalState) → Step
  Restarts : (restart : Restart) → Step

-- a start finds what a crash leaves: its closed chapters, and of the open one its front at least,
-- which is on the disk
pub record IsLeft (m : Moment) (file : DiskFile) : Type 0 where
  pub same : IsSameChapter m (moment_of file)
  pub shown : BeginsWith file.synced file.octets

-- a history of this site lives on, and ends; then a station starts on what is left of it
pub record IsRestart (site : List ℕ) (config : Configured) (file : DiskFile) (r : Restart)
    : Type 0 where
  pub lives : IsLife (moment_of file) r.life
  pub left : IsLeft (end_of (moment_of file) r.life) r.found
  pub starts : Reopens site config r.clock (Some r.found) r.rows r.later

abbrev pub is_restart_of : List ℕ → Configured → Option DiskFile → Restart → Type 0
is_restart_of site config None r = ⊥
is_restart_of site config (Some file) r = IsRestart site config file r

abbrev pub is_restart : Configured → Option JournalState → Restart → Type 0
is_restart config None r = ⊥
is_restart config (Some j) r = is_restart_of j.site config j.file r

-- this may come next
abbrev pub IsStep : Step → StoredState → Type 0
IsStep (Moves move) s = ⊤
IsStep (Gates gates) s = ⊤
IsStep (Calls later) s = JournalGoesOn s.journal later
IsStep (Restarts r) s = is_restart s.station.book.config s.journal r

abbrev pub after_step : Step → StoredState → StoredState
after_step (Moves move) s = with_station (after_move move s.station) s
after_step (Gates gates) s = with_station (record s.station { gates = gates }) s
after_step (Calls later) s = record s { journal = later }
after_step (Restarts r) s = r.later

-- .. and one after another
abbrev pub AreSteps : List Step → StoredState → Type 0
AreSteps [] s = ⊤
AreSteps (step ∷ steps) s = IsStep step s × AreSteps steps (after_step step s)

abbrev pub after_steps : List Step → StoredState → StoredState
after_steps [] s = s
after_steps (step ∷ steps) s = after_steps steps (after_step step s)
