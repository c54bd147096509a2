-- A station that goes on with its history.
use Rattle.std.specs.Prelude.{◌≡◌, ℕ, IsSome, List, None, Ok, Option}
use Rattle.site_base.specs.Configured.{Configured}
use Rattle.site_file.specs.SiteFile.{config_of}
use Rattle.chapters.specs.ChapterText.{site_name}
use Rattle.journal.specs.Opening.{Reopens}
use Rattle.journal.specs.Stored.{JournalState, StoredState}
use Rattle.station_command.specs.declared.found.FoundHistory.{FoundHistory}
use Rattle.station_command.specs.declared.found.FoundHistory.TheVariants.{Chapters, New, NoFolder}

-- it goes on where the history of the site that a site file says ended, which had so many rows, at
-- the time that the clock told
pub record GoesOn (rows : ℕ) (s : StoredState) : Type 0 where
  pub site_file : List ℕ
  pub config : Configured
  pub says : config_of site_file ≡ Ok config
  pub clock : Option (List ℕ)
  pub reopens : Reopens (site_name site_file) config clock None rows s

-- a start that says that it has found a history, or begins one, has its journal; one that says that
-- nothing is kept has none
abbrev pub IsFound : FoundHistory → Option JournalState → Type 0
IsFound NoFolder journal = journal ≡ None
IsFound New journal = IsSome journal
IsFound (Chapters chapters rows) journal = IsSome journal
