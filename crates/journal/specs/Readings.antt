-- What is read back of a history.
use Rattle.std.specs.Prelude.{◌≡◌, ℕ, List, [], ◌∷◌, ◌++◌, ◌⊎◌, Some}
use Rattle.site_base.specs.declared.actor.Actor.{Actor}
use Rattle.site_base.specs.declared.event.Event.{Event}
use Rattle.site_book.specs.Book.{Book}
use Rattle.chapters.specs.ChapterReading.{HistoryRead, nothing_read, read_from}
use Rattle.chapters.specs.History.{IsMadeOf}
use Rattle.journal.specs.Disks.{Moment}

-- the texts of all chapters
abbrev pub texts_of : Moment → List (List ℕ)
texts_of m = m.closed ++ m.front ∷ []

-- the chapters of the site of this name are read, and tell these requests
pub record Tells (site : List ℕ) (m : Moment) (events : List (Actor × Event)) : Type 0 where
  pub reading : HistoryRead
  pub read : read_from site 1 (texts_of m) nothing_read ≡ Some reading
  pub told : reading.events ≡ events

-- .. and nothing stands behind the last line feed
pub record TellsWhole (site : List ℕ) (m : Moment) (events : List (Actor × Event))
    : Type 0 where
  pub tells : Tells site m events
  pub whole : tells.reading.torn ≡ []

-- nothing is written yet
pub record IsNew (m : Moment) : Type 0 where
  pub closed : m.closed ≡ []
  pub front : m.front ≡ []

-- .. and there is no row
pub record IsBegun (m : Moment) (b : Book) : Type 0 where
  pub new : IsNew m
  pub rows : b.rows ≡ []

-- the chapters tell the requests whose rows, made again, are the book
pub record IsReadBack (site : List ℕ) (m : Moment) (b : Book) : Type 0 where
  pub events : List (Actor × Event)
  pub tells : Tells site m events
  pub made : IsMadeOf b events

abbrev pub IsRead : List ℕ → Moment → Book → Type 0
IsRead site m b = IsBegun m b ⊎ IsReadBack site m b

-- something is written, and it tells no requests
pub record TellsNothing (site : List ℕ) (m : Moment) : Type 0 where
  pub unbegun : IsNew m → ⊥
  pub untold : (events : List (Actor × Event)) → Tells site m events → ⊥
