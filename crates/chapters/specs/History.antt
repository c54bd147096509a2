-- The rows that requests make, one after another.
use Rattle.std.specs.Prelude.{◌≡◌, List, [], ◌∷◌}
use Rattle.site_base.specs.declared.actor.Actor.{Actor}
use Rattle.site_base.specs.declared.event.Event.{Event}
use Rattle.site_base.specs.declared.row.Row.{Row}
use Rattle.site_base.specs.Configured.{Configured}
use Rattle.written_site.specs.SiteRun.{IsLegal, row_to}
use Rattle.written_site.specs.SiteState.{SiteState, opening}
use Rattle.written_site.specs.SiteStep.{site_after}
use Rattle.site_book.specs.Book.{Book, whole_book}

-- a book of this configuration without rows
abbrev pub empty_book : Configured → Book
empty_book config = whole_book config []

-- the rows of requests, from this site on: each has the written step's reply
abbrev pub rows_asked : SiteState → List (Actor × Event) → List Row
rows_asked s [] = []
rows_asked s (e ∷ es) = row_to s e.0 e.1 ∷ rows_asked (site_after s e.0 e.1) es

-- the book's rows are those of these requests
abbrev pub IsMadeOf : Book → List (Actor × Event) → Type 0
IsMadeOf b events = b.rows ≡ rows_asked (opening b.config) events

-- the book's rows are a legal history, as every book's are by its type
abbrev pub IsHistory : Book → Type 0
IsHistory b = IsLegal (opening b.config) b.rows
