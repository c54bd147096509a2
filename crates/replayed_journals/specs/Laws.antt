-- What a replay makes of a chapter's text.
use Rattle.std.specs.Prelude.{◌≡◌, ℕ, Bool, List, [], None, take}
use Rattle.site_base.specs.declared.row.Row.{Row}
use Rattle.site_base.specs.Configured.{Configured}
use Rattle.kept_history.specs.KeptRows.{kept_rows}
use Rattle.forecourt_engines.specs.Text.{State, book_of, fault_of, start}
use Rattle.site_book.specs.Book.{Book, whole_book}
use Rattle.written_site.specs.SiteRun.{IsLegal}
use Rattle.written_site.specs.SiteState.{opening}
use Rattle.chapters.specs.ChapterText.{chapter_text, no_seal, site_name}
use Rattle.chapters.specs.History.{empty_book}
use Rattle.chapters.specs.RowText.{CanBeSpelled}

-- the book of the first of these rows, at most as many as the configuration allows
abbrev pub limited_book : Configured → List Row → Book
limited_book config rows = whole_book config (take config.rows rows)

-- a replay of the text, from this state on, ends without a fault, at this book
pub record IsReplayedTo (b : Book) (st : State) (text : List ℕ) : Type 0 where
  pub fault : fault_of st text ≡ None
  pub book : book_of st text ≡ b

-- The first chapter is the history for a replay, too: it reads the chapter of a legal history
-- without a fault, and makes its kept rows again, replies included, up to the row that fills its
-- book. Behind that a replay makes none, where a station forgets rows and goes on.
abbrev pub JournalsAreReplayed : Type 0
JournalsAreReplayed = (site_file : List ℕ) (config : Configured) (rows : List Row)
    (changes : Bool) → IsLegal (opening config) rows → CanBeSpelled (kept_rows rows)
    → IsReplayedTo (limited_book config (kept_rows rows))
    (start (record { book = empty_book config; changes = changes }))
    (chapter_text (site_name site_file) 1 no_seal [] (kept_rows rows))
