-- The rows that the feed's peers are told.
use Rattle.std.specs.Prelude.{◌≡◌, ◌⊎◌, ℕ, List, [], ◌∷◌, ◌++◌, Option, Some, None, length, ⊤}
use Rattle.site_base.specs.declared.row.Row.{Row}
use Rattle.site_book.specs.Book.{Book}
use Rattle.chapters.specs.RowText.{kept_behind}
use Rattle.row_json.specs.LastRows.{Last, with_row}
use Rattle.peer_connections.specs.declared.change_watch.ChangeWatch.{ChangeWatch}
use Rattle.peer_connections.specs.declared.fed_rows.FedRows.{FedRows}
use Rattle.peer_connections.specs.Tallied.{AreTallied}

-- rows more, one after another, each with this time
abbrev pub with_rows : Option (List ℕ) → List Row → Last → Last
with_rows time [] last = last
with_rows time (r ∷ rows) last = with_rows time rows (with_row time r last)

-- each of these rows is read once, in order, with this time, and no chapter begins; or the feed has
-- ended
abbrev pub AreRead : Option (List ℕ) → List Row → Option FedRows → Option FedRows → Type 0
AreRead time rows None None = ⊤
AreRead time rows (Some f) None = ⊤
AreRead time rows (Some f) (Some g) =
    (g.rows ≡ with_rows time rows f.rows) × (g.starts ≡ f.starts)
AreRead time rows None (Some g) = ⊥

-- Feed and tally read no row; or each of a book's that are new.
abbrev pub ReadsNew : Option (List ℕ) → Book → ChangeWatch → ChangeWatch → Type 0
ReadsNew time b watch watch' =
    ((watch'.fed ≡ watch.fed) × (watch'.tally ≡ watch.tally) × (watch'.rows_fed ≡ watch.rows_fed))
    ⊎ (AreRead time (kept_behind watch.rows_fed b.rows) watch.fed watch'.fed
    × AreTallied time (kept_behind watch.rows_fed b.rows) watch.tally watch'.tally
    × (watch'.rows_fed ≡ length b.rows))

-- a chapter begins behind the rows that were read; or the feed has ended
abbrev pub BeginsChapter : Option FedRows → Option FedRows → Type 0
BeginsChapter None None = ⊤
BeginsChapter (Some f) None = ⊤
BeginsChapter (Some f) (Some g) =
    (g.rows ≡ f.rows) × (g.starts ≡ f.starts ++ f.rows.next ∷ [])
BeginsChapter None (Some g) = ⊥
