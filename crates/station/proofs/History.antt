-- The book's rows are one history: each move adds rows that the written step makes.
use Rattle.std.proofs.Common.{refl, subst, sym}
use Rattle.std.specs.Prelude.{List}
use Rattle.site_base.specs.declared.actor.Actor.{Actor}
use Rattle.site_base.specs.declared.actor.Actor.TheVariants.{Till}
use Rattle.site_base.specs.declared.event.Event.{Event}
use Rattle.site_base.specs.declared.event.Event.TheVariants.{SignOff}
use Rattle.site_base.specs.Configured.{Configured}
use Rattle.written_site.specs.SiteRun.{IsLegal}
use Rattle.written_site.specs.SiteState.{opening}
use Rattle.written_site.proofs.Histories.{IsLegal-push}
use Rattle.site_book.specs.Book.{Book, next_row, with_row_of, with_rows_forgotten}
use Rattle.site_book.proofs.Books.{forgets_alone}
use Rattle.station.specs.Gates.{GateState}
use Rattle.station.specs.Moves.{StationState}
use Rattle.station.specs.Runs.{Move, after, opening_station}
use Rattle.station.proofs.Keeping.{ForgetsKeep, RowsKeep, books_keep}
use Rattle.station.proofs.Turns.{Grows, forgets_none, grows_none, more_rows}

pub books_grow : (ms : List Move) (s : StationState) → Grows s.book (after ms s).book
books_grow ms s = books_keep (more_rows s.book) (forgets_none s.book) ms s (grows_none s.book)

abbrev IsHistory : Book → Type 0
IsHistory b = IsLegal (opening b.config) b.rows

row_goes_on : (b : Book) (actor : Actor) (event : Event) → IsHistory b
    → IsHistory (with_row_of b actor event)
row_goes_on b actor event legal =
    IsLegal-push (opening b.config) b.rows (next_row b actor event) legal refl

rows_go_on : RowsKeep IsHistory
rows_go_on = record {
  asked = λ b m actor event is room. row_goes_on b actor event;
  own = λ b actor event own room. row_goes_on b actor event;
  left = λ b t on. row_goes_on b (Till t) SignOff;
}

forgets_go_on : ForgetsKeep IsHistory
forgets_go_on b legal =
    let alone = forgets_alone b in
    subst (λ (c : Configured). IsLegal (opening c) (with_rows_forgotten b).rows) (sym alone.config)
    (subst (IsLegal (opening b.config)) (sym alone.rows) legal)

pub always_legal : (g : GateState) (b : Book) (ms : List Move) → IsHistory b
    → IsLegal (opening b.config) (after ms (opening_station g b)).book.rows
always_legal g b ms legal =
    let s = opening_station g b in
    subst (λ (c : Configured). IsLegal (opening c) (after ms s).book.rows) (books_grow ms s).same
    (books_keep rows_go_on forgets_go_on ms s legal)
