use Rattle.std.proofs.Common.{◌≡◌, ◌≤◌, ◌++◌, List, ℕ, length, ap, subst, sym, ◌∙◌}
use Rattle.site_base.specs.declared.row.Row.{Row}
use Rattle.site_book.specs.declared.book.TheConstants.{FORGOTTEN_ROWS}
use Rattle.site_book.specs.Book.{Book, with_rows_forgotten}
use Rattle.site_book.specs.RowLists.{rows_forgotten}
use Rattle.site_book.proofs.Books.{IsBook-forget, forgets, forgotten_more}
use Rattle.site_book.proofs.book.SiteBook.forget_rows.Goals as goal

pub invariant_of-self : goal.invariant_of-self
invariant_of-self c =
    let inside = c.self.inside in
    let earlier : List Row = rows_forgotten inside.earlier.items in
    let all : rows_forgotten c.and-self-inside.result.items ≡ earlier ++ inside.rows.rows =
    ap rows_forgotten c.and-self-inside.ensures ∙ forgotten_more inside.earlier.items inside.rows in
    let count : c.len-count.result ≡ length (earlier ++ inside.rows.rows) =
    c.len-count.ensures.rows ∙ ap (λ (b : Book). length b.rows) (sym c.self.view_is) in
    rw (all, c.clear.ensures.rows, c.clear.ensures.room, count)
    (IsBook-forget inside.config earlier inside.rows.rows inside.site.site inside.on
    inside.rows.room inside.forgotten inside.kept c.self.invariant
    (subst (λ (n : ℕ). n ≤ FORGOTTEN_ROWS) count c.if-count-le-FORGOTTEN_ROWS.true))

pub returns-then-count-le-FORGOTTEN_ROWS : goal.returns-then-count-le-FORGOTTEN_ROWS
returns-then-count-le-FORGOTTEN_ROWS c =
    let inside = c.self.inside in
    let earlier : List Row = rows_forgotten inside.earlier.items in
    let b : Book = record {
      config = inside.config;
      rows = earlier ++ inside.rows.rows;
      forgotten = length earlier;
    } in
    let count : c.len-count.result ≡ length b.rows =
    c.len-count.ensures.rows ∙ ap (λ (x : Book). length x.rows) (sym c.self.view_is) in
    forgets b (rows_forgotten c.and-self-inside.result.items) c.clear.new.self.rows
    (ap rows_forgotten c.and-self-inside.ensures ∙ forgotten_more inside.earlier.items inside.rows)
    c.clear.ensures.rows
    (subst (λ (n : ℕ). n ≤ FORGOTTEN_ROWS) count c.if-count-le-FORGOTTEN_ROWS.true)
    ∙ ap with_rows_forgotten c.self.view_is
