-- The sales of a book, row by row.
use Rattle.std.proofs.Common.{◌≡◌, ℕ, zero, suc, ◌+◌, ◌≤◌, List, [], ◌∷◌, ◌++◌, take, drop, Some}
use Rattle.std.proofs.Common.{length, slice_get, refl, sym, ap, ◌∙◌, if◌then◌else◌, arith}
use Rattle.std.specs.Prelude.{filter_map, option_and_then}
use Rattle.std.specs.List.{cons_option}
use Rattle.std.proofs.lemmas.List.{append_assoc, at_drop_all, drop_more, take_more}
use Rattle.std.proofs.lemmas.Option.{slice_get_within, get_or_from_slice_get}
use Rattle.site_base.specs.declared.numbers.TheConstants.{GREATEST_SHIFT}
use Rattle.site_base.specs.declared.row.Row.{Row}
use Rattle.site_base.specs.Configured.{Configured}
use Rattle.site_base.specs.Events.{point_named}
use Rattle.written_site.specs.Histories.{Moment, moments_after, moments_of}
use Rattle.written_site.specs.RowWords.{closes_shift, count, open_after}
use Rattle.written_site.specs.SaleWords.{key_sold, number_sold}
use Rattle.written_site.specs.SiteRun.{site_of_rows, IsLegal}
use Rattle.written_site.specs.SiteState.{SiteState, open_shift, opening}
use Rattle.written_site.specs.SiteStep.{site_after}
use Rattle.written_site.specs.Sound.{Sound}
use Rattle.written_site.proofs.RowWords.{append_none, total_push}
use Rattle.written_site.proofs.SigningLaws.{shift_by_rows}
use Rattle.written_site.proofs.SlotRows.{moment_at}
use Rattle.written_site.proofs.SoundTables.{told_once}
use Rattle.site_book.specs.Book.{Book, site_of_book}
use Rattle.site_book.specs.BookSales.{sale_made, sale_named, sales_from}

-- the moment of the row at a place
pub moment_there : (earlier : List Row) (s : SiteState) (rows : List Row) (i : ℕ) (r : Row)
    → slice_get rows i ≡ Some r
    → slice_get (moments_after earlier s rows) i
    ≡ Some (moment_at (earlier ++ take i rows) (site_of_rows s (take i rows)) r)
moment_there earlier s [] i r found = cc
moment_there earlier s (x ∷ rows) zero r found =
    ap (λ y. Some (moment_at earlier s y)) (told_once x r found)
    ∙ ap (λ e. Some (moment_at e s r)) (sym (append_none earlier))
moment_there earlier s (x ∷ rows) (suc i) r found =
    let next : SiteState = site_after s x.actor x.event in
    moment_there (earlier ++ x ∷ []) next rows i r found
    ∙ ap (λ e. Some (moment_at e (site_of_rows next (take i rows)) r))
    (append_assoc earlier (x ∷ []) (take i rows))

-- the moments from a place on are that of its row, and those behind it
pub moments_more : (c : Configured) (rows : List Row) (i : ℕ) (r : Row)
    → slice_get rows i ≡ Some r
    → drop i (moments_of c rows)
    ≡ moment_at (take i rows) (site_of_rows (opening c) (take i rows)) r
    ∷ drop (i + 1) (moments_of c rows)
moments_more c rows i r found =
    let m : Moment = moment_at (take i rows) (site_of_rows (opening c) (take i rows)) r in
    let there = moment_there [] (opening c) rows i r found in
    drop_more (moments_of c rows) i m (slice_get_within (moments_of c rows) i m there)
    ∙ ap (λ x. x ∷ drop (i + 1) (moments_of c rows))
    (get_or_from_slice_get (moments_of c rows) i m m there)

-- the sales from a place on are that of its row, if it made one, and those behind it
pub sales_more : (b : Book) (i : ℕ) (r : Row) → slice_get b.rows i ≡ Some r
    → sales_from i b
    ≡ cons_option (option_and_then (sale_named (site_of_book b))
    (key_sold (take i b.rows) (point_named r.event) (number_sold r.reply)))
    (sales_from (i + 1) b)
sales_more b i r found =
    ap (filter_map (sale_made (site_of_book b))) (moments_more b.config b.rows i r found)

-- the rows up to a place, with its own
pub rows_more : (rows : List Row) (i : ℕ) (r : Row) → slice_get rows i ≡ Some r
    → take (i + 1) rows ≡ take i rows ++ r ∷ []
rows_more rows i r found =
    take_more rows i r (slice_get_within rows i r found)
    ∙ ap (λ x. take i rows ++ x ∷ []) (get_or_from_slice_get rows i r r found)

-- the row at a place may close a shift
pub open_more : (rows : List Row) (i : ℕ) (r : Row) → slice_get rows i ≡ Some r
    → open_after (take (i + 1) rows)
    ≡ open_after (take i rows) + (if closes_shift r then 1 else 0)
open_more rows i r found =
    let more = total_push (λ x. if closes_shift x then 1 else 0) (take i rows) r in
    ap open_after (rows_more rows i r found) ∙ omega (arith, more)

closes_most : (k : ℕ) (rows : List Row)
    → count closes_shift (take k rows) ≤ count closes_shift rows
closes_most zero rows = omega arith
closes_most (suc k) [] = omega arith
closes_most (suc k) (r ∷ rows) = let rest = closes_most k rows in omega (arith, rest)

-- the first rows open no more shifts than all of them
pub open_most : (k : ℕ) (rows : List Row) → open_after (take k rows) ≤ open_after rows
open_most k rows = omega (arith, closes_most k rows)

-- the open shift of a sound site has a number
pub shifts_fit : (c : Configured) (rows : List Row) (s : SiteState) → IsLegal (opening c) rows
    → s ≡ site_of_rows (opening c) rows → Sound s → open_after rows ≤ GREATEST_SHIFT
shifts_fit c rows s legal leads sound =
    let by_rows = (shift_by_rows c rows legal).shift in
    let high = sound.shift.high in
    let drawn = ap (λ (x : SiteState). open_shift x) leads in
    omega (arith, by_rows, high, drawn)

moments_long : (earlier : List Row) (s : SiteState) (rows : List Row)
    → length (moments_after earlier s rows) ≡ length rows
moments_long earlier s [] = refl
moments_long earlier s (r ∷ rows) =
    ap suc (moments_long (earlier ++ r ∷ []) (site_after s r.actor r.event) rows)

-- behind the last row there are no moments
pub moments_over : (c : Configured) (rows : List Row) (i : ℕ) → length rows ≤ i
    → drop i (moments_of c rows) ≡ []
moments_over c rows i over =
    let long = moments_long [] (opening c) rows in
    at_drop_all (λ ms. ms) (moments_of c rows) i (omega (arith, long, over))

-- and no sales
pub sales_over : (b : Book) (i : ℕ) → length b.rows ≤ i → sales_from i b ≡ []
sales_over b i over =
    ap (filter_map (sale_made (site_of_book b))) (moments_over b.config b.rows i over)
