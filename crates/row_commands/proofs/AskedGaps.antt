-- A reader that notes row after row has the gaps of the shifts that are asked for.
use Rattle.std.proofs.Common.{◌≡◌, ◌∙◌, ◌≤◌, ◌<◌, ◌+◌, ℕ, Bool, true, false, List, [], ◌∷◌, ◌++◌}
use Rattle.std.proofs.Common.{Option, Some, None, length, drop, nat_le, nat_lt, refl, ap, arith}
use Rattle.std.proofs.Common.{append_assoc, subst, sym}
use Rattle.std.specs.List.{cons_option}
use Rattle.std.proofs.Math.Seq.{drop-append_seam, drop-length}
use Rattle.std.proofs.lemmas.List.{length-append}
use Rattle.std.specs.Prelude.{IfSome, if◌then◌else◌}
use Rattle.site_base.specs.declared.row.Row.{Row}
use Rattle.site_base.specs.Configured.{Configured}
use Rattle.site_book.specs.Book.{Book}
use Rattle.written_site.specs.RowWords.{open_after}
use Rattle.written_site.specs.SiteRun.{site_of_rows}
use Rattle.written_site.specs.SiteState.{SiteState, opening}
use Rattle.written_site.specs.SiteStep.{site_after}
use Rattle.written_site.proofs.Histories.{site_of_rows-push}
use Rattle.row_tally.specs.declared.refused_run.RowPlace.{RowPlace}
use Rattle.meter_table.specs.Gaps.{Gaps, GapsRead, gaps_over, gaps_with, no_gaps}
use Rattle.meter_table.proofs.GapsOver.{gaps_over-push}
use Rattle.past_rows.specs.declared.shifts.ShiftRange.{ShiftRange}
use Rattle.past_rows.specs.ShiftFigures.{IsNextBook, shift_behind, until_from, until_shift}
use Rattle.past_rows.proofs.RowsBefore.{all_before, row_before, rows_stay}
use Rattle.row_commands.specs.AskedGaps.{HasReadGaps, gaps_behind, noted}

-- a row without its time
abbrev place_of : ℕ → RowPlace
place_of n = record { row = n; at = None }

site_of_parts : (s : SiteState) (xs ys : List Row)
    → site_of_rows s (xs ++ ys) ≡ site_of_rows (site_of_rows s xs) ys
site_of_parts s [] ys = refl
site_of_parts s (x ∷ xs) ys = site_of_parts (site_after s x.actor x.event) xs ys

-- the rows before a shift are the first ones
record AreFirst (first rows : List Row) : Type 0 where
  rest : List Row
  is : rows ≡ first ++ rest

first_until : (n h : ℕ) (rows : List Row) → AreFirst (until_from n h rows) rows
first_until n h [] = record { rest = []; is = refl }
first_until n h (r ∷ rows) = by_test (nat_le n h) (first_until n (shift_behind r h) rows)
  where
    by_test : (t : Bool) → AreFirst (until_from n (shift_behind r h) rows) rows
        → AreFirst (if t then [] else r ∷ until_from n (shift_behind r h) rows) (r ∷ rows)
    by_test true later = record { rest = r ∷ rows; is = refl }
    by_test false later =
        record { rest = later.rest; is = ap (λ (xs : List Row). r ∷ xs) later.is }

-- behind all rows there is no gap
gaps_of_none : (c : Configured) (rows : List Row) → gaps_behind c rows rows ≡ no_gaps
gaps_of_none c rows =
    ap (λ (xs : List Row). gaps_over (site_of_rows (opening c) rows) (length rows) xs no_gaps)
    (drop-length rows)

-- one row more
gaps_more : (c : Configured) (first rows : List Row) (r : Row) → AreFirst first rows
    → gaps_behind c first (rows ++ r ∷ [])
    ≡ gaps_with (place_of (length rows)) (site_of_rows (opening c) rows) r
    (gaps_behind c first rows)
gaps_more c first rows r are =
    let s : SiteState = site_of_rows (opening c) first in
    let rest : List Row = are.rest in
    let left : drop (length first) rows ≡ rest =
    ap (drop (length first)) are.is ∙ drop-append_seam first rest in
    let longer : drop (length first) (rows ++ r ∷ []) ≡ rest ++ r ∷ [] =
    ap (λ (xs : List Row). drop (length first) (xs ++ r ∷ [])) are.is
    ∙ ap (drop (length first)) (append_assoc first rest (r ∷ []))
    ∙ drop-append_seam first (rest ++ r ∷ []) in
    let number : length first + length rest ≡ length rows =
    sym (length-append first rest) ∙ ap length (sym are.is) in
    let site : site_of_rows s rest ≡ site_of_rows (opening c) rows =
    sym (site_of_parts (opening c) first rest) ∙ ap (site_of_rows (opening c)) (sym are.is) in
    ap (λ (xs : List Row). gaps_over s (length first) xs no_gaps) longer
    ∙ gaps_over-push s (length first) rest r no_gaps
    ∙ ap (λ (n : ℕ). gaps_with (place_of n) (site_of_rows s rest) r
    (gaps_over s (length first) rest no_gaps)) number
    ∙ ap (λ (x : SiteState). gaps_with (place_of (length rows)) x r
    (gaps_over s (length first) rest no_gaps)) site
    ∙ ap (λ (xs : List Row). gaps_with (place_of (length rows)) (site_of_rows (opening c) rows) r
    (gaps_over s (length first) xs no_gaps)) (sym left)

-- what a reader has with a row more, behind rows that it has all read
read_more : (c : Configured) (first rows : List Row) (r : Row) (m : GapsRead) → AreFirst first rows
    → m.site ≡ site_of_rows (opening c) rows → m.gaps ≡ gaps_behind c first rows
    → gaps_with (place_of (length rows)) m.site r m.gaps
    ≡ gaps_behind c first (rows ++ r ∷ [])
read_more c first rows r m are site gaps =
    ap (λ (x : SiteState). gaps_with (place_of (length rows)) x r m.gaps) site
    ∙ ap (λ (g : Gaps). gaps_with (place_of (length rows)) (site_of_rows (opening c) rows) r g) gaps
    ∙ sym (gaps_more c first rows r are)

site_more : (c : Configured) (rows : List Row) (r : Row) (m : GapsRead)
    → m.site ≡ site_of_rows (opening c) rows
    → site_after m.site r.actor r.event ≡ site_of_rows (opening c) (rows ++ r ∷ [])
site_more c rows r m site =
    ap (λ (x : SiteState). site_after x r.actor r.event) site
    ∙ sym (site_of_rows-push (opening c) rows r)

-- a reader goes on with a row
pub goes_on : (c : Configured) (shifts : Option ShiftRange) (rows : List Row) (r : Row) (n : ℕ)
    (m : GapsRead) → IfSome shifts (λ x. x.first ≤ x.last) → n ≡ open_after rows
    → HasReadGaps c shifts rows m
    → HasReadGaps c shifts (rows ++ r ∷ []) (noted shifts n (place_of (length rows)) r m)
goes_on c None rows r n m order is read = record {
  site = site_more c rows r m read.site;
  gaps = read_more c [] rows r m (record { rest = rows; is = refl }) read.site read.gaps;
}
goes_on c (Some x) rows r n m order is read = by_last (nat_lt x.last n) refl
  where
    Goal : GapsRead → Type 0
    Goal m' = HasReadGaps c (Some x) (rows ++ r ∷ []) m'

    more : Bool → GapsRead
    more t = record {
      site = site_after m.site r.actor r.event;
      gaps = if t then no_gaps else gaps_with (place_of (length rows)) m.site r m.gaps;
    }

    by_first : n ≤ x.last → (t : Bool) → nat_lt n x.first ≡ t → Goal (more t)
    by_first within t test =
        let before_end : open_after rows < x.last + 1 = omega (arith, within, is) in
        let all : until_shift (x.last + 1) rows ≡ rows =
        all_before (x.last + 1) 1 rows before_end in
        let longer : until_shift (x.last + 1) (rows ++ r ∷ []) ≡ rows ++ r ∷ [] =
        row_before (x.last + 1) 1 rows r before_end in
        let site : m.site ≡ site_of_rows (opening c) rows =
        read.site ∙ ap (site_of_rows (opening c)) all in
        record {
          site = site_more c rows r m site ∙ ap (site_of_rows (opening c)) (sym longer);
          gaps = by t test site all
              ∙ ap (gaps_behind c (until_shift x.first (rows ++ r ∷ []))) (sym longer);
        }
      where
        by : (t : Bool) → nat_lt n x.first ≡ t → m.site ≡ site_of_rows (opening c) rows
            → until_shift (x.last + 1) rows ≡ rows
            → (more t).gaps ≡ gaps_behind c (until_shift x.first (rows ++ r ∷ [])) (rows ++ r ∷ [])
        by true test site all =
            let not_yet : open_after rows < x.first = grind (arith, test, is) in
            sym (gaps_of_none c (rows ++ r ∷ []))
            ∙ ap (λ (xs : List Row). gaps_behind c xs (rows ++ r ∷ []))
            (sym (row_before x.first 1 rows r not_yet))
        by false test site all =
            let reached : x.first ≤ open_after rows = grind (arith, test, is) in
            read_more c (until_shift x.first rows) rows r m (first_until x.first 1 rows) site
            (read.gaps ∙ ap (gaps_behind c (until_shift x.first rows)) all)
            ∙ ap (λ (xs : List Row). gaps_behind c xs (rows ++ r ∷ []))
            (sym (rows_stay x.first 1 rows (r ∷ []) reached))

    by_last : (t : Bool) → nat_lt x.last n ≡ t → Goal (if t then m else more (nat_lt n x.first))
    by_last true test =
        let end : x.last + 1 ≤ open_after rows = grind (arith, test, is) in
        let begun : x.first ≤ open_after rows = omega (arith, end, order) in
        let through : until_shift (x.last + 1) (rows ++ r ∷ []) ≡ until_shift (x.last + 1) rows =
        rows_stay (x.last + 1) 1 rows (r ∷ []) end in
        let before : until_shift x.first (rows ++ r ∷ []) ≡ until_shift x.first rows =
        rows_stay x.first 1 rows (r ∷ []) begun in
        record {
          site = read.site ∙ ap (site_of_rows (opening c)) (sym through);
          gaps = read.gaps ∙ ap (gaps_behind c (until_shift x.first rows)) (sym through)
              ∙ ap (λ (xs : List Row).
              gaps_behind c xs (until_shift (x.last + 1) (rows ++ r ∷ []))) (sym before);
        }
    by_last false test =
        by_first (grind (arith, test)) (nat_lt n x.first) refl

-- before the first row nothing is read
pub has_read_none : (c : Configured) (shifts : Option ShiftRange) (m : GapsRead)
    → m ≡ record { site = opening c; gaps = no_gaps } → HasReadGaps c shifts [] m
has_read_none c None m is = record {
  site = ap (λ (x : GapsRead). x.site) is;
  gaps = ap (λ (x : GapsRead). x.gaps) is;
}
has_read_none c (Some x) m is = record {
  site = ap (λ (x : GapsRead). x.site) is;
  gaps = ap (λ (x : GapsRead). x.gaps) is;
}

abbrev place_with : ℕ → Option (List ℕ) → RowPlace
place_with n at = record { row = n; at = at }

-- a reader notes the row that a book has more
pub notes_row : (earlier b : Book) (shifts : Option ShiftRange) (row : Option Row) (r : Row)
    → row ≡ Some r → b.config ≡ earlier.config → b.rows ≡ earlier.rows ++ cons_option row []
    → (place : RowPlace) → place.row ≡ length earlier.rows → (n : ℕ) → n ≡ open_after earlier.rows
    → place.at ≡ None → (m later : GapsRead) → IfSome shifts (λ x. x.first ≤ x.last)
    → later ≡ noted shifts n place r m → HasReadGaps earlier.config shifts earlier.rows m
    → HasReadGaps b.config shifts b.rows later
notes_row earlier b shifts row r some config rows place number n shift untimed m later order is
    read =
    let longer : b.rows ≡ earlier.rows ++ r ∷ [] =
    rows ∙ ap (λ (o : Option Row). earlier.rows ++ cons_option o []) some in
    let same : place ≡ place_of (length earlier.rows) =
    ap (λ (k : ℕ). place_with k place.at) number
    ∙ ap (place_with (length earlier.rows)) untimed in
    let next : HasReadGaps earlier.config shifts (earlier.rows ++ r ∷ [])
    (noted shifts n (place_of (length earlier.rows)) r m) =
    goes_on earlier.config shifts earlier.rows r n m order shift read in
    subst (λ (c : Configured). HasReadGaps c shifts b.rows later) (sym config)
    (subst (λ (xs : List Row). HasReadGaps earlier.config shifts xs later) (sym longer)
    (subst (HasReadGaps earlier.config shifts (earlier.rows ++ r ∷ []))
    (ap (λ (x : RowPlace). noted shifts n x r m) (sym same) ∙ sym is) next))

pub next_of : (earlier b : Book) (row : Option Row) (r : Row) → row ≡ Some r
    → b.config ≡ earlier.config → b.rows ≡ earlier.rows ++ cons_option row []
    → IsNextBook earlier b
next_of earlier b row r some config rows = record {
  row = r;
  config = config;
  rows = rows ∙ ap (λ (o : Option Row). earlier.rows ++ cons_option o []) some;
}
