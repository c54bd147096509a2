-- The unpaid transactions of a book, row after row.
use Rattle.std.proofs.Common.{◌≡◌, ℕ, ◌+◌, ◌≤◌, Bool, true, false, List, [], ◌∷◌, ◌++◌, take}
use Rattle.std.proofs.Common.{length, slice_get, Option, Some, None, refl, sym, ap, ◌∙◌, append-nil}
use Rattle.std.proofs.Common.{◌<◌, ◌⊎◌, inl, inr, get_or, is_some, subst, arith, nat_lt}
use Rattle.std.proofs.lemmas.Bool.Decides.{nat_tests}
use Rattle.std.specs.Prelude.{filter, filter_map, option_and_then, option_map}
use Rattle.std.specs.List.{AllByRecursion, cons_option}
use Rattle.std.proofs.lemmas.List.{take-append-drop, take_more}
use Rattle.std.proofs.lemmas.List.Elements.{filter-append, filter_map-append}
use Rattle.std.proofs.lemmas.Option.{slice_get_cases, slice_get_within, get_or_from_slice_get}
use Rattle.site_base.specs.declared.row.Row.{Row}
use Rattle.site_base.specs.Configured.{Configured}
use Rattle.site_base.specs.Events.{point_named}
use Rattle.transaction_buffer.specs.Sales.{Key, Sale, sale_of}
use Rattle.written_site.specs.Histories.{Moment, moments_of}
use Rattle.written_site.specs.RowWords.{open_after}
use Rattle.written_site.specs.SaleWords.{key_sold, number_sold}
use Rattle.written_site.specs.SiteRun.{site_of_rows, IsLegal}
use Rattle.written_site.specs.SiteState.{SiteState, opening}
use Rattle.written_site.proofs.SlotRows.{moment_at}
use Rattle.site_book.specs.declared.named_sale.NamedSale.{NamedSale}
use Rattle.site_book.specs.Book.{Book, site_of_book}
use Rattle.site_book.specs.BookSales.{sale_made, sale_named, with_name}
use Rattle.site_book.proofs.BookDraws.{legal_take, not_missing}
use Rattle.site_book.proofs.BookSales.{moment_there, moments_over}
use Rattle.site_book.specs.Unpaid.{GoesBy, IsOfSite, Kept, as_they_stand, is_due, name_of}
use Rattle.site_book.specs.Unpaid.{unpaid_before, unpaid_sales}

-- ---- a transaction as it stands

-- it stands so again
pub stands : (s : SiteState) (k : Key) (y : NamedSale) → sale_named s k ≡ Some y
    → sale_named s (name_of y) ≡ Some y
stands s k y is = by (sale_of k s.sales) refl is
  where
    by : (x : Option Sale) → sale_of k s.sales ≡ x → option_map (with_name k) x ≡ Some y
        → sale_named s (name_of y) ≡ Some y
    by None found is = cc
    by (Some x) found is =
        let same : with_name k x ≡ y = cc in
        ap (λ (z : NamedSale). sale_named s (name_of z)) (sym same)
        ∙ ap (option_map (with_name k)) found ∙ is

-- those that are unpaid as they stand stay all when they are looked up again
pub again : (s : SiteState) (xs : List NamedSale)
    → as_they_stand s (filter is_due (as_they_stand s xs)) ≡ filter is_due (as_they_stand s xs)
again s [] = refl
again s (x ∷ xs) = by (sale_named s (name_of x)) refl (again s xs)
  where
    due : (y : NamedSale) (b : Bool) → is_due y ≡ b → sale_named s (name_of y) ≡ Some y
        → as_they_stand s (filter is_due (as_they_stand s xs))
        ≡ filter is_due (as_they_stand s xs)
        → as_they_stand s (filter is_due (y ∷ as_they_stand s xs))
        ≡ filter is_due (y ∷ as_they_stand s xs)
    due y true d there rest = rw d (rw there (ap (λ (l : List NamedSale). y ∷ l) rest))
    due y false d there rest = rw d rest

    by : (o : Option NamedSale) → sale_named s (name_of x) ≡ o
        → as_they_stand s (filter is_due (as_they_stand s xs))
        ≡ filter is_due (as_they_stand s xs)
        → as_they_stand s (filter is_due (cons_option o (as_they_stand s xs)))
        ≡ filter is_due (cons_option o (as_they_stand s xs))
    by None is rest = rest
    by (Some y) is rest = due y (is_due y) refl (stands s (name_of x) y is) rest

-- what a row sold stands as it is found
sold_stands : (s : SiteState) (sold : Option Key)
    → as_they_stand s (cons_option (option_and_then (sale_named s) sold) [])
    ≡ cons_option (option_and_then (sale_named s) sold) []
sold_stands s None = refl
sold_stands s (Some k) = by (sale_named s k) refl
  where
    by : (o : Option NamedSale) → sale_named s k ≡ o
        → as_they_stand s (cons_option o []) ≡ cons_option o []
    by None is = refl
    by (Some y) is = rw (stands s k y is) refl

-- the site has those that are found there
found_of_site : (s : SiteState) (xs : List NamedSale)
    → AllByRecursion (IsOfSite s) (filter is_due (as_they_stand s xs))
found_of_site s [] = tt
found_of_site s (x ∷ xs) = by (sale_named s (name_of x)) refl (found_of_site s xs)
  where
    due : (y : NamedSale) (b : Bool) → is_due y ≡ b → IsOfSite s y
        → AllByRecursion (IsOfSite s) (filter is_due (as_they_stand s xs))
        → AllByRecursion (IsOfSite s) (filter is_due (y ∷ as_they_stand s xs))
    due y true d there rest = rw d (there, rest)
    due y false d there rest = rw d rest

    by : (o : Option NamedSale) → sale_named s (name_of x) ≡ o
        → AllByRecursion (IsOfSite s) (filter is_due (as_they_stand s xs))
        → AllByRecursion (IsOfSite s) (filter is_due (cons_option o (as_they_stand s xs)))
    by None is rest = rest
    by (Some y) is rest =
        due y (is_due y) refl
        (ap (λ (o : Option NamedSale). is_some o) (stands s (name_of x) y is)) rest

-- so it has what a row sold
sold_of_site : (s : SiteState) (sold : Option Key)
    → AllByRecursion (IsOfSite s) (cons_option (option_and_then (sale_named s) sold) [])
sold_of_site s None = tt
sold_of_site s (Some k) = by (sale_named s k) refl
  where
    by : (o : Option NamedSale) → sale_named s k ≡ o
        → AllByRecursion (IsOfSite s) (cons_option o [])
    by None is = tt
    by (Some y) is = (ap (λ (o : Option NamedSale). is_some o) (stands s k y is), tt)

all_append : {X : Type 0} (P : X → Type 0) (xs ys : List X) → AllByRecursion P xs
    → AllByRecursion P ys → AllByRecursion P (xs ++ ys)
all_append P [] ys first second = second
all_append P (x ∷ xs) ys first second = (first.0, all_append P xs ys first.1 second)

-- ---- one row more

moments_taken : (c : Configured) (rows : List Row) (i : ℕ) (r : Row) → slice_get rows i ≡ Some r
    → take (i + 1) (moments_of c rows)
    ≡ take i (moments_of c rows)
    ++ moment_at (take i rows) (site_of_rows (opening c) (take i rows)) r ∷ []
moments_taken c rows i r found =
    let m : Moment = moment_at (take i rows) (site_of_rows (opening c) (take i rows)) r in
    let there = moment_there [] (opening c) rows i r found in
    take_more (moments_of c rows) i m (slice_get_within (moments_of c rows) i m there)
    ∙ ap (λ (x : Moment). take i (moments_of c rows) ++ x ∷ [])
    (get_or_from_slice_get (moments_of c rows) i m m there)

-- the sale that this row made, by its name
abbrev key_at : Book → ℕ → Row → Option Key
key_at b i r = key_sold (take i b.rows) (point_named r.event) (number_sold r.reply)

before_more : (b : Book) (i : ℕ) (r : Row) → slice_get b.rows i ≡ Some r
    → unpaid_before (i + 1) b
    ≡ unpaid_before i b ++ filter is_due
    (cons_option (option_and_then (sale_named (site_of_book b)) (key_at b i r)) [])
before_more b i r found =
    let s : SiteState = site_of_book b in
    let m : Moment =
    moment_at (take i b.rows) (site_of_rows (opening b.config) (take i b.rows)) r in
    ap (λ (ms : List Moment). filter is_due (filter_map (sale_made s) ms))
    (moments_taken b.config b.rows i r found)
    ∙ ap (filter is_due)
    (filter_map-append (sale_made s) (take i (moments_of b.config b.rows)) (m ∷ []))
    ∙ filter-append is_due (filter_map (sale_made s) (take i (moments_of b.config b.rows)))
    (filter_map (sale_made s) (m ∷ []))

-- what it sold is kept
pub row_read : (b : Book) (kept : List NamedSale) (i : ℕ) (r : Row) (sold : Option NamedSale)
    → slice_get b.rows i ≡ Some r
    → sold ≡ option_and_then (sale_named (site_of_book b)) (key_at b i r)
    → filter is_due (as_they_stand (site_of_book b) kept) ≡ unpaid_before i b
    → filter is_due (as_they_stand (site_of_book b) (kept ++ cons_option sold []))
    ≡ unpaid_before (i + 1) b
row_read b kept i r sold found is before =
    let s : SiteState = site_of_book b in
    let one : Option NamedSale = option_and_then (sale_named s) (key_at b i r) in
    ap (λ (o : Option NamedSale). filter is_due (as_they_stand s (kept ++ cons_option o []))) is
    ∙ ap (filter is_due) (filter_map-append (λ (x : NamedSale). sale_named s (name_of x)) kept
    (cons_option one []))
    ∙ filter-append is_due (as_they_stand s kept) (as_they_stand s (cons_option one []))
    ∙ ap (λ (xs : List NamedSale). filter is_due (as_they_stand s kept) ++ filter is_due xs)
    (sold_stands s (key_at b i r))
    ∙ ap (λ (xs : List NamedSale). xs ++ filter is_due (cons_option one [])) before
    ∙ sym (before_more b i r found)

-- ---- all rows

pub all_before : (b : Book) (i : ℕ) → length b.rows ≤ i → unpaid_before i b ≡ unpaid_sales b
all_before b i over =
    let ms : List Moment = moments_of b.config b.rows in
    ap (λ (l : List Moment). filter is_due (filter_map (sale_made (site_of_book b)) l))
    (sym (append-nil (take i ms))
    ∙ ap (λ (l : List Moment). take i ms ++ l) (sym (moments_over b.config b.rows i over))
    ∙ take-append-drop i ms)

-- what is kept goes by the book with one row more read
pub row_kept : (b : Book) (kept : Kept) (r : Row) (sold : Option NamedSale) (next : ℕ)
    → slice_get b.rows kept.place ≡ Some r → IsLegal (opening b.config) b.rows
    → ((earlier : List Row) → kept.shift ≡ open_after earlier → sold
    ≡ option_and_then (sale_named (site_of_book b))
    (key_sold earlier (point_named r.event) (number_sold r.reply)))
    → (kept.shift ≡ open_after (take kept.place b.rows)
    → next ≡ open_after (take (kept.place + 1) b.rows))
    → GoesBy kept b
    → GoesBy (record {
      place = kept.place + 1;
      shift = next;
      sales = kept.sales ++ cons_option sold [];
    }) b
row_kept b kept r sold next found legal is opens goes = record {
  behind = let behind = goes.behind in omega (arith, behind);
  within = omega (arith, slice_get_within b.rows kept.place r found);
  legal = legal_take (kept.place + 1) (opening b.config) b.rows legal;
  shift = opens goes.shift;
  there = subst
      (λ (o : Option NamedSale).
      AllByRecursion (IsOfSite (site_of_book b)) (kept.sales ++ cons_option o []))
      (sym (is (take kept.place b.rows) goes.shift))
      (all_append (IsOfSite (site_of_book b)) kept.sales
      (cons_option (option_and_then (sale_named (site_of_book b)) (key_at b kept.place r)) [])
      goes.there (sold_of_site (site_of_book b) (key_at b kept.place r)));
  unpaid = row_read b kept.sales kept.place r sold found
      (is (take kept.place b.rows) goes.shift) goes.unpaid;
}

-- what is unpaid among what is unpaid is all of it
twice : (xs : List NamedSale) → filter is_due (filter is_due xs) ≡ filter is_due xs
twice [] = refl
twice (x ∷ xs) = by (is_due x) refl (twice xs)
  where
    by : (b : Bool) → is_due x ≡ b → filter is_due (filter is_due xs) ≡ filter is_due xs
        → filter is_due (filter is_due (x ∷ xs)) ≡ filter is_due (x ∷ xs)
    by true is rest = rw is (rw is (ap (λ (l : List NamedSale). x ∷ l) rest))
    by false is rest = rw is rest

-- once all rows are read, what was kept is looked up, and is all that is unpaid
pub all_read : (b : Book) (kept : Kept) (due : List NamedSale) → length b.rows ≤ kept.place
    → due ≡ filter is_due (as_they_stand (site_of_book b) kept.sales) → GoesBy kept b
    → (due ≡ unpaid_sales b)
    × GoesBy (record { place = kept.place; shift = kept.shift; sales = due }) b
all_read b kept due over is goes =
    let s : SiteState = site_of_book b in
    let same : as_they_stand s due ≡ due =
    ap (as_they_stand s) is ∙ again s kept.sales ∙ sym is in (
      is ∙ goes.unpaid ∙ all_before b kept.place over,
      record {
        behind = goes.behind;
        within = goes.within;
        legal = goes.legal;
        shift = goes.shift;
        there = subst (AllByRecursion (IsOfSite s)) (sym is) (found_of_site s kept.sales);
        unpaid = ap (filter is_due) (same ∙ is)
            ∙ twice (as_they_stand s kept.sales) ∙ goes.unpaid;
      },
    )

-- a row that the book tells stands at its place
pub told_there : (b : Book) (i : ℕ) (found : Option Row) (r : Row)
    → (b.forgotten ≤ i → found ≡ slice_get b.rows i) → (i < b.forgotten → found ≡ None)
    → found ≡ Some r → slice_get b.rows i ≡ Some r
told_there b i found r kept forgotten is = by (nat_lt i b.forgotten) refl
  where
    by : (t : Bool) → nat_lt i b.forgotten ≡ t → slice_get b.rows i ≡ Some r
    by false not_before =
        let behind : b.forgotten ≤ i = grind (arith, nat_tests) in
        sym (kept behind) ∙ is
    by true before =
        let earlier : i < b.forgotten = grind (arith, nat_tests) in
        absurd (not_missing found r is (forgotten earlier))

-- where there is no row, all are read
pub none_left : (b : Book) (i : ℕ) → ((x : Row) → slice_get b.rows i ≡ Some x → ⊥)
    → length b.rows ≤ i
none_left b i none = by (slice_get_cases b.rows i).1
  where
    by : ((x : Row) × (i < length b.rows) × (slice_get b.rows i ≡ Some x) × (get_or b.rows i x ≡ x))
        ⊎ ((length b.rows ≤ i) × (slice_get b.rows i ≡ None)) → length b.rows ≤ i
    by (inl there) = absurd (none there.0 there.2)
    by (inr over) = over.0

-- the same of what is seen where no row is found any more
pub whole : (b : Book) (seen kept : Kept) (row : Option Row) (sales due : List NamedSale)
    → (b.forgotten ≤ seen.place → row ≡ slice_get b.rows seen.place)
    → ((x : Row) → row ≡ Some x → ⊥) → seen ≡ kept
    → sales ≡ kept.sales → due ≡ filter is_due (as_they_stand (site_of_book b) sales)
    → GoesBy kept b
    → (due ≡ unpaid_sales b)
    × GoesBy (record { place = kept.place; shift = kept.shift; sales = due }) b
    × (length b.rows ≤ kept.place)
whole b seen kept row sales due found none same kept_sales is goes =
    let left = none_left b kept.place (λ x there. none x
    (found (subst (λ (k : Kept). b.forgotten ≤ k.place) (sym same) goes.behind)
    ∙ ap (λ (k : Kept). slice_get b.rows k.place) same ∙ there)) in
    let all = all_read b kept due left
    (is
    ∙ ap (λ (xs : List NamedSale). filter is_due (as_they_stand (site_of_book b) xs))
    kept_sales)
    goes in
    (all.0, all.1, left)
