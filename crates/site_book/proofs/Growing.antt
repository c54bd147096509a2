-- What is kept goes on going by its book while the book grows.
use Rattle.std.proofs.Common.{◌≡◌, ℕ, zero, suc, Bool, true, false, List, [], ◌∷◌, ◌++◌, take}
use Rattle.std.proofs.Common.{drop, length, length-append, Option, Some, None, is_some, refl, sym}
use Rattle.std.proofs.Common.{subst, ap, ◌∙◌, arith, ◌≤◌, nat_le, append-nil, if◌then◌else◌}
use Rattle.std.specs.Prelude.{filter, filter_map, IsSome, option_and_then, option_map}
use Rattle.std.specs.List.{AllByRecursion, cons_option}
use Rattle.std.proofs.lemmas.List.{take-append-drop, take-append-le}
use Rattle.site_base.specs.declared.row.Row.{Row}
use Rattle.site_base.specs.Configured.{Configured}
use Rattle.transaction_buffer.specs.Sales.{Key, Sale, is_unpaid, sale_of}
use Rattle.written_site.specs.Histories.{Moment, moments_after, moments_of}
use Rattle.written_site.specs.RowWords.{open_after}
use Rattle.written_site.specs.SaleWords.{sold_as}
use Rattle.written_site.specs.SiteRun.{site_of_rows, IsLegal}
use Rattle.written_site.specs.SiteState.{SiteState, opening}
use Rattle.written_site.specs.SiteStep.{site_after}
use Rattle.written_site.proofs.RowFacts.{known_first}
use Rattle.written_site.proofs.SoundTables.{told_once}
use Rattle.site_book.specs.declared.named_sale.NamedSale.{NamedSale}
use Rattle.site_book.specs.declared.book.TheConstants.{FORGOTTEN_ROWS}
use Rattle.site_book.specs.Book.{Book, site_at, site_of_book, with_rows_forgotten}
use Rattle.site_book.proofs.Books.{forgets_alone}
use Rattle.site_book.specs.BookSales.{sale_made, sale_named, with_name}
use Rattle.site_book.specs.Unpaid.{GoesBy, IsOfSite, Kept, as_they_stand, is_due, name_of}
use Rattle.site_book.proofs.Staying.{AllByRecursion-weaker, AllStay, Has, IsSoldThere, Stays}
use Rattle.site_book.proofs.Staying.{all_sold_there, all_stay, has_later}

-- ---- unpaid transactions later

due_first : (x : NamedSale) (xs : List NamedSale) → is_due x ≡ true
    → filter is_due (x ∷ xs) ≡ x ∷ filter is_due xs
due_first x xs is = rw is refl

not_due_first : (x : NamedSale) (xs : List NamedSale) → is_due x ≡ false
    → filter is_due (x ∷ xs) ≡ filter is_due xs
not_due_first x xs is = rw is refl

same_first : (x : NamedSale) (xs ys : List NamedSale) → filter is_due xs ≡ filter is_due ys
    → filter is_due (x ∷ xs) ≡ filter is_due (x ∷ ys)
same_first x xs ys is = by (is_due x) refl
  where
    by : (b : Bool) → is_due x ≡ b → filter is_due (x ∷ xs) ≡ filter is_due (x ∷ ys)
    by true due =
        due_first x xs due ∙ ap (λ (l : List NamedSale). x ∷ l) is ∙ sym (due_first x ys due)
    by false due = not_due_first x xs due ∙ is ∙ sym (not_due_first x ys due)

-- one transaction more: it is unpaid later only where it is unpaid now
one_later : (now later : SiteState) (name : Option Key) (here after : List NamedSale)
    → AllStay now.sales later.sales → ((k : Key) → name ≡ Some k → Has now k)
    → filter is_due after ≡ filter is_due (as_they_stand later (filter is_due here))
    → filter is_due (cons_option (option_and_then (sale_named later) name) after)
    ≡ filter is_due (as_they_stand later
    (filter is_due (cons_option (option_and_then (sale_named now) name) here)))
one_later now later None here after stay there rest = rest
one_later now later (Some k) here after stay there rest = by (is_unpaid x.standing) refl
  where
    x : Sale
    x = (there k refl).0

    kept : Stays k x later.sales
    kept = stay k x (there k refl).1

    found : sale_named now k ≡ Some (with_name k x)
    found = ap (option_map (with_name k)) (there k refl).1

    found_later : sale_named later k ≡ Some (with_name k kept.sale)
    found_later = ap (option_map (with_name k)) kept.there

    by : (b : Bool) → is_unpaid x.standing ≡ b
        → filter is_due (cons_option (sale_named later k) after)
        ≡ filter is_due (as_they_stand later
        (filter is_due (cons_option (sale_named now k) here)))
    by true due =
        ap (λ (o : Option NamedSale). filter is_due (cons_option o after)) found_later
        ∙ same_first (with_name k kept.sale) after (as_they_stand later (filter is_due here)) rest
        ∙ ap (λ (o : Option NamedSale).
        filter is_due (cons_option o (as_they_stand later (filter is_due here))))
        (sym found_later)
        ∙ ap (λ (l : List NamedSale). filter is_due (as_they_stand later l))
        (sym (due_first (with_name k x) here due))
        ∙ ap (λ (o : Option NamedSale).
        filter is_due (as_they_stand later (filter is_due (cons_option o here))))
        (sym found)
    by false over =
        ap (λ (o : Option NamedSale). filter is_due (cons_option o after)) found_later
        ∙ not_due_first (with_name k kept.sale) after (kept.cleared over)
        ∙ rest
        ∙ ap (λ (l : List NamedSale). filter is_due (as_they_stand later l))
        (sym (not_due_first (with_name k x) here over))
        ∙ ap (λ (o : Option NamedSale).
        filter is_due (as_they_stand later (filter is_due (cons_option o here))))
        (sym found)

-- Of the transactions that these name, those that are unpaid later are among those that are unpaid
-- now: it is enough to look these up.
due_later : {A : Type 0} (name : A → Option Key) (now later : SiteState) (xs : List A)
    → AllStay now.sales later.sales
    → AllByRecursion (λ x. (k : Key) → name x ≡ Some k → Has now k) xs
    → filter is_due (filter_map (λ x. option_and_then (sale_named later) (name x)) xs)
    ≡ filter is_due (as_they_stand later
    (filter is_due (filter_map (λ x. option_and_then (sale_named now) (name x)) xs)))
due_later name now later [] stay there = refl
due_later name now later (x ∷ xs) stay there =
    one_later now later (name x)
    (filter_map (λ y. option_and_then (sale_named now) (name y)) xs)
    (filter_map (λ y. option_and_then (sale_named later) (name y)) xs)
    stay there.0 (due_later name now later xs stay there.1)

-- what is kept is there
kept_there : (s : SiteState) (x : NamedSale) → IsOfSite s x → Has s (name_of x)
kept_there s x is = by (sale_of (name_of x) s.sales) refl is
  where
    by : (o : Option Sale) → sale_of (name_of x) s.sales ≡ o
        → IsSome (option_map (with_name (name_of x)) o) → Has s (name_of x)
    by None found is = cc
    by (Some y) found is = (y, found)

kept_later : (now later : SiteState) (x : NamedSale) → AllStay now.sales later.sales
    → IsOfSite now x → IsOfSite later x
kept_later now later x stay is =
    ap (λ (o : Option Sale). is_some (option_map (with_name (name_of x)) o))
    (has_later now later (name_of x) stay (kept_there now x is)).1

-- ---- the rows of a book that grows

site_of_more : (s : SiteState) (rows more : List Row)
    → site_of_rows s (rows ++ more) ≡ site_of_rows (site_of_rows s rows) more
site_of_more s [] more = refl
site_of_more s (r ∷ rows) more = site_of_more (site_after s r.actor r.event) rows more

-- the first moments are those of the first rows
moments_taken : (i : ℕ) (earlier : List Row) (s : SiteState) (rows : List Row)
    → take i (moments_after earlier s rows) ≡ moments_after earlier s (take i rows)
moments_taken zero earlier s rows = refl
moments_taken (suc i) earlier s [] = refl
moments_taken (suc i) earlier s (r ∷ rows) =
    ap (λ (ms : List Moment). record { earlier = earlier; before = s; row = r } ∷ ms)
    (moments_taken i (earlier ++ r ∷ []) (site_after s r.actor r.event) rows)

-- the site of the book has what its first rows sold, where they are a legal history
first_sold_there : (b : Book) (i : ℕ) → IsLegal (opening b.config) (take i b.rows)
    → AllByRecursion (IsSoldThere (site_of_book b)) (take i (moments_of b.config b.rows))
first_sold_there b i legal =
    subst (AllByRecursion (IsSoldThere (site_of_book b)))
    (sym (moments_taken i [] (opening b.config) b.rows))
    (AllByRecursion-weaker (IsSoldThere first) (IsSoldThere (site_of_book b))
    (λ m there k sold. has_later first (site_of_book b) k stay (there k sold))
    (moments_of b.config (take i b.rows))
    (all_sold_there [] (opening b.config) (take i b.rows) (known_first b.config) legal))
  where
    first : SiteState
    first = site_at b.config (take i b.rows)

    leads : site_of_book b ≡ site_of_rows first (drop i b.rows)
    leads = ap (site_at b.config) (sym (take-append-drop i b.rows))
        ∙ site_of_more (opening b.config) (take i b.rows) (drop i b.rows)

    stay : AllStay first.sales (site_of_book b).sales
    stay = subst (λ (s : SiteState). AllStay first.sales s.sales) (sym leads)
        (all_stay first (drop i b.rows))

-- What goes by a book goes by it once it has grown, and has forgotten at most rows that were read.
pub goes_on : (kept : Kept) (b b' : Book) (more : List Row) → b'.config ≡ b.config
    → b'.rows ≡ b.rows ++ more → b'.forgotten ≤ kept.place → GoesBy kept b → GoesBy kept b'
goes_on kept b b' more config rows behind goes = record {
  behind = behind;
  within =
      let long = ap (λ (l : List Row). length l) rows ∙ length-append b.rows more in
      omega (arith, long, goes.within);
  legal = subst (λ (c : Configured). IsLegal (opening c) (take kept.place b'.rows)) (sym config)
      (subst (IsLegal (opening b.config)) (sym same_rows) goes.legal);
  shift = goes.shift ∙ ap open_after (sym same_rows);
  there = AllByRecursion-weaker (IsOfSite now) (IsOfSite later)
      (λ x is. kept_later now later x stay is) kept.sales goes.there;
  unpaid =
      due_later (λ (x : NamedSale). Some (name_of x)) now later kept.sales stay
      (AllByRecursion-weaker (IsOfSite now)
      (λ x. (k : Key) → Some (name_of x) ≡ Some k → Has now k)
      (λ x is k same. subst (Has now) (told_once (name_of x) k same) (kept_there now x is))
      kept.sales goes.there)
      ∙ ap (λ (l : List NamedSale). filter is_due (as_they_stand later l)) goes.unpaid
      ∙ sym (due_later sold_as now later (take kept.place (moments_of b.config b.rows)) stay
      (first_sold_there b kept.place goes.legal))
      ∙ ap (λ (ms : List Moment). filter is_due (filter_map (sale_made later) ms))
      (sym same_moments);
}
  where
    now : SiteState
    now = site_of_book b

    later : SiteState
    later = site_of_book b'

    same_rows : take kept.place b'.rows ≡ take kept.place b.rows
    same_rows = ap (take kept.place) rows ∙ take-append-le kept.place b.rows more goes.within

    same_moments : take kept.place (moments_of b'.config b'.rows)
        ≡ take kept.place (moments_of b.config b.rows)
    same_moments =
        ap (λ (c : Configured). take kept.place (moments_of c b'.rows)) config
        ∙ moments_taken kept.place [] (opening b.config) b'.rows
        ∙ ap (moments_of b.config) same_rows
        ∙ sym (moments_taken kept.place [] (opening b.config) b.rows)

    grown : later ≡ site_of_rows now more
    grown =
        ap (λ (c : Configured). site_at c b'.rows) config
        ∙ ap (site_at b.config) rows
        ∙ site_of_more (opening b.config) b.rows more

    stay : AllStay now.sales later.sales
    stay = subst (λ (s : SiteState). AllStay now.sales s.sales) (sym grown) (all_stay now more)

-- .. and once it has forgotten the rows that were read
pub forgets_read : (kept : Kept) (b : Book) → length b.rows ≤ kept.place → GoesBy kept b
    → GoesBy kept (with_rows_forgotten b)
forgets_read kept b read goes =
    let alone = forgets_alone b in
    goes_on kept b (with_rows_forgotten b) [] alone.config
    (alone.rows ∙ sym (append-nil b.rows)) behind goes
  where
    behind : (with_rows_forgotten b).forgotten ≤ kept.place
    behind = by (nat_le (length b.rows) FORGOTTEN_ROWS)
      where
        by : (t : Bool)
            → (if t then record b { forgotten = length b.rows } else b).forgotten ≤ kept.place
        by true = read
        by false = goes.behind
