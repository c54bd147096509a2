-- A book with one more row.
use Rattle.std.proofs.Common.{◌≡◌, ℕ, ◌+◌, ◌≤◌, false, List, [], ◌∷◌, ◌++◌, length, length-append}
use Rattle.std.proofs.Common.{Bool, true, if◌then◌else◌, nat_le, not, suc}
use Rattle.std.proofs.Common.{Option, Some, None, ap, sym, subst, ◌∙◌, arith, append-nil, refl}
use Rattle.std.proofs.lemmas.List.{append_assoc}
use Rattle.std.proofs.lemmas.Bool.{false≢true, le-leb}
use Rattle.std.specs.List.{AllByRecursion}
use Rattle.std.specs.Ordering.{nat_cmp}
use Rattle.std.specs.FinSet as set
use Rattle.site_base.specs.declared.limits.TheConstants.{TILLS}
use Rattle.site_base.specs.declared.row.Row.{Row}
use Rattle.site_base.specs.declared.signing.SignChange.{SignChange}
use Rattle.site_base.specs.declared.signing.SignChange.TheVariants.{On, Off}
use Rattle.site_base.specs.Configured.{Configured}
use Rattle.written_site.specs.SiteState.{SiteState, is_signed_on, opening}
use Rattle.written_site.specs.SiteStep.{Steps, reply_to, site_after}
use Rattle.written_site.specs.Sound.{InRange}
use Rattle.written_site.specs.SiteRun.{IsLegal}
use Rattle.kept_history.specs.KeptRows.{is_kept, is_read, kept_rows}
use Rattle.written_site.proofs.Histories.{site_of_rows-push, IsLegal-push}
use Rattle.site_book.specs.declared.book.TheConstants.{FORGOTTEN_ROWS}
use Rattle.site_book.specs.Book.{AreRowsInRange, Book, IsBook, IsSameButForgotten, site_at}
use Rattle.site_book.specs.Book.{with_rows_forgotten}
use Rattle.site_book.specs.RowLists.{RowList, rows_forgotten}
use Rattle.site_book.specs.SignedOn.{AreTills, IsTillActor, tills_on, tills_with}
use Rattle.site_book.specs.KeptCounts.{kept_after}
use Rattle.site_book.proofs.SignedTills.{counted_row, no_more, tills_after, tills_row}

-- what is so of each row, of one row more
each-push : (P : Row → Type 0) (rows : List Row) (r : Row) → AllByRecursion P rows → P r
    → AllByRecursion P (rows ++ r ∷ [])
each-push P [] r all one = (one, tt)
each-push P (x ∷ xs) r all one = (all.0, each-push P xs r all.1 one)

-- ---- how many rows are kept

-- one row more
kept_more : (rows : List Row) (r : Row)
    → length (kept_rows (rows ++ r ∷ [])) ≡ kept_after r.event (length (kept_rows rows))
kept_more [] r = by_test (is_read r.event)
  where
    by_test : (b : Bool) → length (if not b then r ∷ [] else []) ≡ (if b then 0 else 0 + 1)
    by_test true = refl
    by_test false = refl
kept_more (x ∷ rows) r = by_test (is_kept x) (kept_more rows r)
  where
    by_test : (b : Bool)
        → length (kept_rows (rows ++ r ∷ [])) ≡ kept_after r.event (length (kept_rows rows))
        → length (if b then x ∷ kept_rows (rows ++ r ∷ []) else kept_rows (rows ++ r ∷ []))
        ≡ kept_after r.event (length (if b then x ∷ kept_rows rows else kept_rows rows))
    by_test true rest = ap suc rest ∙ one_before (is_read r.event)
      where
        one_before : (read : Bool)
            → suc (if read then length (kept_rows rows) else length (kept_rows rows) + 1)
            ≡ (if read then suc (length (kept_rows rows)) else suc (length (kept_rows rows)) + 1)
        one_before true = refl
        one_before false = omega arith
    by_test false rest = rest

-- no more rows are kept than there are
pub kept_few : (rows : List Row) → length (kept_rows rows) ≤ length rows
kept_few [] = omega arith
kept_few (r ∷ rows) = by_test (is_kept r) (kept_few rows)
  where
    by_test : (b : Bool) → length (kept_rows rows) ≤ length rows
        → length (if b then r ∷ kept_rows rows else kept_rows rows) ≤ suc (length rows)
    by_test true few = omega (arith, few)
    by_test false few = omega (arith, few)

-- so they can be counted
pub kept_fits : (config : Configured) (earlier rows : List Row) (site : SiteState)
    (on room forgotten kept : ℕ)
    → IsBook config earlier rows site on room forgotten kept
    → kept ≤ forgotten + config.rows + TILLS
kept_fits config earlier rows site on room forgotten kept book =
    omega (
      arith,
      book.keeps,
      kept_few (earlier ++ rows),
      length-append earlier rows,
      book.counts,
      book.few,
    )

-- at most one till more is signed on
pub tills_with-most : (change : Option SignChange) (on : ℕ) → tills_with change on ≤ on + 1
tills_with-most (Some (On t)) on = omega arith
tills_with-most (Some (Off t)) on = omega arith
tills_with-most None on = omega arith

-- the book's row of a step
pub IsBook-push : (config : Configured) (earlier rows : List Row) (site new : SiteState)
    (on room left forgotten kept : ℕ) (r : Row)
    → IsBook config earlier rows site on room forgotten kept
    → Steps site r.actor r.event new r.reply
    → InRange r.event → IsTillActor r.actor
    → tills_after r on ≤ left
    → ((most : tills_after r on ≤ TILLS)
    → length rows + 1 + tills_after r on ≤ config.rows + TILLS)
    → IsBook config earlier (rows ++ r ∷ []) new (tills_after r on) left forgotten
    (kept_after r.event kept)
IsBook-push config earlier rows site new on room left forgotten kept r book steps range actor
    reserved few =
    let all : List Row = earlier ++ rows in
    let joined : all ++ r ∷ [] ≡ earlier ++ (rows ++ r ∷ []) =
    append_assoc earlier rows (r ∷ []) in
    let counted : tills_after r on ≡ tills_on new =
    ap (tills_after r) book.counted
    ∙ sym (counted_row site r steps.replies)
    ∙ ap tills_on (sym steps.leads) in
    let tills = subst (λ s. AreTills s) (sym steps.leads)
    (tills_row site r steps.replies actor book.tills) in
    let most : tills_after r on ≤ TILLS =
    subst (λ n. n ≤ TILLS) (sym counted) (no_more TILLS new.signed_on tills) in
    record {
      leads =
          steps.leads
          ∙ ap (λ (s : SiteState). site_after s r.actor r.event) book.leads
          ∙ sym (site_of_rows-push (opening config) all r)
          ∙ ap (site_at config) joined;
      legal = subst (IsLegal (opening config)) joined
          (IsLegal-push (opening config) all r book.legal
          (steps.replies ∙ ap (λ (s : SiteState). reply_to s r.actor r.event) book.leads));
      ranges = subst AreRowsInRange joined (record {
        readings = each-push (λ x. InRange x.event) all r book.ranges.readings range;
        actors = each-push (λ x. IsTillActor x.actor) all r book.ranges.actors actor;
      });
      tills = tills;
      counted = counted;
      reserved = reserved;
      few = subst (λ n. n + tills_after r on ≤ config.rows + TILLS)
          (sym (length-append rows (r ∷ []))) (few most);
      counts = book.counts;
      countable = book.countable;
      keeps =
          ap (kept_after r.event) book.keeps
          ∙ sym (kept_more all r)
          ∙ ap (λ (xs : List Row). length (kept_rows xs)) joined;
    }

-- the book once all its rows are forgotten
pub IsBook-forget : (config : Configured) (earlier rows : List Row) (site : SiteState)
    (on room forgotten kept : ℕ)
    → IsBook config earlier rows site on room forgotten kept
    → length (earlier ++ rows) ≤ FORGOTTEN_ROWS
    → IsBook config (earlier ++ rows) [] site on room (length (earlier ++ rows)) kept
IsBook-forget config earlier rows site on room forgotten kept book fits =
    let none : earlier ++ rows ≡ (earlier ++ rows) ++ [] = sym (append-nil (earlier ++ rows)) in
    record {
      leads = book.leads ∙ ap (site_at config) none;
      legal = subst (IsLegal (opening config)) none book.legal;
      ranges = subst AreRowsInRange none book.ranges;
      tills = book.tills;
      counted = book.counted;
      reserved = book.reserved;
      few = let few = book.few in omega (arith, few);
      counts = refl;
      countable = fits;
      keeps = book.keeps ∙ ap (λ (xs : List Row). length (kept_rows xs)) none;
    }

-- one list more is forgotten
pub forgotten_more : (lists : List (RowList × Unit {0})) (l : RowList)
    → rows_forgotten (lists ++ (l, tt) ∷ []) ≡ rows_forgotten lists ++ l.rows
forgotten_more [] l = append-nil l.rows
forgotten_more (x ∷ lists) l =
    ap (λ (rows : List Row). x.0.rows ++ rows) (forgotten_more lists l)
    ∙ sym (append_assoc x.0.rows (rows_forgotten lists) l.rows)

-- the book whose rows are all forgotten
pub forgets : (b : Book) (gone rows : List Row) → gone ≡ b.rows → rows ≡ []
    → length b.rows ≤ FORGOTTEN_ROWS
    → ◌≡◌ {A = Book}
    (record { config = b.config; rows = gone ++ rows; forgotten = length gone })
    (with_rows_forgotten b)
forgets b gone rows all none fits =
    rw (all, none, append-nil b.rows, le-leb (length b.rows) FORGOTTEN_ROWS fits) refl

-- forgetting changes nothing else
pub forgets_alone : (b : Book) → IsSameButForgotten b (with_rows_forgotten b)
forgets_alone b = by (nat_le (length b.rows) FORGOTTEN_ROWS)
  where
    by : (t : Bool) → IsSameButForgotten b (if t then record b { forgotten = length b.rows } else b)
    by true = record { config = refl; rows = refl; site = refl }
    by false = record { config = refl; rows = refl; site = refl }

-- the book of an opening site
pub opens : (config : Configured) (site : SiteState) (room : ℕ) → site ≡ opening config
    → IsBook config [] [] site 0 room 0 0
opens config site room is = record {
  leads = is;
  legal = tt;
  ranges = record { readings = tt; actors = tt };
  tills = λ t on. absurd (false≢true (sym (nobody t) ∙ on));
  counted = sym (ap tills_on is ∙ set.len-empty nat_cmp);
  reserved = omega arith;
  few = omega arith;
  counts = refl;
  countable = omega arith;
  keeps = refl;
}
  where
    nobody : (t : ℕ) → is_signed_on site t ≡ false
    nobody t = ap (λ s. is_signed_on s t) is ∙ set.contains-empty nat_cmp t
