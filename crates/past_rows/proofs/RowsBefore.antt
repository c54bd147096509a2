-- The rows before a shift.
use Rattle.std.proofs.Common.{◌≡◌, ◌≢◌, ◌∙◌, ◌≤◌, ◌<◌, ◌+◌, ℕ, Bool, true, false, not, List, []}
use Rattle.std.proofs.Common.{◌∷◌, ◌++◌, Option, Some, None, Result, Ok, Err, ap, arith, nat_le}
use Rattle.std.proofs.Common.{refl}
use Rattle.std.proofs.Common.{length, subst, sym}
use Rattle.std.specs.Prelude.{OnOk, if◌then◌else◌, is_some}
use Rattle.std.specs.List.{cons_option}
use Rattle.site_base.specs.declared.row.Row.{Row}
use Rattle.site_base.specs.declared.totals.Totals.{Totals}
use Rattle.site_base.specs.Configured.{Configured}
use Rattle.written_site.specs.RowWords.{closes_shift, count, open_after}
use Rattle.written_site.specs.SiteRun.{IsLegal, site_of_rows}
use Rattle.written_site.specs.SiteState.{open_shift, opening}
use Rattle.written_site.proofs.SigningLaws.{shift_by_rows}
use Rattle.site_book.specs.Book.{Book, whole_book}
use Rattle.site_book.specs.Figures.{AreFiguresOf}
use Rattle.site_base.specs.declared.view.ProductView.{ProductView}
use Rattle.site_book.proofs.ProductCounts.{one_for_each_product}
use Rattle.past_rows.specs.declared.shifts.ShiftRange.{ShiftRange}
use Rattle.past_rows.specs.FiguresBetween.{products_between}
use Rattle.past_rows.specs.ShiftFigures.{AreOfRowsBefore, AreOfShifts, IsNextBook, IsTaken}
use Rattle.past_rows.specs.ShiftFigures.{shift_behind}
use Rattle.past_rows.specs.ShiftFigures.{until_from, until_shift}

-- the shift that is open behind rows, where shift h was before them
abbrev open_from : ℕ → List Row → ℕ
open_from h rows = h + count closes_shift rows

next_open : (r : Row) (rows : List Row) (h : ℕ)
    → open_from (shift_behind r h) rows ≡ open_from h (r ∷ rows)
next_open r rows h = by_test (closes_shift r)
  where
    by_test : (t : Bool) → (if t then h + 1 else h) + count closes_shift rows
        ≡ h + ((if t then 1 else 0) + count closes_shift rows)
    by_test true = omega arith
    by_test false = omega arith

opened : (r : Row) (h : ℕ) → h ≤ shift_behind r h
opened r h = by_test (closes_shift r)
  where
    by_test : (t : Bool) → h ≤ (if t then h + 1 else h)
    by_test true = omega arith
    by_test false = omega arith

-- before shift n is opened they are all rows, and so they are with the row that may open it
pub all_before : (n h : ℕ) (rows : List Row) → open_from h rows < n → until_from n h rows ≡ rows
all_before n h [] before = refl
all_before n h (r ∷ rows) before =
    let rest = all_before n (shift_behind r h) rows (rw (next_open r rows h) before) in
    let not_yet : nat_le n h ≡ false = grind (arith, before) in
    rw (not_yet, rest) refl

pub row_before : (n h : ℕ) (rows : List Row) (r : Row) → open_from h rows < n
    → until_from n h (rows ++ r ∷ []) ≡ rows ++ r ∷ []
row_before n h [] r before =
    let not_yet : nat_le n h ≡ false = grind (arith, before) in rw not_yet refl
row_before n h (x ∷ rows) r before =
    let rest = row_before n (shift_behind x h) rows r (rw (next_open x rows h) before) in
    let not_yet : nat_le n h ≡ false = grind (arith, before) in
    rw (not_yet, rest) refl

-- once it is opened they stay
pub rows_stay : (n h : ℕ) (rows more : List Row) → n ≤ open_from h rows
    → until_from n h (rows ++ more) ≡ until_from n h rows
rows_stay n h [] [] reached = refl
rows_stay n h [] (m ∷ more) reached =
    let now : nat_le n h ≡ true = grind (arith, reached) in rw now refl
rows_stay n h (r ∷ rows) more reached = by_test (nat_le n h)
    (rows_stay n (shift_behind r h) rows more (rw (next_open r rows h) reached))
  where
    by_test : (t : Bool)
        → until_from n (shift_behind r h) (rows ++ more) ≡ until_from n (shift_behind r h) rows
        → (if t then [] else r ∷ until_from n (shift_behind r h) (rows ++ more))
        ≡ (if t then [] else r ∷ until_from n (shift_behind r h) rows)
    by_test true rest = refl
    by_test false rest = ap (λ (xs : List Row). r ∷ xs) rest

-- ---- the totals before a shift

-- the figures of a book are those of its rows, whatever it has forgotten
whole_figures : (b : Book) (totals : Totals) → AreFiguresOf b totals
    → AreFiguresOf (whole_book b.config b.rows) totals
whole_figures b totals are = record {
  rows = are.rows;
  products = are.products;
  tills = are.tills;
}

figures_of : (b : Book) (rows : List Row) (totals : Totals) → rows ≡ b.rows → AreFiguresOf b totals
    → AreFiguresOf (whole_book b.config rows) totals
figures_of b rows totals is are =
    subst (λ (xs : List Row). AreFiguresOf (whole_book b.config xs) totals) (sym is)
    (whole_figures b totals are)

-- the open shift, as the book tells it
pub opens : (c : Configured) (rows : List Row) (n m : ℕ) → IsLegal (opening c) rows
    → n ≡ open_shift (site_of_rows (opening c) rows) → m ≡ n → m ≡ open_after rows
opens c rows n m legal is same = same ∙ is ∙ (shift_by_rows c rows legal).shift

-- the shift is opened by the book's last row
pub takes_now : (n : ℕ) (earlier b : Book) (taken : Option Totals) (totals : Totals)
    → taken ≡ None → IsTaken n earlier taken → IsNextBook earlier b → n ≤ open_after b.rows
    → AreFiguresOf b totals → (n ≤ open_after b.rows) × AreOfRowsBefore n b totals
takes_now n earlier b taken totals none so next reached are =
    let before : open_after earlier.rows < n = subst (IsTaken n earlier) none so in
    let all : until_shift n b.rows ≡ b.rows =
    ap (until_shift n) next.rows ∙ row_before n 1 earlier.rows next.row before ∙ sym next.rows in
    (reached, figures_of b (until_shift n b.rows) totals all are)

count_less : (a b : List Row) → count closes_shift a ≤ count closes_shift (a ++ b)
count_less [] b = omega arith
count_less (r ∷ a) b = let rest = count_less a b in omega (arith, rest)

-- it was opened before
pub stays_taken : (n : ℕ) (earlier b : Book) (taken : Option Totals) → taken ≢ None
    → IsTaken n earlier taken → IsNextBook earlier b → IsTaken n b taken
stays_taken n earlier b None some so next = absurd (some refl)
stays_taken n earlier b (Some totals) some so next =
    let less = count_less earlier.rows (next.row ∷ []) in
    let rows : until_shift n b.rows ≡ until_shift n earlier.rows =
    ap (until_shift n) next.rows ∙ rows_stay n 1 earlier.rows (next.row ∷ []) so.0 in (
      subst (λ (xs : List Row). n ≤ open_after xs) (sym next.rows) (omega (arith, less, so.0)),
      subst (λ (c : Configured). AreFiguresOf (whole_book c (until_shift n b.rows)) totals)
          (sym next.config)
          (subst (λ (xs : List Row). AreFiguresOf (whole_book earlier.config xs) totals) (sym rows)
          so.1),
    )

-- it isn't opened yet
pub still_before : (n : ℕ) (b : Book) (taken : Option Totals) → taken ≡ None
    → open_after b.rows < n → IsTaken n b taken
still_before n b taken none before = subst (IsTaken n b) (sym none) before

-- the totals at the end, where the last shift is open, or those that were taken
pub ends_taken : (n : ℕ) (b : Book) (totals : Totals) → IsTaken n b None → AreFiguresOf b totals
    → AreOfRowsBefore n b totals
ends_taken n b totals before are =
    figures_of b (until_shift n b.rows) totals (all_before n 1 b.rows before) are

pub none_taken : (o : Option Totals) (t : Bool) → is_some o ≡ not t → t ≡ true → o ≡ None
none_taken None t is right = refl
none_taken (Some x) t is right = absurd (cc (is ∙ ap not right))

pub is_taken : (o : Option Totals) (t : Bool) → is_some o ≡ not t → t ≡ false → o ≢ None
is_taken o t is wrong = λ none. absurd (cc (sym (ap is_some none) ∙ is ∙ ap not wrong))

pub on_ok_then : {T E : Type 0} (r : Result T E) (A B : Type 0) → (A → B) → OnOk r A → OnOk r B
on_ok_then (Ok x) A B next is = next is
on_ok_then (Err e) A B next is = is

-- ---- products

products_both : (n : ℕ) (before after : List ProductView) → length before ≡ n → length after ≡ n
    → length (products_between before after) ≡ n
products_both n [] after one two = one
products_both n (b ∷ before) [] one two = two
products_both n (b ∷ before) (a ∷ after) one two =
    let rest = products_both (length before) before after refl (omega (arith, one, two)) in
    omega (arith, rest, one)

-- the figures of shifts have one member for each product
pub products_of_shifts : (shifts : ShiftRange) (b : Book) (totals : Totals)
    → AreOfShifts shifts b totals → length totals.products ≡ length b.config.products
products_of_shifts shifts b totals are =
    let earlier = whole_book b.config (until_shift shifts.first b.rows) in
    let later = whole_book b.config (until_shift (shifts.last + 1) b.rows) in
    ap (λ (t : Totals). length t.products) are.between
    ∙ products_both (length b.config.products) are.before.products are.after.products
    (one_for_each_product earlier are.before are.begins)
    (one_for_each_product later are.after are.ends)

-- ---- row after row

pub next_book : (earlier b : Book) (row : Option Row) → is_some row ≡ true
    → b.config ≡ earlier.config → b.rows ≡ earlier.rows ++ cons_option row []
    → IsNextBook earlier b
next_book earlier b None some config rows = absurd (cc some)
next_book earlier b (Some r) some config rows = record { row = r; config = config; rows = rows }
