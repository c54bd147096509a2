-- The sales that a book tells are all sales of its site, each once.
use Rattle.std.proofs.Common.{◌≡◌, ℕ, ◌+◌, ◌<◌, ◌≤◌, ◌==◌, ◌&&◌, ◌⊎◌, Bool, true, false, List}
use Rattle.std.proofs.Common.{[], ◌∷◌, ◌++◌, Option, Some, None, refl, sym, subst, ap, ◌∙◌, arith}
use Rattle.std.proofs.Common.{if◌then◌else◌, inl, inr, zero, suc, nat_lt}
use Rattle.std.specs.Prelude.{filter, filter_map, option_and_then, option_map}
use Rattle.std.specs.List.{cons_option}
use Rattle.std.proofs.lemmas.Bool.{and_parts, eq-eqb, eqb-true, eqb-false}
use Rattle.std.proofs.lemmas.Bool.Decides.{nat_tests}
use Rattle.std.proofs.lemmas.List.{append_assoc}
use Rattle.site_base.specs.declared.row.Row.{Row}
use Rattle.site_base.specs.Configured.{Configured}
use Rattle.transaction_buffer.specs.Sales.{Key, Sale, key, made_at, same_key, sale_in}
use Rattle.transaction_buffer.specs.Sales.{sale_of, sales_at}
use Rattle.transaction_buffer.proofs.InShift.{none_above}
use Rattle.written_site.specs.Histories.{Moment, moments_of}
use Rattle.written_site.specs.NumberLaws.{is_key_of, sells_in}
use Rattle.written_site.specs.RowWords.{count}
use Rattle.written_site.specs.SaleWords.{sold_as}
use Rattle.written_site.specs.SiteRun.{site_of_rows, IsLegal}
use Rattle.written_site.specs.SiteState.{SiteState, opening}
use Rattle.written_site.proofs.NumberLaws.{made_so_far, numbered}
use Rattle.written_site.proofs.RowWords.{total_push}
use Rattle.site_book.specs.declared.named_sale.NamedSale.{NamedSale}
use Rattle.site_book.specs.BookSales.{AreAllSales, is_under, sale_made, sale_named, with_name}

-- ---- names

same_self : (k : Key) → same_key k k ≡ true
same_self k =
    rw (eq-eqb k.point k.point refl, eq-eqb k.shift k.shift refl, eq-eqb k.number k.number refl)
    refl

-- a sale of another point, shift or number has another name
apart : (k j : Key) (b : Bool) → same_key k j ≡ b
    → (is_key_of k.point k.shift (Some j) ≡ true → j.number ≡ k.number → ⊥)
    → same_key k j ≡ false
apart k j false is none = is
apart k j true is none =
    let parts = and_parts (k.point == j.point) (k.shift == j.shift && k.number == j.number) is in
    let names = and_parts (k.shift == j.shift) (k.number == j.number) parts.1 in
    let point : j.point ≡ k.point = sym (eqb-true k.point j.point parts.0) in
    let shift : j.shift ≡ k.shift = sym (eqb-true k.shift j.shift names.0) in
    let here : is_key_of k.point k.shift (Some j) ≡ true =
    rw (eq-eqb j.point k.point point, eq-eqb j.shift k.shift shift) refl in
    absurd (none here (sym (eqb-true k.number j.number names.1)))

-- a sale of this point, shift and number has this name
alike : (k j : Key) → is_key_of k.point k.shift (Some j) ≡ true → j.number ≡ k.number → j ≡ k
alike k j here number =
    let parts = and_parts (j.point == k.point) (j.shift == k.shift) here in
    ap (λ (p : ℕ). key j.shift p j.number) (eqb-true j.point k.point parts.0)
    ∙ ap (λ (h : ℕ). key h k.point j.number) (eqb-true j.shift k.shift parts.1)
    ∙ ap (λ (n : ℕ). key k.shift k.point n) number

-- ---- numbers

-- the sales of a point in a shift that these moments make have the numbers behind a, in order
abbrev Numbered : ℕ → ℕ → ℕ → List Moment → Type 0
Numbered p h a [] = Unit {0}
Numbered p h a (m ∷ ms) =
    ((j : Key) → sold_as m ≡ Some j → is_key_of p h (Some j) ≡ true → j.number ≡ a + 1)
    × Numbered p h (a + (if sells_in p h m then 1 else 0)) ms

-- a sale has the number behind those of its point and shift before it
abbrev IsNext : List Moment → Type 0
IsNext all = (k : Key) (before since : List Moment) (m : Moment) → all ≡ before ++ m ∷ since
    → sold_as m ≡ Some k → k.number ≡ count (sells_in k.point k.shift) before + 1

numbered_from : (p h : ℕ) (all before ms : List Moment) → all ≡ before ++ ms → IsNext all
    → Numbered p h (count (sells_in p h) before) ms
numbered_from p h all before [] is next = tt
numbered_from p h all before (m ∷ ms) is next = (
  λ j sold here.
      let parts = and_parts (j.point == p) (j.shift == h) here in
      next j before ms m is sold
      ∙ ap (λ (q : ℕ). count (sells_in q j.shift) before + 1) (eqb-true j.point p parts.0)
      ∙ ap (λ (g : ℕ). count (sells_in p g) before + 1) (eqb-true j.shift h parts.1),
  subst (λ (a : ℕ). Numbered p h a ms)
      (total_push (λ x. if sells_in p h x then 1 else 0) before m)
      (numbered_from p h all (before ++ m ∷ []) ms
      (is ∙ sym (append_assoc before (m ∷ []) ms)) next),
)

-- ---- what is told under a name

-- a moment that makes no sale of this name tells none under it
passed_over : (s : SiteState) (k : Key) (sold : Option Key) (xs : List NamedSale)
    → ((j : Key) → sold ≡ Some j → same_key k j ≡ false)
    → filter (is_under k) (cons_option (option_and_then (sale_named s) sold) xs)
    ≡ filter (is_under k) xs
passed_over s k None xs none = refl
passed_over s k (Some j) xs none = by (sale_of j s.sales)
  where
    by : (x : Option Sale)
        → filter (is_under k) (cons_option (option_map (with_name j) x) xs)
        ≡ filter (is_under k) xs
    by None = refl
    by (Some x) = rw (none j refl) refl

-- one that makes it tells it as it stands
told_once : (s : SiteState) (k : Key) (xs : List NamedSale)
    → filter (is_under k) (cons_option (sale_named s k) xs)
    ≡ cons_option (sale_named s k) (filter (is_under k) xs)
told_once s k xs = by (sale_of k s.sales)
  where
    by : (x : Option Sale)
        → filter (is_under k) (cons_option (option_map (with_name k) x) xs)
        ≡ cons_option (option_map (with_name k) x) (filter (is_under k) xs)
    by None = refl
    by (Some x) = rw (same_self k) refl

-- the number isn't one of these
abbrev IsOutside : ℕ → ℕ → ℕ → Type 0
IsOutside a made n = (n ≤ a) ⊎ (a + made < n)

outside_more : (a d made n : ℕ) → IsOutside a (d + made) n → IsOutside (a + d) made n
outside_more a d made n (inl low) = inl (omega (arith, low))
outside_more a d made n (inr high) = inr (omega (arith, high))

not_outside : (a made : ℕ) → IsOutside a (1 + made) (a + 1) → ⊥
not_outside a made (inl low) = absurd (omega (arith, low))
not_outside a made (inr high) = absurd (omega (arith, high))

none_told : (s : SiteState) (k : Key) (a : ℕ) (ms : List Moment)
    → Numbered k.point k.shift a ms
    → IsOutside a (count (sells_in k.point k.shift) ms) k.number
    → filter (is_under k) (filter_map (sale_made s) ms) ≡ []
none_told s k a [] numbers out = refl
none_told s k a (m ∷ ms) numbers out =
    passed_over s k (sold_as m) (filter_map (sale_made s) ms) other
    ∙ none_told s k (a + one) ms numbers.1
    (outside_more a one (count (sells_in k.point k.shift) ms) k.number out)
  where
    one : ℕ
    one = if sells_in k.point k.shift m then 1 else 0

    other : (j : Key) → sold_as m ≡ Some j → same_key k j ≡ false
    other j sold = apart k j (same_key k j) refl (λ here same.
        let sells : sells_in k.point k.shift m ≡ true =
        ap (is_key_of k.point k.shift) sold ∙ here in
        let made : one ≡ 1 = rw sells refl in
        let number : k.number ≡ a + 1 = sym same ∙ numbers.0 j sold here in
        not_outside a (count (sells_in k.point k.shift) ms)
        (subst (λ (n : ℕ). IsOutside a (1 + count (sells_in k.point k.shift) ms) n) number
        (subst (λ (d : ℕ). IsOutside a (d + count (sells_in k.point k.shift) ms) k.number) made
        out)))

one_told : (s : SiteState) (k : Key) (a : ℕ) (ms : List Moment)
    → Numbered k.point k.shift a ms → a < k.number
    → k.number ≤ a + count (sells_in k.point k.shift) ms
    → filter (is_under k) (filter_map (sale_made s) ms) ≡ cons_option (sale_named s k) []
one_told s k a [] numbers low high = absurd (omega (arith, low, high))
one_told s k a (m ∷ ms) numbers low high =
    by (λ below. one_told s k (a + (if sells_in k.point k.shift m then 1 else 0)) ms numbers.1
    below (omega (arith, high)))
    (sold_as m) refl (sells_in k.point k.shift m) refl (k.number == a + 1) refl
  where
    Rest : Type 0
    Rest = a + (if sells_in k.point k.shift m then 1 else 0) < k.number
        → filter (is_under k) (filter_map (sale_made s) ms) ≡ cons_option (sale_named s k) []

    later : Rest → (sells : Bool) → sells_in k.point k.shift m ≡ sells
        → a + (if sells then 1 else 0) < k.number
        → ((j : Key) → sold_as m ≡ Some j → same_key k j ≡ false)
        → filter (is_under k) (filter_map (sale_made s) (m ∷ ms))
        ≡ cons_option (sale_named s k) []
    later rest sells is below other =
        let one : ◌≡◌ {A = ℕ} (if sells_in k.point k.shift m then 1 else 0)
        (if sells then 1 else 0) = ap (λ (b : Bool). if b then 1 else 0) is in
        passed_over s k (sold_as m) (filter_map (sale_made s) ms) other
        ∙ rest (omega (arith, one, below))

    by : Rest → (o : Option Key) → sold_as m ≡ o → (sells : Bool)
        → sells_in k.point k.shift m ≡ sells → (first : Bool) → (k.number == a + 1) ≡ first
        → filter (is_under k) (filter_map (sale_made s) (m ∷ ms))
        ≡ cons_option (sale_named s k) []
    by rest (Some j) sold true sells true first =
        let here : is_key_of k.point k.shift (Some j) ≡ true =
        ap (is_key_of k.point k.shift) (sym sold) ∙ sells in
        let number : k.number ≡ a + 1 = eqb-true k.number (a + 1) first in
        let name : j ≡ k = alike k j here (numbers.0 j sold here ∙ sym number) in
        let one : ◌≡◌ {A = ℕ} (if sells_in k.point k.shift m then 1 else 0) 1 =
        ap (λ (b : Bool). if b then 1 else 0) sells in
        ap (λ (o : Option Key). filter (is_under k)
        (cons_option (option_and_then (sale_named s) o) (filter_map (sale_made s) ms)))
        (sold ∙ ap Some name)
        ∙ told_once s k (filter_map (sale_made s) ms)
        ∙ ap (cons_option (sale_named s k))
        (none_told s k (a + (if sells_in k.point k.shift m then 1 else 0)) ms numbers.1
        (inl (omega (arith, one, number))))
    by rest o sold true sells false first =
        later rest true sells
        (let not_it = eqb-false k.number (a + 1) first in omega (arith, low, not_it))
        (λ j is. apart k j (same_key k j) refl (λ here same.
        eqb-false k.number (a + 1) first (sym same ∙ numbers.0 j is here)))
    by rest o sold false sells b first =
        later rest false sells (omega (arith, low))
        (λ j is. apart k j (same_key k j) refl (λ here same.
        let clash : false ≡ true =
        sym sells ∙ ap (is_key_of k.point k.shift) is ∙ here in cc))
    by rest None sold true sells true first =
        let clash : false ≡ true = ap (is_key_of k.point k.shift) (sym sold) ∙ sells in cc

-- ---- all of them

-- no sale has the number 0
none_before : (h : ℕ) (xs : List Sale) → sale_in h 0 xs ≡ None
none_before h [] = refl
none_before h (x ∷ xs) = by (x.shift == h) refl (none_before h xs)
  where
    by : (b : Bool) → (x.shift == h) ≡ b → sale_in h 0 xs ≡ None → sale_in h 0 (x ∷ xs) ≡ None
    by true is rest = rw is rest
    by false is rest = rw is rest

pub all_sales : (c : Configured) (rows : List Row) → IsLegal (opening c) rows
    → AreAllSales (filter_map (sale_made (site_of_rows (opening c) rows)) (moments_of c rows))
    (site_of_rows (opening c) rows)
all_sales c rows legal k = by k.number refl
  where
    s : SiteState
    s = site_of_rows (opening c) rows

    ms : List Moment
    ms = moments_of c rows

    made : made_at k.point k.shift s.sales ≡ count (sells_in k.point k.shift) ms
    made = made_so_far c rows legal k.point k.shift

    numbers : Numbered k.point k.shift 0 ms
    numbers = numbered_from k.point k.shift ms [] ms refl (numbered c rows legal).next

    absent : sale_of k s.sales ≡ None
        → IsOutside 0 (count (sells_in k.point k.shift) ms) k.number
        → filter (is_under k) (filter_map (sale_made s) ms) ≡ cons_option (sale_named s k) []
    absent none out =
        none_told s k 0 ms numbers out
        ∙ sym (ap (λ (o : Option Sale). cons_option (option_map (with_name k) o) []) none)

    by : (n : ℕ) → k.number ≡ n
        → filter (is_under k) (filter_map (sale_made s) ms) ≡ cons_option (sale_named s k) []
    by zero is =
        absent (ap (λ (n : ℕ). sale_in k.shift n (sales_at k.point s.sales)) is
        ∙ none_before k.shift (sales_at k.point s.sales)) (inl (omega (arith, is)))
    by (suc n) is = within (nat_lt (made_at k.point k.shift s.sales) k.number) refl
      where
        within : (b : Bool) → nat_lt (made_at k.point k.shift s.sales) k.number ≡ b
            → filter (is_under k) (filter_map (sale_made s) ms) ≡ cons_option (sale_named s k) []
        within true high =
            let above : made_at k.point k.shift s.sales < k.number = grind (arith, nat_tests) in
            absent (none_above k.shift k.number (sales_at k.point s.sales) above)
            (inr (omega (arith, above, made)))
        within false high =
            let most : k.number ≤ made_at k.point k.shift s.sales = grind (arith, nat_tests) in
            one_told s k 0 ms numbers (omega (arith, is)) (omega (arith, most, made))
