-- The figures of what tills cleared, over sales alone: how a clear moves them, and what leaves
-- them.
use Rattle.std.proofs.Common.{◌≡◌, ℕ, ◌+◌, ◌==◌, ◌&&◌, Bool, true, false, cond, Option, Some, None}
use Rattle.std.proofs.Common.{Result, Ok, Err, refl, sym, ap, ◌∙◌, arith}
use Rattle.site_base.specs.declared.refusal.Refusal.{Refusal}
use Rattle.transaction_buffer.specs.declared.request.Request.{Request}
use Rattle.transaction_buffer.specs.declared.request.Request.TheVariants as requests
use Rattle.transaction_buffer.specs.declared.standing.Standing.{Standing}
use Rattle.transaction_buffer.specs.declared.standing.Standing.TheVariants.{Payable, LockedBy}
use Rattle.transaction_buffer.specs.declared.standing.Standing.TheVariants.{ClearedBy}
use Rattle.transaction_buffer.specs.Sales.{Key, Sale, Sales, is_unpaid, no_sales, sale_of, with_new}
use Rattle.transaction_buffer.specs.Sums.{product_cents, sum_of, volume_in}
use Rattle.transaction_buffer.specs.TransactionTable.{Line, locked_by_it, locked_by_other, line}
use Rattle.transaction_buffer.specs.TransactionTable.{line_for, line_of, seen_by, sale_after}
use Rattle.transaction_buffer.specs.TransactionTable.{sale_after_request, refusal_in, after_line}
use Rattle.transaction_buffer.specs.TransactionTable.{after_at, after_request, after_sign_off}
use Rattle.transaction_buffer.specs.TransactionTable.{is_locked_by, unlock_all_of, refusal_of}
use Rattle.transaction_buffer.proofs.OnShelves.{nothing_sold}
use Rattle.transaction_buffer.proofs.Rules.{cleared_by_its_locker}
use Rattle.transaction_buffer.proofs.Summing.{alike_sum, changed_sum, sold_sum}
use Rattle.written_site.specs.FigureSteps.{HasClear, HasSameClears}
use Rattle.written_site.specs.ShiftFigures.{is_cleared_by, is_cleared_in, clears_in, cents_in}
use Rattle.written_site.specs.ShiftFigures.{cleared_in, product_cents_in, clears_by, cents_by}
use Rattle.written_site.proofs.AskedSums.{asked_sum, asked_leaves}
use Rattle.written_site.proofs.SoundTables.{itself, told_once, turned}

-- ---- figures of cleared sales

-- a figure of the sales that stand so
abbrev pub figure_where : (Standing → Bool) → (Sale → ℕ) → Sale → ℕ
figure_where test value x = cond (test x.standing) (value x) 0

-- only sales that are cleared pass the test, and the value doesn't depend on how a sale stands
pub record IsOfCleared (test : Standing → Bool) (value : Sale → ℕ) : Type 0 where
  pub free : test Payable ≡ false
  pub locked : (t : ℕ) → test (LockedBy t) ≡ false
  pub fixed : (x : Sale) (y : Standing) → value (record x { standing = y }) ≡ value x

-- a sale that isn't cleared has no figure
none_unless : (test : Standing → Bool) (value : Sale → ℕ) (x : Sale) (y : Standing)
    → x.standing ≡ y → test y ≡ false → figure_where test value x ≡ 0
none_unless test value x y at fails =
    ap (λ (z : Standing). cond (test z) (value x) 0) at
    ∙ ap (λ (b : Bool). cond b (value x) 0) fails

-- ---- a clear

-- a sale that the till has locked is cleared by it in this shift
cleared_sale : (t h : ℕ) (x : Sale) → x.standing ≡ LockedBy t
    → sale_after_request (requests.Clear h) t x ≡ record x { standing = ClearedBy t h }
cleared_sale t h x locked =
    ap (λ (y : Standing). sale_after (line (requests.Clear h) t x.cents (seen_by t y)) x) locked
    ∙ ap (λ (b : Bool). sale_after (line (requests.Clear h) t x.cents
    (cond b locked_by_it (locked_by_other t))) x) (itself t)

counts_once : (test : Standing → Bool) (value : Sale → ℕ) (t h : ℕ) (k : Key) (x : Sale)
    (sales : Sales) → IsOfCleared test value → sale_of k sales ≡ Some x → x.standing ≡ LockedBy t
    → sum_of (figure_where test value) (after_request (requests.Clear h) t k sales)
    ≡ sum_of (figure_where test value) sales + cond (test (ClearedBy t h)) (value x) 0
counts_once test value t h k x sales of_cleared there locked =
    let moved = asked_sum (figure_where test value) (requests.Clear h) t k x sales there in
    let before = none_unless test value x (LockedBy t) locked (of_cleared.locked t) in
    let after : figure_where test value (sale_after_request (requests.Clear h) t x)
    ≡ cond (test (ClearedBy t h)) (value x) 0 =
    ap (figure_where test value) (cleared_sale t h x locked)
    ∙ ap (λ (v : ℕ). cond (test (ClearedBy t h)) v 0) (of_cleared.fixed x (ClearedBy t h)) in
    omega (arith, moved, before, after)

-- ---- every other event

-- what a lock or an unlock leaves of a figure
asked_alike : (test : Standing → Bool) (value : Sale → ℕ) (request : Request) (t cents : ℕ)
    (x : Sale) (y : Standing) → IsOfCleared test value → ((h : ℕ) → request ≡ requests.Clear h → ⊥)
    → x.standing ≡ y
    → figure_where test value (sale_after (line request t cents (seen_by t y)) x)
    ≡ figure_where test value x
asked_alike test value requests.Lock t cents x Payable of_cleared other is =
    ap (λ (b : Bool). cond b (value (record x { standing = LockedBy t })) 0) (of_cleared.locked t)
    ∙ sym (none_unless test value x Payable is of_cleared.free)
asked_alike test value requests.Unlock t cents x Payable of_cleared other is = refl
asked_alike test value requests.Lock t cents x (LockedBy u) of_cleared other is = by_test (u == t)
  where
    by_test : (b : Bool)
        → figure_where test value (sale_after (line requests.Lock t cents
        (cond b locked_by_it (locked_by_other u))) x) ≡ figure_where test value x
    by_test true =
        ap (λ (b : Bool). cond b (value (record x { standing = LockedBy t })) 0)
        (of_cleared.locked t)
        ∙ sym (none_unless test value x (LockedBy u) is (of_cleared.locked u))
    by_test false = refl
asked_alike test value requests.Unlock t cents x (LockedBy u) of_cleared other is = by_test (u == t)
  where
    by_test : (b : Bool)
        → figure_where test value (sale_after (line requests.Unlock t cents
        (cond b locked_by_it (locked_by_other u))) x) ≡ figure_where test value x
    by_test true =
        ap (λ (b : Bool). cond b (value (record x { standing = Payable })) 0) of_cleared.free
        ∙ sym (none_unless test value x (LockedBy u) is (of_cleared.locked u))
    by_test false = refl
asked_alike test value requests.Lock t cents x (ClearedBy u h) of_cleared other is = refl
asked_alike test value requests.Unlock t cents x (ClearedBy u h) of_cleared other is = refl
asked_alike test value (requests.Clear h) t cents x y of_cleared other is = absurd (other h refl)

asked_stays : (test : Standing → Bool) (value : Sale → ℕ) (request : Request) (t : ℕ) (k : Key)
    (sales : Sales) → IsOfCleared test value → ((h : ℕ) → request ≡ requests.Clear h → ⊥)
    → sum_of (figure_where test value) (after_request request t k sales)
    ≡ sum_of (figure_where test value) sales
asked_stays test value request t k sales of_cleared other =
    asked_leaves (figure_where test value) request t k sales (λ x.
    asked_alike test value request t x.cents x x.standing of_cleared other refl)

let_go_alike : (test : Standing → Bool) (value : Sale → ℕ) (t : ℕ) → IsOfCleared test value
    → (x : Sale) → figure_where test value (unlock_all_of t x) ≡ figure_where test value x
let_go_alike test value t of_cleared x = by_standing x.standing refl
  where
    by_standing : (y : Standing) → x.standing ≡ y
        → figure_where test value (cond (is_locked_by t y) (record x { standing = Payable }) x)
        ≡ figure_where test value x
    by_standing Payable is = refl
    by_standing (LockedBy u) is = by_test (u == t)
      where
        by_test : (b : Bool)
            → figure_where test value (cond b (record x { standing = Payable }) x)
            ≡ figure_where test value x
        by_test true =
            ap (λ (b : Bool). cond b (value (record x { standing = Payable })) 0) of_cleared.free
            ∙ sym (none_unless test value x (LockedBy u) is (of_cleared.locked u))
        by_test false = refl
    by_standing (ClearedBy u h) is = refl

-- a new sale isn't cleared
pub unpaid_fails : (test : Standing → Bool) (value : Sale → ℕ) (y : Standing)
    → IsOfCleared test value → is_unpaid y ≡ true → test y ≡ false
unpaid_fails test value Payable of_cleared unpaid = of_cleared.free
unpaid_fails test value (LockedBy t) of_cleared unpaid = of_cleared.locked t
unpaid_fails test value (ClearedBy t h) of_cleared unpaid = cc

sold_stays : (test : Standing → Bool) (value : Sale → ℕ) (p : ℕ) (x : Sale) (sales : Sales)
    → IsOfCleared test value → is_unpaid x.standing ≡ true
    → sum_of (figure_where test value) (with_new p x sales) ≡ sum_of (figure_where test value) sales
sold_stays test value p x sales of_cleared unpaid =
    let none = none_unless test value x x.standing refl
    (unpaid_fails test value x.standing of_cleared unpaid) in
    omega (arith, sold_sum (figure_where test value) p x sales, none)

let_go_stays : (test : Standing → Bool) (value : Sale → ℕ) (t : ℕ) (sales : Sales)
    → IsOfCleared test value
    → sum_of (figure_where test value) (after_sign_off t sales)
    ≡ sum_of (figure_where test value) sales
let_go_stays test value t sales of_cleared =
    changed_sum (figure_where test value) (unlock_all_of t) sales
    ∙ alike_sum (λ x. figure_where test value (unlock_all_of t x)) (figure_where test value)
    (let_go_alike test value t of_cleared) sales

-- ---- the six figures

abbrev by_till_in : ℕ → ℕ → Standing → Bool
by_till_in h t y = is_cleared_in h y && is_cleared_by t y

abbrev one : Sale → ℕ
one x = 1

abbrev cents_of : Sale → ℕ
cents_of x = x.cents

-- figures of the sales that stand so stay, whatever cleared sales they are of
abbrev Stays : Sales → Sales → Type 0
Stays old new = (test : Standing → Bool) (value : Sale → ℕ) → IsOfCleared test value
    → sum_of (figure_where test value) new ≡ sum_of (figure_where test value) old

pub same_clears : (old new : Sales) → Stays old new → HasSameClears old new
same_clears old new stays = record {
  clears = λ g u. stays (by_till_in g u) one
      (record { free = refl; locked = λ t. refl; fixed = λ x y. refl });
  cents = λ g u. stays (by_till_in g u) cents_of
      (record { free = refl; locked = λ t. refl; fixed = λ x y. refl });
  cleared = λ g q. stays (is_cleared_in g) (volume_in q)
      (record { free = refl; locked = λ t. refl; fixed = λ x y. refl });
  product_cents = λ g q. stays (is_cleared_in g) (product_cents q)
      (record { free = refl; locked = λ t. refl; fixed = λ x y. refl });
  all_clears = λ u. stays (is_cleared_by u) one
      (record { free = refl; locked = λ t. refl; fixed = λ x y. refl });
  all_cents = λ u. stays (is_cleared_by u) cents_of
      (record { free = refl; locked = λ t. refl; fixed = λ x y. refl });
}

-- a lock or an unlock, accepted or not
pub lock_keeps : (t : ℕ) (k : Key) (sales : Sales)
    → HasSameClears sales (after_request requests.Lock t k sales)
lock_keeps t k sales = same_clears sales (after_request requests.Lock t k sales) (λ test value is.
    asked_stays test value requests.Lock t k sales is (λ h clear. cc))

pub unlock_keeps : (t : ℕ) (k : Key) (sales : Sales)
    → HasSameClears sales (after_request requests.Unlock t k sales)
unlock_keeps t k sales =
    same_clears sales (after_request requests.Unlock t k sales) (λ test value is.
    asked_stays test value requests.Unlock t k sales is (λ h clear. cc))

-- a sign-off
pub sign_off_keeps : (t : ℕ) (sales : Sales) → HasSameClears sales (after_sign_off t sales)
sign_off_keeps t sales = same_clears sales (after_sign_off t sales) (λ test value is.
    let_go_stays test value t sales is)

-- a new sale
pub sale_keeps : (p : ℕ) (x : Sale) (sales : Sales) → is_unpaid x.standing ≡ true
    → HasSameClears sales (with_new p x sales)
sale_keeps p x sales unpaid = same_clears sales (with_new p x sales) (λ test value is.
    sold_stays test value p x sales is unpaid)

pub nothing_keeps : (sales : Sales) → HasSameClears sales sales
nothing_keeps sales = same_clears sales sales (λ test value is. refl)

-- a request that is refused leaves the sales
pub refused_leaves : (request : Request) (t : ℕ) (k : Key) (sales : Sales) (refusal : Refusal)
    → refusal_of request t k sales ≡ Some refusal → after_request request t k sales ≡ sales
refused_leaves request t k sales refusal refused = by_sale (sale_of k sales) refused
  where
    by_line : (x : Sale) (l : Result Line Refusal) → refusal_in l ≡ Some refusal
        → after_line k x l sales ≡ sales
    by_line x (Ok l) refused = cc
    by_line x (Err other) refused = refl

    by_sale : (o : Option Sale) → refusal_in (line_of request t o) ≡ Some refusal
        → after_at request t k o sales ≡ sales
    by_sale None refused = refl
    by_sale (Some x) refused = by_line x (line_for request t x) refused

-- where nothing is sold, nothing is cleared
pub nothing_cleared : (test : Standing → Bool) (value : Sale → ℕ)
    → sum_of (figure_where test value) no_sales ≡ 0
nothing_cleared test value = nothing_sold (figure_where test value)

pub none_in : (h t : ℕ) → (clears_in h t no_sales ≡ 0) × (cents_in h t no_sales ≡ 0)
none_in h t = (nothing_cleared (by_till_in h t) one, nothing_cleared (by_till_in h t) cents_of)

pub none_cleared_in : (h q : ℕ) → cleared_in h q no_sales ≡ 0
none_cleared_in h q = nothing_cleared (is_cleared_in h) (volume_in q)

pub no_product_cents_in : (h q : ℕ) → product_cents_in h q no_sales ≡ 0
no_product_cents_in h q = nothing_cleared (is_cleared_in h) (product_cents q)

pub none_by : (t : ℕ) → (clears_by t no_sales ≡ 0) × (cents_by t no_sales ≡ 0)
none_by t = (nothing_cleared (is_cleared_by t) one, nothing_cleared (is_cleared_by t) cents_of)

-- ---- an accepted clear

both_tests : (a b : Bool) (n : ℕ) → cond a (cond b n 0) 0 ≡ cond (a && b) n 0
both_tests true b n = refl
both_tests false b n = refl

either_way : (a b c d n : ℕ) → cond (a == b && c == d) n 0 ≡ cond (b == a && d == c) n 0
either_way a b c d n =
    ap (λ (x : Bool). cond (x && c == d) n 0) (turned a b)
    ∙ ap (λ (x : Bool). cond (b == a && x) n 0) (turned c d)

counts_locked : (t h : ℕ) (k : Key) (x : Sale) (sales : Sales)
    → sale_of k sales ≡ Some x → x.standing ≡ LockedBy t
    → HasClear sales (after_request (requests.Clear h) t k sales) t h x
counts_locked t h k x sales there locked = record {
  clears = λ g u. counts_once (by_till_in g u) one t h k x sales
      (record { free = refl; locked = λ v. refl; fixed = λ y z. refl }) there locked
      ∙ ap (λ (n : ℕ). clears_in g u sales + n) (either_way h g t u 1);
  cents = λ g u. counts_once (by_till_in g u) cents_of t h k x sales
      (record { free = refl; locked = λ v. refl; fixed = λ y z. refl }) there locked
      ∙ ap (λ (n : ℕ). cents_in g u sales + n) (either_way h g t u x.cents);
  cleared = λ g q. counts_once (is_cleared_in g) (volume_in q) t h k x sales
      (record { free = refl; locked = λ v. refl; fixed = λ y z. refl }) there locked
      ∙ ap (λ (n : ℕ). cleared_in g q sales + n)
      (both_tests (h == g) (x.product == q) x.volume ∙ either_way h g x.product q x.volume);
  product_cents = λ g q. counts_once (is_cleared_in g) (product_cents q) t h k x sales
      (record { free = refl; locked = λ v. refl; fixed = λ y z. refl }) there locked
      ∙ ap (λ (n : ℕ). product_cents_in g q sales + n)
      (both_tests (h == g) (x.product == q) x.cents ∙ either_way h g x.product q x.cents);
  all_clears = λ u. counts_once (is_cleared_by u) one t h k x sales
      (record { free = refl; locked = λ v. refl; fixed = λ y z. refl }) there locked
      ∙ ap (λ (b : Bool). clears_by u sales + cond b 1 0) (turned t u);
  all_cents = λ u. counts_once (is_cleared_by u) cents_of t h k x sales
      (record { free = refl; locked = λ v. refl; fixed = λ y z. refl }) there locked
      ∙ ap (λ (b : Bool). cents_by u sales + cond b x.cents 0) (turned t u);
}

pub clear_counts : (t h : ℕ) (k : Key) (x : Sale) (sales : Sales) → sale_of k sales ≡ Some x
    → refusal_of (requests.Clear h) t k sales ≡ None
    → HasClear sales (after_request (requests.Clear h) t k sales) t h x
clear_counts t h k x sales there accepted =
    let clear = cleared_by_its_locker t h k sales accepted in
    let own : clear.0 ≡ x = told_once clear.0 x (sym clear.1.there ∙ there) in
    counts_locked t h k x sales there (ap (λ (y : Sale). y.standing) (sym own) ∙ clear.1.locked)
