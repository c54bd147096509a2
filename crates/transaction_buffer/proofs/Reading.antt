-- What stands under a name after each change.
use Rattle.std.proofs.Common.{◌≡◌, ◌≢◌, ℕ, ◌+◌, ◌==◌, ◌&&◌, Bool, true, false, cond, List, [], ◌∷◌}
use Rattle.std.proofs.Common.{◌++◌, map, Option, option_map, Some, None, unwrap_or, Result, Ok, Err}
use Rattle.std.proofs.Common.{refl, sym, ap, ◌∙◌, arith}
use Rattle.std.proofs.lemmas.Bool.{and_parts}
use Rattle.std.proofs.lemmas.Bool.Decides.{nat_tests}
use Rattle.std.specs.FinMap as finite
use Rattle.site_base.specs.declared.refusal.Refusal.{Refusal}
use Rattle.transaction_buffer.specs.declared.request.Request.{Request}
use Rattle.transaction_buffer.specs.declared.standing.Standing.TheVariants.{Payable}
use Rattle.transaction_buffer.specs.Sales.{Key, next_key, Sale, sale_in, made_in, with_in, Sales}
use Rattle.transaction_buffer.specs.Sales.{sales_at, sale_of, same_key, with_sale, with_new}
use Rattle.transaction_buffer.specs.Sales.{each_changed}
use Rattle.transaction_buffer.specs.TransactionTable.{Line, line_for, sale_after}
use Rattle.transaction_buffer.specs.TransactionTable.{sale_after_request, after_line, after_at}
use Rattle.transaction_buffer.specs.TransactionTable.{after_request, is_locked_by, unlock_all_of}
use Rattle.transaction_buffer.specs.Laws.{IsReadAfter}
use Rattle.transaction_buffer.proofs.InShift.{of_shift, with_same, with_other, pushed, mapped}
use Rattle.transaction_buffer.proofs.Maps.{at_insert, get_each}

same : (n m : ℕ) → (n == m) ≡ true → n ≡ m
same n m is = grind (arith, nat_tests)

other : (n m : ℕ) → (n == m) ≡ false → n ≢ m
other n m is = grind (arith, nat_tests)

-- the sales of a point, after they were replaced
pub sales_at_insert : (s : Sales) (p : ℕ) (xs : List Sale) (q : ℕ)
    → sales_at q (finite.insert s p xs) ≡ cond (q == p) xs (sales_at q s)
sales_at_insert s p xs q = at_insert s p xs q

-- two names of one sale
pub one_sale : (k j : Key) (s : Sales) → same_key k j ≡ true → sale_of k s ≡ sale_of j s
one_sale k j s is =
    let parts = and_parts (k.point == j.point) (k.shift == j.shift && k.number == j.number) is in
    let names = and_parts (k.shift == j.shift) (k.number == j.number) parts.1 in
    ap (λ (p : ℕ). sale_in k.shift k.number (sales_at p s)) (same k.point j.point parts.0)
    ∙ ap (λ (h : ℕ). sale_in h k.number (sales_at j.point s)) (same k.shift j.shift names.0)
    ∙ ap (λ (n : ℕ). sale_in j.shift n (sales_at j.point s)) (same k.number j.number names.1)

-- the sale of a name, after the sales of a point were replaced
read_insert : (k : Key) (p : ℕ) (xs : List Sale) (s : Sales)
    → sale_of k (finite.insert s p xs)
    ≡ cond (k.point == p) (sale_in k.shift k.number xs) (sale_of k s)
read_insert k p xs s = ap (sale_in k.shift k.number) (sales_at_insert s p xs k.point)
    ∙ by_test (k.point == p)
  where
    by_test : (b : Bool)
        → sale_in k.shift k.number (cond b xs (sales_at k.point s))
        ≡ cond b (sale_in k.shift k.number xs) (sale_of k s)
    by_test true = refl
    by_test false = refl

-- the sale of a name, after one of the same shift was put in the place of another
pub read_with : (j k : Key) (x y : Sale) (s : Sales) → sale_of j s ≡ Some x → y.shift ≡ x.shift
    → sale_of k (with_sale j y s) ≡ cond (same_key k j) (Some y) (sale_of k s)
read_with j k x y s is alike =
    read_insert k j.point (with_in j.shift j.number y (sales_at j.point s)) s
    ∙ by_point (k.point == j.point) refl
  where
    its : y.shift ≡ j.shift
    its = alike ∙ of_shift j.shift j.number (sales_at j.point s) x is

    by_name : (a : Bool) → (k.shift == j.shift) ≡ a → (b : Bool) → (k.number == j.number) ≡ b
        → k.point ≡ j.point
        → sale_in k.shift k.number (with_in j.shift j.number y (sales_at j.point s))
        ≡ cond (a && b) (Some y) (sale_of k s)
    by_name true at true one here =
        ap (λ (h : ℕ). sale_in h k.number (with_in j.shift j.number y (sales_at j.point s)))
        (same k.shift j.shift at)
        ∙ ap (λ (n : ℕ). sale_in j.shift n (with_in j.shift j.number y (sales_at j.point s)))
        (same k.number j.number one)
        ∙ with_same j.shift j.number (sales_at j.point s) x y is its
    by_name true at false differ here =
        with_other j.shift j.number k.shift k.number (sales_at j.point s) y
        (λ e. other k.number j.number differ) its
        ∙ ap (λ (p : ℕ). sale_in k.shift k.number (sales_at p s)) (sym here)
    by_name false at b one here =
        with_other j.shift j.number k.shift k.number (sales_at j.point s) y
        (λ e m. other k.shift j.shift at e) its
        ∙ ap (λ (p : ℕ). sale_in k.shift k.number (sales_at p s)) (sym here)

    by_point : (b : Bool) → (k.point == j.point) ≡ b
        → cond b (sale_in k.shift k.number (with_in j.shift j.number y (sales_at j.point s)))
        (sale_of k s)
        ≡ cond (b && (k.shift == j.shift && k.number == j.number)) (Some y) (sale_of k s)
    by_point true at = by_name (k.shift == j.shift) refl (k.number == j.number) refl
        (same k.point j.point at)
    by_point false at = refl

-- the sale of a name, after a point has made one more
pub read_new : (p : ℕ) (x : Sale) (k : Key) (s : Sales)
    → sale_of k (with_new p x s)
    ≡ cond (same_key k (next_key p x.shift s)) (Some x) (sale_of k s)
read_new p x k s = read_insert k p (sales_at p s ++ x ∷ []) s ∙ by_point (k.point == p) refl
  where
    turned : (h : ℕ) → (x.shift == h) ≡ (h == x.shift)
    turned h = grind (arith, nat_tests)

    by_shift : (a : Bool) → (k.shift == x.shift) ≡ a → k.point ≡ p
        → cond (a && k.number == made_in k.shift (sales_at p s) + 1) (Some x)
        (sale_in k.shift k.number (sales_at p s))
        ≡ cond (a && k.number == made_in x.shift (sales_at p s) + 1) (Some x) (sale_of k s)
    by_shift true at here =
        ap (λ (h : ℕ). cond (k.number == made_in h (sales_at p s) + 1) (Some x)
        (sale_in k.shift k.number (sales_at p s))) (same k.shift x.shift at)
        ∙ ap (λ (q : ℕ). cond (k.number == made_in x.shift (sales_at p s) + 1) (Some x)
        (sale_in k.shift k.number (sales_at q s))) (sym here)
    by_shift false at here = ap (λ (q : ℕ). sale_in k.shift k.number (sales_at q s)) (sym here)

    by_point : (b : Bool) → (k.point == p) ≡ b
        → cond b (sale_in k.shift k.number (sales_at p s ++ x ∷ [])) (sale_of k s)
        ≡ cond (b && (k.shift == x.shift && k.number == made_in x.shift (sales_at p s) + 1))
        (Some x) (sale_of k s)
    by_point true at =
        pushed k.shift k.number (sales_at p s) x
        ∙ ap (λ (b : Bool). cond (b && k.number == made_in k.shift (sales_at p s) + 1) (Some x)
        (sale_in k.shift k.number (sales_at p s))) (turned k.shift)
        ∙ by_shift (k.shift == x.shift) refl (same k.point p at)
    by_point false at = refl

-- the sales of a point, each changed
pub sales_at_each : (change : Sale → Sale) (s : Sales) (q : ℕ)
    → sales_at q (each_changed change s) ≡ map change (sales_at q s)
sales_at_each change s q = ap (λ (o : Option (List Sale)). unwrap_or o [])
    (get_each (map change) s q) ∙ by_list (finite.get s q)
  where
    by_list : (o : Option (List Sale))
        → unwrap_or (option_map (map change) o) [] ≡ map change (unwrap_or o [])
    by_list None = refl
    by_list (Some xs) = refl

pub read_each : (change : Sale → Sale) (k : Key) (s : Sales)
    → ((x : Sale) → (change x).shift ≡ x.shift)
    → sale_of k (each_changed change s) ≡ option_map change (sale_of k s)
read_each change k s keeps = ap (sale_in k.shift k.number) (sales_at_each change s k.point)
    ∙ mapped change k.shift k.number (sales_at k.point s) keeps

-- a sign-off changes no sale's shift
pub let_go_shift : (t : ℕ) (x : Sale) → (unlock_all_of t x).shift ≡ x.shift
let_go_shift t x = by_test (is_locked_by t x.standing)
  where
    by_test : (b : Bool) → (cond b (record x { standing = Payable }) x).shift ≡ x.shift
    by_test true = refl
    by_test false = refl

-- after a line for a sale that is there
read_line : (j k : Key) (x : Sale) (line : Result Line Refusal) (s : Sales) → sale_of j s ≡ Some x
    → sale_of k (after_line j x line s)
    ≡ cond (same_key k j) (Some (sale_after line x)) (sale_of k s)
read_line j k x (Ok l) s is = read_with j k x (record x { standing = l.leaves }) s is refl
read_line j k x (Err refusal) s is = by_same (same_key k j) refl
  where
    by_same : (b : Bool) → same_key k j ≡ b → sale_of k s ≡ cond b (Some x) (sale_of k s)
    by_same true at = one_sale k j s at ∙ is
    by_same false at = refl

pub read_request : (t : ℕ) (request : Request) (j k : Key) (s : Sales)
    → sale_of k (after_request request t j s)
    ≡ cond (same_key k j) (option_map (sale_after_request request t) (sale_of k s)) (sale_of k s)
read_request t request j k s = by_sale (sale_of j s) refl
  where
    by_same : (o : Option Sale) (b : Bool) → same_key k j ≡ b → sale_of j s ≡ o
        → cond b (option_map (sale_after_request request t) o) (sale_of k s)
        ≡ cond b (option_map (sale_after_request request t) (sale_of k s)) (sale_of k s)
    by_same o true at is = ap (option_map (sale_after_request request t))
        (sym is ∙ sym (one_sale k j s at))
    by_same o false at is = refl

    missing : (b : Bool) → same_key k j ≡ b → sale_of j s ≡ None
        → sale_of k s ≡ cond b None (sale_of k s)
    missing true at is = one_sale k j s at ∙ is
    missing false at is = refl

    by_sale : (o : Option Sale) → sale_of j s ≡ o
        → sale_of k (after_at request t j o s)
        ≡ cond (same_key k j) (option_map (sale_after_request request t) (sale_of k s))
        (sale_of k s)
    by_sale None is = missing (same_key k j) refl is ∙ by_same None (same_key k j) refl is
    by_sale (Some x) is = read_line j k x (line_for request t x) s is
        ∙ by_same (Some x) (same_key k j) refl is

pub read_after : IsReadAfter
read_after = record {
  asked_for = read_request;
  signed_off = λ t k s. read_each (unlock_all_of t) k s (let_go_shift t);
  sold = read_new;
}
