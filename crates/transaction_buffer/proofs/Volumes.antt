-- A product's volumes by status: how they add up, and how each change moves them.
use Rattle.std.proofs.Common.{◌≡◌, ℕ, ◌+◌, ◌&&◌, ◌==◌, Bool, true, false, cond, Option, Some, None}
use Rattle.std.proofs.Common.{Result, Ok, Err, refl, sym, ap, ◌∙◌, arith}
use Rattle.site_base.specs.declared.refusal.Refusal.{Refusal}
use Rattle.site_base.specs.declared.state.Status.TheVariants as statuses
use Rattle.transaction_buffer.specs.declared.request.Request.{Request}
use Rattle.transaction_buffer.specs.declared.standing.Standing.{Standing}
use Rattle.transaction_buffer.specs.declared.standing.Standing.TheVariants.{Payable, LockedBy}
use Rattle.transaction_buffer.specs.declared.standing.Standing.TheVariants.{ClearedBy}
use Rattle.transaction_buffer.specs.Sales.{Key, Sale, Sales, sale_of}
use Rattle.transaction_buffer.specs.TransactionTable.{Line, line_for, sale_after}
use Rattle.transaction_buffer.specs.TransactionTable.{sale_after_request, after_line, after_at}
use Rattle.transaction_buffer.specs.TransactionTable.{after_request, is_locked_by, unlock_all_of}
use Rattle.transaction_buffer.specs.Sums.{sum_of, has_status, volume_in, volume_with}
use Rattle.transaction_buffer.specs.Sums.{volume_locked_by, volume_of, volume_by, locked_volume}
use Rattle.transaction_buffer.specs.Laws.{DoAddUp, DoMove}
use Rattle.transaction_buffer.proofs.Summing.{replaced_sum, sold_sum, changed_sum, alike_sum}
use Rattle.transaction_buffer.proofs.Summing.{added_sum}

-- ---- the three statuses

-- a sale of the product counts in just one status
by_standing : (b : Bool) (volume : ℕ) (standing : Standing)
    → cond (b && has_status statuses.Payable standing) volume 0
    + cond (b && has_status statuses.Locked standing) volume 0
    + cond (b && has_status statuses.Cleared standing) volume 0
    ≡ cond b volume 0
by_standing true volume Payable = omega arith
by_standing true volume (LockedBy t) = omega arith
by_standing true volume (ClearedBy t shift) = omega arith
by_standing false volume standing = refl

pub add_up : DoAddUp
add_up q s =
    let unpaid : Sale → ℕ = λ x. volume_with q statuses.Payable x
    + volume_with q statuses.Locked x in
    ap (λ (n : ℕ). n + volume_by q statuses.Cleared s)
    (sym (added_sum (volume_with q statuses.Payable) (volume_with q statuses.Locked) s))
    ∙ sym (added_sum unpaid (volume_with q statuses.Cleared) s)
    ∙ alike_sum (λ x. unpaid x + volume_with q statuses.Cleared x) (volume_in q)
    (λ x. by_standing (x.product == q) x.volume x.standing) s

-- ---- a request

-- any figure, after a line for a sale that is there
line_sum : (figure : Sale → ℕ) (k : Key) (x : Sale) (line : Result Line Refusal) (s : Sales)
    → sale_of k s ≡ Some x
    → sum_of figure (after_line k x line s) + figure x
    ≡ sum_of figure s + figure (sale_after line x)
line_sum figure k x (Ok l) s is = replaced_sum figure k x (record x { standing = l.leaves }) s is
line_sum figure k x (Err refusal) s is = refl

request_sum : (figure : Sale → ℕ) (t : ℕ) (request : Request) (k : Key) (x : Sale) (s : Sales)
    → sale_of k s ≡ Some x
    → sum_of figure (after_request request t k s) + figure x
    ≡ sum_of figure s + figure (sale_after_request request t x)
request_sum figure t request k x s is =
    ap (λ (o : Option Sale). sum_of figure (after_at request t k o s) + figure x) is
    ∙ line_sum figure k x (line_for request t x) s is

-- a request changes neither the product nor the volume
same_volume : (q : ℕ) (line : Result Line Refusal) (x : Sale)
    → volume_in q (sale_after line x) ≡ volume_in q x
same_volume q (Ok l) x = refl
same_volume q (Err refusal) x = refl

whole_by_request : (q t : ℕ) (request : Request) (k : Key) (s : Sales)
    → volume_of q (after_request request t k s) ≡ volume_of q s
whole_by_request q t request k s = by_sale (sale_of k s) refl
  where
    by_sale : (o : Option Sale) → sale_of k s ≡ o
        → volume_of q (after_at request t k o s) ≡ volume_of q s
    by_sale None is = refl
    by_sale (Some x) is =
        let moved : volume_of q (after_line k x (line_for request t x) s) + volume_in q x
        ≡ volume_of q s + volume_in q (sale_after_request request t x) =
        line_sum (volume_in q) k x (line_for request t x) s is in
        omega (arith, moved, same_volume q (line_for request t x) x)

-- ---- a sign-off

was_locked : (t : ℕ) (standing : Standing) → is_locked_by t standing ≡ true
    → has_status statuses.Locked standing ≡ true
was_locked t Payable is = cc
was_locked t (LockedBy u) is = refl
was_locked t (ClearedBy u shift) is = cc

wasn't_payable : (t : ℕ) (standing : Standing) → is_locked_by t standing ≡ true
    → has_status statuses.Payable standing ≡ false
wasn't_payable t Payable is = cc
wasn't_payable t (LockedBy u) is = refl
wasn't_payable t (ClearedBy u shift) is = cc

wasn't_cleared : (t : ℕ) (standing : Standing) → is_locked_by t standing ≡ true
    → has_status statuses.Cleared standing ≡ false
wasn't_cleared t Payable is = cc
wasn't_cleared t (LockedBy u) is = refl
wasn't_cleared t (ClearedBy u shift) is = cc

gains : (b h : Bool) (volume : ℕ) → h ≡ false
    → cond (b && true) volume 0 ≡ cond (b && h) volume 0 + cond b volume 0
gains true h volume is = rw is (omega arith)
gains false h volume is = refl

loses : (b h : Bool) (volume : ℕ) → h ≡ true
    → cond (b && false) volume 0 + cond b volume 0 ≡ cond (b && h) volume 0
loses true h volume is = rw is (omega arith)
loses false h volume is = refl

keeps : (b h : Bool) (volume : ℕ) → h ≡ false → cond (b && false) volume 0 ≡ cond (b && h) volume 0
keeps true h volume is = rw is refl
keeps false h volume is = refl

-- a sale that the till lets go is payable, and was locked
pub let_go_payable : (q t : ℕ) (x : Sale)
    → volume_with q statuses.Payable (unlock_all_of t x)
    ≡ volume_with q statuses.Payable x + volume_locked_by q t x
let_go_payable q t x = by_test (is_locked_by t x.standing) refl
  where
    by_test : (b : Bool) → is_locked_by t x.standing ≡ b
        → volume_with q statuses.Payable (cond b (record x { standing = Payable }) x)
        ≡ volume_with q statuses.Payable x + cond b (volume_in q x) 0
    by_test true is = gains (x.product == q) (has_status statuses.Payable x.standing) x.volume
        (wasn't_payable t x.standing is)
    by_test false is = omega arith

pub let_go_locked : (q t : ℕ) (x : Sale)
    → volume_with q statuses.Locked (unlock_all_of t x) + volume_locked_by q t x
    ≡ volume_with q statuses.Locked x
let_go_locked q t x = by_test (is_locked_by t x.standing) refl
  where
    by_test : (b : Bool) → is_locked_by t x.standing ≡ b
        → volume_with q statuses.Locked (cond b (record x { standing = Payable }) x)
        + cond b (volume_in q x) 0
        ≡ volume_with q statuses.Locked x
    by_test true is = loses (x.product == q) (has_status statuses.Locked x.standing) x.volume
        (was_locked t x.standing is)
    by_test false is = omega arith

pub let_go_cleared : (q t : ℕ) (x : Sale)
    → volume_with q statuses.Cleared (unlock_all_of t x) ≡ volume_with q statuses.Cleared x
let_go_cleared q t x = by_test (is_locked_by t x.standing) refl
  where
    by_test : (b : Bool) → is_locked_by t x.standing ≡ b
        → volume_with q statuses.Cleared (cond b (record x { standing = Payable }) x)
        ≡ volume_with q statuses.Cleared x
    by_test true is = keeps (x.product == q) (has_status statuses.Cleared x.standing) x.volume
        (wasn't_cleared t x.standing is)
    by_test false is = refl

pub let_go_whole : (q t : ℕ) (x : Sale) → volume_in q (unlock_all_of t x) ≡ volume_in q x
let_go_whole q t x = by_test (is_locked_by t x.standing)
  where
    by_test : (b : Bool) → volume_in q (cond b (record x { standing = Payable }) x) ≡ volume_in q x
    by_test true = refl
    by_test false = refl

pub move : DoMove
move = record {
  by_request = λ q status t request k x s is. request_sum (volume_with q status) t request k x s is;
  payable_at_sign_off = λ q t s.
      changed_sum (volume_with q statuses.Payable) (unlock_all_of t) s
      ∙ alike_sum (λ x. volume_with q statuses.Payable (unlock_all_of t x))
      (λ x. volume_with q statuses.Payable x + volume_locked_by q t x) (let_go_payable q t) s
      ∙ added_sum (volume_with q statuses.Payable) (volume_locked_by q t) s;
  locked_at_sign_off = λ q t s.
      ap (λ (n : ℕ). n + locked_volume q t s)
      (changed_sum (volume_with q statuses.Locked) (unlock_all_of t) s)
      ∙ sym (added_sum (λ x. volume_with q statuses.Locked (unlock_all_of t x))
      (volume_locked_by q t) s)
      ∙ alike_sum (λ x. volume_with q statuses.Locked (unlock_all_of t x) + volume_locked_by q t x)
      (volume_with q statuses.Locked) (let_go_locked q t) s;
  cleared_at_sign_off = λ q t s.
      changed_sum (volume_with q statuses.Cleared) (unlock_all_of t) s
      ∙ alike_sum (λ x. volume_with q statuses.Cleared (unlock_all_of t x))
      (volume_with q statuses.Cleared) (let_go_cleared q t) s;
  by_sale = λ q status p x s. sold_sum (volume_with q status) p x s;
  whole_by_request = whole_by_request;
  whole_at_sign_off = λ q t s.
      changed_sum (volume_in q) (unlock_all_of t) s
      ∙ alike_sum (λ x. volume_in q (unlock_all_of t x)) (volume_in q) (let_go_whole q t) s;
  whole_by_sale = λ q p x s. sold_sum (volume_in q) p x s;
}
