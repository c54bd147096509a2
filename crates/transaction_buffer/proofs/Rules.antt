-- The rules of locks and clears.
use Rattle.std.proofs.Common.{◌≡◌, ℕ, ◌==◌, ◌⊎◌, inl, inr, Bool, true, false, cond, List, []}
use Rattle.std.proofs.Common.{Option, option_map, option_and_then, Some, None, unwrap_or, Result}
use Rattle.std.proofs.Common.{Ok, refl, sym, ap, ◌∙◌}
use Rattle.std.proofs.Common.{arith}
use Rattle.std.proofs.lemmas.Bool.{eq-eqb}
use Rattle.std.proofs.lemmas.Bool.Decides.{nat_tests}
use Rattle.std.specs.FinMap as finite
use Rattle.transaction_buffer.proofs.InShift.{none_next, with_self}
use Rattle.site_base.specs.declared.answer.Answer.{Answer}
use Rattle.site_base.specs.declared.refusal.Refusal.{Refusal}
use Rattle.site_base.specs.Checks.{reply_or}
use Rattle.transaction_buffer.specs.declared.request.Request.{Request}
use Rattle.transaction_buffer.specs.declared.request.Request.TheVariants.{Lock, Unlock, Clear}
use Rattle.transaction_buffer.specs.declared.standing.Standing.{Standing}
use Rattle.transaction_buffer.specs.declared.standing.Standing.TheVariants.{Payable, LockedBy}
use Rattle.transaction_buffer.specs.declared.standing.Standing.TheVariants.{ClearedBy}
use Rattle.transaction_buffer.specs.Sales.{Key, next_key, Sale, Sales, sale_in, sales_at, sale_of}
use Rattle.transaction_buffer.specs.Sales.{same_key, is_unpaid, with_sale}
use Rattle.transaction_buffer.specs.TransactionTable.{Line, Seen, payable, locked_by_it}
use Rattle.transaction_buffer.specs.TransactionTable.{locked_by_other, cleared_by, line, seen_by}
use Rattle.transaction_buffer.specs.TransactionTable.{line_for, line_of, refusal_in, answer_in}
use Rattle.transaction_buffer.specs.TransactionTable.{sale_after, sale_after_request, refusal_of}
use Rattle.transaction_buffer.specs.TransactionTable.{after_line, after_at, after_request}
use Rattle.transaction_buffer.specs.TransactionTable.{is_locked_by, unlock_all_of, locker}
use Rattle.transaction_buffer.specs.TransactionTable.{locker_of}
use Rattle.transaction_buffer.specs.Laws.{asks, signs_off, sells, IsClearedForGood, IsClear}
use Rattle.transaction_buffer.specs.Laws.{IsClearedByItsLocker, unless_signed_off, HasOneLocker}
use Rattle.transaction_buffer.proofs.Maps.{insert_same}
use Rattle.transaction_buffer.proofs.Reading.{one_sale, read_request, read_each, read_new}
use Rattle.transaction_buffer.proofs.Reading.{let_go_shift}

same : (n m : ℕ) → (n == m) ≡ true → n ≡ m
same n m is = grind (arith, nat_tests)

-- ---- which requests the table accepts

-- a till sees a transaction that it has locked as its own
seen_own : (t : ℕ) → seen_by t (LockedBy t) ≡ locked_by_it
seen_own t = ap (λ (b : Bool). cond b locked_by_it (locked_by_other t)) (eq-eqb t t refl)

-- a lock is accepted where no other till has locked it
lock_of : (t cents : ℕ) (standing : Standing)
    → refusal_in (line Lock t cents (seen_by t standing)) ≡ None
    → (locker standing ≡ None) ⊎ (locker standing ≡ Some t)
lock_of t cents Payable accepted = inl refl
lock_of t cents (LockedBy u) accepted = by_test (u == t) refl accepted
  where
    by_test : (b : Bool) → (u == t) ≡ b
        → refusal_in (line Lock t cents (cond b locked_by_it (locked_by_other u))) ≡ None
        → (Some u ≡ None) ⊎ (Some u ≡ Some t)
    by_test true is accepted = inr (ap Some (same u t is))
    by_test false is accepted = cc
lock_of t cents (ClearedBy u shift) accepted = cc

-- an unlock by the till that has locked it
unlock_of : (t cents : ℕ) (standing : Standing)
    → refusal_in (line Unlock t cents (seen_by t standing)) ≡ None → standing ≡ LockedBy t
unlock_of t cents Payable accepted = cc
unlock_of t cents (LockedBy u) accepted = by_test (u == t) refl accepted
  where
    by_test : (b : Bool) → (u == t) ≡ b
        → refusal_in (line Unlock t cents (cond b locked_by_it (locked_by_other u))) ≡ None
        → LockedBy u ≡ LockedBy t
    by_test true is accepted = ap LockedBy (same u t is)
    by_test false is accepted = cc
unlock_of t cents (ClearedBy u shift) accepted = cc

-- a clear by the till that has locked it
clear_of : (t shift cents : ℕ) (standing : Standing)
    → refusal_in (line (Clear shift) t cents (seen_by t standing)) ≡ None → standing ≡ LockedBy t
clear_of t shift cents Payable accepted = cc
clear_of t shift cents (LockedBy u) accepted = by_test (u == t) refl accepted
  where
    by_test : (b : Bool) → (u == t) ≡ b
        → refusal_in (line (Clear shift) t cents (cond b locked_by_it (locked_by_other u))) ≡ None
        → LockedBy u ≡ LockedBy t
    by_test true is accepted = ap LockedBy (same u t is)
    by_test false is accepted = cc
clear_of t shift cents (ClearedBy u m) accepted = cc

-- nothing is accepted of a cleared transaction
refused_when_cleared : (request : Request) (t u : ℕ) (x : Sale)
    → sale_after (line request t x.cents (cleared_by u)) x ≡ x
refused_when_cleared Lock t u x = refl
refused_when_cleared Unlock t u x = refl
refused_when_cleared (Clear shift) t u x = refl

asked_when_cleared : (request : Request) (t u shift : ℕ) (x : Sale) → x.standing ≡ ClearedBy u shift
    → sale_after_request request t x ≡ x
asked_when_cleared request t u shift x is =
    ap (λ (standing : Standing). sale_after (line request t x.cents (seen_by t standing)) x) is
    ∙ refused_when_cleared request t u x

accepted_when : (request : Request) (t cents : ℕ) (standing : Standing) (l : Line)
    → line request t cents (seen_by t standing) ≡ Ok l → is_unpaid standing ≡ true
accepted_when request t cents Payable l is = refl
accepted_when request t cents (LockedBy u) l is = refl
accepted_when Lock t cents (ClearedBy u shift) l is = cc
accepted_when Unlock t cents (ClearedBy u shift) l is = cc
accepted_when (Clear m) t cents (ClearedBy u shift) l is = cc

-- what is accepted is unpaid
pub accepted_unpaid : (request : Request) (t : ℕ) (x : Sale) (l : Line)
    → line_for request t x ≡ Ok l → is_unpaid x.standing ≡ true
accepted_unpaid request t x l is = accepted_when request t x.cents x.standing l is

-- ---- cleared for good

-- the number of the next sale has none yet
not_next : (p h : ℕ) (k : Key) (x : Sale) (s : Sales) → sale_of k s ≡ Some x
    → same_key k (next_key p h s) ≡ false
not_next p h k x s is = by_test (same_key k (next_key p h s)) refl
  where
    by_test : (b : Bool) → same_key k (next_key p h s) ≡ b → b ≡ false
    by_test true at =
        let none : Some x ≡ None = sym is ∙ one_sale k (next_key p h s) s at
        ∙ none_next h (sales_at p s) in
        cc
    by_test false at = refl

let_go_cleared : (t u shift : ℕ) (x : Sale) → x.standing ≡ ClearedBy u shift → unlock_all_of t x ≡ x
let_go_cleared t u shift x is =
    ap (λ (standing : Standing). cond (is_locked_by t standing) (record x { standing = Payable }) x)
    is

pub cleared_for_good : IsClearedForGood
cleared_for_good (asks t request j) s k x u shift there is =
    read_request t request j k s
    ∙ ap (λ (o : Option Sale). cond (same_key k j) (option_map (sale_after_request request t) o) o)
    there
    ∙ ap (λ (y : Sale). cond (same_key k j) (Some y) (Some x))
    (asked_when_cleared request t u shift x is)
    ∙ either (same_key k j)
  where
    either : (b : Bool) → cond b (Some x) (Some x) ≡ Some x
    either true = refl
    either false = refl
cleared_for_good (signs_off t) s k x u shift there is =
    read_each (unlock_all_of t) k s (let_go_shift t) ∙ ap (option_map (unlock_all_of t)) there
    ∙ ap Some (let_go_cleared t u shift x is)
cleared_for_good (sells p y) s k x u shift there is =
    read_new p y k s ∙ ap (λ (b : Bool). cond b (Some y) (sale_of k s))
    (not_next p y.shift k x s there)
    ∙ there

-- ---- a clear, and one locker

one_key : (k : Key) → same_key k k ≡ true
one_key k =
    rw (eq-eqb k.point k.point refl, eq-eqb k.shift k.shift refl, eq-eqb k.number k.number refl)
    refl

-- the transaction after the request that names it
after_its_request : (t : ℕ) (request : Request) (k : Key) (x : Sale) (s : Sales)
    → sale_of k s ≡ Some x
    → sale_of k (after_request request t k s) ≡ Some (sale_after_request request t x)
after_its_request t request k x s there =
    read_request t request k k s
    ∙ ap (λ (b : Bool). cond b (option_map (sale_after_request request t) (sale_of k s))
    (sale_of k s)) (one_key k)
    ∙ ap (option_map (sale_after_request request t)) there

-- the line for a transaction that the till has locked
line_when_locked : (t : ℕ) (request : Request) (x : Sale) → x.standing ≡ LockedBy t
    → line_for request t x ≡ line request t x.cents locked_by_it
line_when_locked t request x is =
    ap (λ (standing : Standing). line request t x.cents (seen_by t standing)) is
    ∙ ap (line request t x.cents) (seen_own t)

-- what a line is told by
abbrev reply_in : Result Line Refusal → Result Answer Refusal
reply_in l = reply_or (refusal_in l) (answer_in l)

pub cleared_by_its_locker : IsClearedByItsLocker
cleared_by_its_locker t shift k s accepted = by_sale (sale_of k s) refl accepted
  where
    by_sale : (o : Option Sale) → sale_of k s ≡ o → refusal_in (line_of (Clear shift) t o) ≡ None
        → (x : Sale) × IsClear t shift k s x
    by_sale None there accepted = cc
    by_sale (Some x) there accepted =
        let locked : x.standing ≡ LockedBy t = clear_of t shift x.cents x.standing accepted in
        let its : line_for (Clear shift) t x ≡ line (Clear shift) t x.cents locked_by_it =
        line_when_locked t (Clear shift) x locked in (
          x,
          record {
            there = there;
            locked = locked;
            reply =
                ap (λ (o : Option Sale). reply_in (line_of (Clear shift) t o)) there
                ∙ ap reply_in its;
            cleared = after_its_request t (Clear shift) k x s there
                ∙ ap (λ l. Some (sale_after l x)) its;
          },
        )

-- the locker of what stands under a name
abbrev locker_in : Option Sale → Option ℕ
locker_in o = option_and_then (λ (x : Sale). locker x.standing) o

-- what an accepted request leaves
left_by_lock : (t cents : ℕ) (x : Sale) (v : Seen) → refusal_in (line Lock t cents v) ≡ None
    → (sale_after (line Lock t cents v) x).standing ≡ LockedBy t
left_by_lock t cents x payable accepted = refl
left_by_lock t cents x locked_by_it accepted = refl
left_by_lock t cents x (locked_by_other u) accepted = cc
left_by_lock t cents x (cleared_by u) accepted = cc

left_by_unlock : (t cents : ℕ) (x : Sale) (v : Seen) → refusal_in (line Unlock t cents v) ≡ None
    → (sale_after (line Unlock t cents v) x).standing ≡ Payable
left_by_unlock t cents x payable accepted = cc
left_by_unlock t cents x locked_by_it accepted = refl
left_by_unlock t cents x (locked_by_other u) accepted = cc
left_by_unlock t cents x (cleared_by u) accepted = cc

left_by_clear : (t shift cents : ℕ) (x : Sale) (v : Seen)
    → refusal_in (line (Clear shift) t cents v) ≡ None
    → (sale_after (line (Clear shift) t cents v) x).standing ≡ ClearedBy t shift
left_by_clear t shift cents x payable accepted = cc
left_by_clear t shift cents x locked_by_it accepted = refl
left_by_clear t shift cents x (locked_by_other u) accepted = cc
left_by_clear t shift cents x (cleared_by u) accepted = cc

-- The locker after an accepted request that leaves each transaction, accepted so, with this one.
locker_after : (request : Request) (t : ℕ) (left : Option ℕ) (j k : Key) (s : Sales)
    → ((x : Sale) → refusal_in (line_for request t x) ≡ None
    → locker (sale_after_request request t x).standing ≡ left)
    → refusal_of request t j s ≡ None
    → locker_of k (after_request request t j s) ≡ cond (same_key k j) left (locker_of k s)
locker_after request t left j k s leaves accepted =
    ap locker_in (read_request t request j k s) ∙ by_key (same_key k j) refl
  where
    by_sale : (o : Option Sale) → refusal_in (line_of request t o) ≡ None
        → locker_in (option_map (sale_after_request request t) o) ≡ left
    by_sale None accepted = cc
    by_sale (Some x) accepted = leaves x accepted

    by_key : (b : Bool) → same_key k j ≡ b
        → locker_in (cond b (option_map (sale_after_request request t) (sale_of k s)) (sale_of k s))
        ≡ cond b left (locker_of k s)
    by_key true at = by_sale (sale_of k s)
        (ap (λ (o : Option Sale). refusal_in (line_of request t o)) (one_sale k j s at) ∙ accepted)
    by_key false at = refl

locker_let_go : (t : ℕ) (x : Sale) (standing : Standing) → x.standing ≡ standing
    → locker (unlock_all_of t x).standing ≡ unless_signed_off t (locker standing)
locker_let_go t x Payable is = ap
    (λ (y : Standing). locker (cond (is_locked_by t y) (record x { standing = Payable })
    (record x { standing = y })).standing) is
locker_let_go t x (LockedBy u) is =
    ap (λ (y : Standing). locker (cond (is_locked_by t y) (record x { standing = Payable })
    (record x { standing = y })).standing) is ∙ by_test (u == t)
  where
    by_test : (b : Bool)
        → locker (cond b (record x { standing = Payable })
        (record x { standing = LockedBy u })).standing
        ≡ cond b None (Some u)
    by_test true = refl
    by_test false = refl
locker_let_go t x (ClearedBy u shift) is =
    ap (λ (y : Standing). locker (cond (is_locked_by t y) (record x { standing = Payable })
    (record x { standing = y })).standing) is

-- a transaction whose locker is t is one that t has locked
locked_when : (t : ℕ) (standing : Standing) → locker standing ≡ Some t → standing ≡ LockedBy t
locked_when t Payable is = cc
locked_when t (LockedBy u) is = ap (λ (o : Option ℕ). LockedBy (unwrap_or o u)) is
locked_when t (ClearedBy u shift) is = cc

-- the sales of a point, written in their own place
written_back : (k : Key) (x : Sale) (s : Sales) → sale_of k s ≡ Some x
    → finite.insert s k.point (sales_at k.point s) ≡ s
written_back k x s is =
    insert_same s k.point (sales_at k.point s) (by_list (finite.get s k.point) is)
  where
    by_list : (o : Option (List Sale)) → sale_in k.shift k.number (unwrap_or o []) ≡ Some x
        → o ≡ Some (unwrap_or o [])
    by_list None none = cc
    by_list (Some xs) some = refl

locked_again : (t : ℕ) (k : Key) (s : Sales) → locker_of k s ≡ Some t → after_request Lock t k s ≡ s
locked_again t k s is = by_sale (sale_of k s) refl is
  where
    by_sale : (o : Option Sale) → sale_of k s ≡ o → locker_in o ≡ Some t → after_at Lock t k o s ≡ s
    by_sale None there is = cc
    by_sale (Some x) there is =
        let locked : x.standing ≡ LockedBy t = locked_when t x.standing is in
        ap (λ l. after_line k x l s) (line_when_locked t Lock x locked)
        ∙ ap (λ (standing : Standing). with_sale k (record x { standing = standing }) s)
        (sym locked)
        ∙ ap (finite.insert s k.point) (with_self k.shift k.number (sales_at k.point s) x there)
        ∙ written_back k x s there

-- what an accepted request says of a transaction that is there
of_sale : (request : Request) (t : ℕ) (k : Key) (s : Sales) (P : Option ℕ → Type 0)
    → ((x : Sale) → refusal_in (line_for request t x) ≡ None → P (locker x.standing))
    → refusal_of request t k s ≡ None → P (locker_of k s)
of_sale request t k s P holds accepted = by_sale (sale_of k s) accepted
  where
    by_sale : (o : Option Sale) → refusal_in (line_of request t o) ≡ None → P (locker_in o)
    by_sale None accepted = cc
    by_sale (Some x) accepted = holds x accepted

pub one_locker : HasOneLocker
one_locker = record {
  free = λ t k s. of_sale Lock t k s (λ o. (o ≡ None) ⊎ (o ≡ Some t))
      (λ x. lock_of t x.cents x.standing);
  own = λ t k s. of_sale Unlock t k s (λ o. o ≡ Some t)
      (λ x accepted. ap locker (unlock_of t x.cents x.standing accepted));
  again = locked_again;
  by_lock = λ t j k s. locker_after Lock t (Some t) j k s
      (λ x accepted. ap locker (left_by_lock t x.cents x (seen_by t x.standing) accepted));
  by_unlock = λ t j k s. locker_after Unlock t None j k s
      (λ x accepted. ap locker (left_by_unlock t x.cents x (seen_by t x.standing) accepted));
  by_clear = λ t shift j k s. locker_after (Clear shift) t None j k s
      (λ x accepted. ap locker (left_by_clear t shift x.cents x (seen_by t x.standing) accepted));
  by_sign_off = λ t k s. ap locker_in (read_each (unlock_all_of t) k s (let_go_shift t))
      ∙ unlock_at t (sale_of k s);
  by_sale = λ p x k s. ap locker_in (read_new p x k s)
      ∙ new_at (same_key k (next_key p x.shift s)) x (sale_of k s);
}
  where
    unlock_at : (t : ℕ) (o : Option Sale)
        → locker_in (option_map (unlock_all_of t) o) ≡ unless_signed_off t (locker_in o)
    unlock_at t None = refl
    unlock_at t (Some x) = locker_let_go t x x.standing refl

    new_at : (b : Bool) (x : Sale) (o : Option Sale)
        → locker_in (cond b (Some x) o) ≡ cond b (locker x.standing) (locker_in o)
    new_at true x o = refl
    new_at false x o = refl
