-- What holds of the sales by their definitions, whatever a till asks, signs off or a point sells.
use Rattle.std.specs.Prelude.{◌≡◌, ℕ, ◌+◌, ◌≤◌, ◌⊎◌, Option, option_map, Some, None, Ok, Err, ◌==◌}
use Rattle.std.specs.Prelude.{◌&&◌, if◌then◌else◌}
use Rattle.site_base.specs.declared.answer.Answer.{Answer}
use Rattle.site_base.specs.declared.answer.Answer.TheVariants.{Cleared}
use Rattle.site_base.specs.declared.refusal.Refusal.{Refusal}
use Rattle.site_base.specs.declared.state.Status.{Status}
use Rattle.site_base.specs.declared.state.Status.TheVariants as statuses
use Rattle.transaction_buffer.specs.declared.request.Request.{Request}
use Rattle.transaction_buffer.specs.declared.request.Request.TheVariants.{Lock, Unlock, Clear}
use Rattle.transaction_buffer.specs.declared.standing.Standing.TheVariants.{LockedBy, ClearedBy}
use Rattle.transaction_buffer.specs.Requests.{Asked, reply_of}
use Rattle.transaction_buffer.specs.Sales.{Key, next_key, Sale, Sales, sale_of, same_key, made_at}
use Rattle.transaction_buffer.specs.Sales.{is_unpaid, unpaid_at, with_sale, with_new, each_changed}
use Rattle.transaction_buffer.specs.TransactionTable.{refusal_of, answer_of, after_request}
use Rattle.transaction_buffer.specs.TransactionTable.{sale_after_request, unlock_all_of}
use Rattle.transaction_buffer.specs.TransactionTable.{after_sign_off, locker, locker_of}
use Rattle.transaction_buffer.specs.Sums.{sum_of, volume_in, volume_with, volume_of, volume_by}
use Rattle.transaction_buffer.specs.Sums.{locked_volume}

-- what changes the sales: what a till asks of a transaction, the sign-off of a till, a sale of a
-- point
pub data Change : Type 0 where
  asks : ℕ → Request → Key → Change
  signs_off : ℕ → Change
  sells : ℕ → Sale → Change

-- the sales after it; a refused request leaves them
abbrev pub after : Change → Sales → Sales
after (asks t request k) s = after_request request t k s
after (signs_off t) s = after_sign_off t s
after (sells p x) s = with_new p x s

-- What a reply tells. An answer: nothing refused the request, and the table's line gives this
-- answer. A refusal: it is the table's, and the sales stay.
pub record DoTell : Type 0 where
  pub accepted : (request : Request) (t : ℕ) (k : Key) (old new : Sales) (answer : Answer)
      → Asked request t k old new (Ok answer)
      → (refusal_of request t k old ≡ None) × (answer ≡ answer_of request t k old)
  pub refused : (request : Request) (t : ℕ) (k : Key) (old new : Sales) (refusal : Refusal)
      → Asked request t k old new (Err refusal)
      → (refusal_of request t k old ≡ Some refusal) × (new ≡ old)

-- a transaction that is cleared stays as it is
abbrev pub IsClearedForGood : Type 0
IsClearedForGood = (change : Change) (s : Sales) (k : Key) (x : Sale) (t shift : ℕ)
    → sale_of k s ≡ Some x → x.standing ≡ ClearedBy t shift → sale_of k (after change s) ≡ Some x

-- A clear is accepted only of a transaction that this till has locked; it is answered with its
-- cents, and the transaction is cleared by the till in the shift handed in.
pub record IsClear (t shift : ℕ) (k : Key) (s : Sales) (x : Sale) : Type 0 where
  pub there : sale_of k s ≡ Some x
  pub locked : x.standing ≡ LockedBy t
  pub reply : reply_of (Clear shift) t k s ≡ Ok (Cleared x.cents)
  pub cleared : sale_of k (after_request (Clear shift) t k s)
      ≡ Some (record x { standing = ClearedBy t shift })

abbrev pub IsClearedByItsLocker : Type 0
IsClearedByItsLocker = (t shift : ℕ) (k : Key) (s : Sales) → refusal_of (Clear shift) t k s ≡ None
    → (x : Sale) × IsClear t shift k s x

-- the locker that is left when till t signs off
abbrev pub unless_signed_off : ℕ → Option ℕ → Option ℕ
unless_signed_off t None = None
unless_signed_off t (Some u) = if u == t then None else Some u

-- A transaction has one locker at most. A lock is accepted only where no other till has locked it,
-- and an unlock only of the till that has; a lock by the till that has locked it changes nothing.
-- After an accepted lock the locker is the till that asked for it, after an accepted unlock or
-- clear there is none, after the sign-off of its locker there is none, and a new sale has the
-- locker that it is sold with. Every other transaction keeps the locker that it had.
pub record HasOneLocker : Type 0 where
  pub free : (t : ℕ) (k : Key) (s : Sales) → refusal_of Lock t k s ≡ None
      → (locker_of k s ≡ None) ⊎ (locker_of k s ≡ Some t)
  pub own : (t : ℕ) (k : Key) (s : Sales) → refusal_of Unlock t k s ≡ None → locker_of k s ≡ Some t
  pub again : (t : ℕ) (k : Key) (s : Sales) → locker_of k s ≡ Some t → after_request Lock t k s ≡ s
  pub by_lock : (t : ℕ) (j k : Key) (s : Sales) → refusal_of Lock t j s ≡ None
      → locker_of k (after_request Lock t j s) ≡ (if same_key k j then Some t else locker_of k s)
  pub by_unlock : (t : ℕ) (j k : Key) (s : Sales) → refusal_of Unlock t j s ≡ None
      → locker_of k (after_request Unlock t j s) ≡ (if same_key k j then None else locker_of k s)
  pub by_clear : (t shift : ℕ) (j k : Key) (s : Sales) → refusal_of (Clear shift) t j s ≡ None
      → locker_of k (after_request (Clear shift) t j s)
      ≡ (if same_key k j then None else locker_of k s)
  pub by_sign_off : (t : ℕ) (k : Key) (s : Sales)
      → locker_of k (after_sign_off t s) ≡ unless_signed_off t (locker_of k s)
  pub by_sale : (p : ℕ) (x : Sale) (k : Key) (s : Sales)
      → locker_of k (with_new p x s)
      ≡ (if same_key k (next_key p x.shift s) then locker x.standing else locker_of k s)

-- what stands under a name after each change
pub record IsReadAfter : Type 0 where
  pub asked_for : (t : ℕ) (request : Request) (j k : Key) (s : Sales)
      → sale_of k (after_request request t j s)
      ≡ (if same_key k j then option_map (sale_after_request request t) (sale_of k s)
      else sale_of k s)
  pub signed_off : (t : ℕ) (k : Key) (s : Sales)
      → sale_of k (after_sign_off t s) ≡ option_map (unlock_all_of t) (sale_of k s)
  pub sold : (p : ℕ) (x : Sale) (k : Key) (s : Sales)
      → sale_of k (with_new p x s)
      ≡ (if same_key k (next_key p x.shift s) then Some x else sale_of k s)

-- A sale raises by one how many its point has made in its shift, so that no number is used twice
-- there; nothing else changes that. Only a sale raises how many are unpaid.
pub record IsCountedAfter : Type 0 where
  pub made_asked : (t : ℕ) (request : Request) (k : Key) (q h : ℕ) (s : Sales)
      → made_at q h (after_request request t k s) ≡ made_at q h s
  pub made_signed_off : (t q h : ℕ) (s : Sales)
      → made_at q h (after_sign_off t s) ≡ made_at q h s
  pub made_sold : (p : ℕ) (x : Sale) (q h : ℕ) (s : Sales)
      → made_at q h (with_new p x s)
      ≡ (if q == p && x.shift == h then made_at q h s + 1 else made_at q h s)
  pub unpaid_asked : (t : ℕ) (request : Request) (k : Key) (q : ℕ) (s : Sales)
      → unpaid_at q (after_request request t k s) ≤ unpaid_at q s
  pub unpaid_signed_off : (t q : ℕ) (s : Sales) → unpaid_at q (after_sign_off t s) ≡ unpaid_at q s
  pub unpaid_sold : (p : ℕ) (x : Sale) (q : ℕ) (s : Sales)
      → unpaid_at q (with_new p x s)
      ≡ (if q == p then unpaid_at q s + (if is_unpaid x.standing then 1 else 0) else unpaid_at q s)

-- any figure summed over every sale: one sale in the place of another, one more, and each changed
pub record IsSummedAfter : Type 0 where
  pub replaced : (figure : Sale → ℕ) (k : Key) (old new : Sale) (s : Sales) → sale_of k s ≡ Some old
      → sum_of figure (with_sale k new s) + figure old ≡ sum_of figure s + figure new
  pub sold : (figure : Sale → ℕ) (p : ℕ) (x : Sale) (s : Sales)
      → sum_of figure (with_new p x s) ≡ sum_of figure s + figure x
  pub changed : (figure : Sale → ℕ) (change : Sale → Sale) (s : Sales)
      → sum_of figure (each_changed change s) ≡ sum_of (λ x. figure (change x)) s

-- a product's volumes by status add up to its volume in all sales
abbrev pub DoAddUp : Type 0
DoAddUp = (q : ℕ) (s : Sales)
    → volume_by q statuses.Payable s + volume_by q statuses.Locked s
    + volume_by q statuses.Cleared s
    ≡ volume_of q s

-- How a product's volumes move. A request moves that of its transaction to its new status, a
-- sign-off that of the till's locked transactions from locked to payable, and a sale adds its own;
-- only a sale changes the volume in all sales.
pub record DoMove : Type 0 where
  pub by_request : (q : ℕ) (status : Status) (t : ℕ) (request : Request) (k : Key) (x : Sale)
      (s : Sales)
      → sale_of k s ≡ Some x
      → volume_by q status (after_request request t k s) + volume_with q status x
      ≡ volume_by q status s + volume_with q status (sale_after_request request t x)
  pub payable_at_sign_off : (q t : ℕ) (s : Sales)
      → volume_by q statuses.Payable (after_sign_off t s)
      ≡ volume_by q statuses.Payable s + locked_volume q t s
  pub locked_at_sign_off : (q t : ℕ) (s : Sales)
      → volume_by q statuses.Locked (after_sign_off t s) + locked_volume q t s
      ≡ volume_by q statuses.Locked s
  pub cleared_at_sign_off : (q t : ℕ) (s : Sales)
      → volume_by q statuses.Cleared (after_sign_off t s) ≡ volume_by q statuses.Cleared s
  pub by_sale : (q : ℕ) (status : Status) (p : ℕ) (x : Sale) (s : Sales)
      → volume_by q status (with_new p x s) ≡ volume_by q status s + volume_with q status x
  pub whole_by_request : (q t : ℕ) (request : Request) (k : Key) (s : Sales)
      → volume_of q (after_request request t k s) ≡ volume_of q s
  pub whole_at_sign_off : (q t : ℕ) (s : Sales) → volume_of q (after_sign_off t s) ≡ volume_of q s
  pub whole_by_sale : (q p : ℕ) (x : Sale) (s : Sales)
      → volume_of q (with_new p x s) ≡ volume_of q s + volume_in q x
