-- The transaction table: what a till's request does to a transaction, by how it stands.
use Rattle.std.specs.Prelude.{ℕ, Bool, false, Option, option_and_then, Some, None, Result, Ok, Err}
use Rattle.std.specs.Prelude.{◌==◌, if◌then◌else◌}
use Rattle.site_base.specs.declared.answer.Answer.{Answer}
use Rattle.site_base.specs.declared.answer.Answer.TheVariants.{Done, Locked, Unlocked, Cleared}
use Rattle.site_base.specs.declared.refusal.Refusal.{Refusal}
use Rattle.site_base.specs.declared.refusal.Refusal.TheVariants.{NoSuchTransaction, LockedByOther}
use Rattle.site_base.specs.declared.refusal.Refusal.TheVariants.{NotLocked, AlreadyCleared}
use Rattle.transaction_buffer.specs.declared.request.Request.{Request}
use Rattle.transaction_buffer.specs.declared.request.Request.TheVariants.{Lock, Unlock, Clear}
use Rattle.transaction_buffer.specs.declared.standing.Standing.{Standing}
use Rattle.transaction_buffer.specs.declared.standing.Standing.TheVariants.{Payable, LockedBy}
use Rattle.transaction_buffer.specs.declared.standing.Standing.TheVariants.{ClearedBy}
use Rattle.transaction_buffer.specs.Sales.{Key, Sale, Sales, sale_of, with_sale, each_changed}

-- a transaction as a till sees it: the columns of the table
pub data Seen : Type 0 where
  payable : Seen
  locked_by_it : Seen
  locked_by_other : ℕ → Seen
  cleared_by : ℕ → Seen

-- what a line says of an accepted request: how the transaction stands then, and the answer
pub record Line : Type 0 where
  pub leaves : Standing
  pub answer : Answer

abbrev pub leads : Standing → Answer → Result Line Refusal
leads standing answer = Ok (record { leaves = standing; answer = answer })

-- the table: the request of till t for a transaction of these cents, and how till t sees it
abbrev pub line : Request → ℕ → ℕ → Seen → Result Line Refusal
line Lock t cents payable = leads (LockedBy t) Locked
line Lock t cents locked_by_it = leads (LockedBy t) Locked
line Lock t cents (locked_by_other u) = Err (LockedByOther u)
line Lock t cents (cleared_by u) = Err (AlreadyCleared u)
line Unlock t cents payable = Err NotLocked
line Unlock t cents locked_by_it = leads Payable Unlocked
line Unlock t cents (locked_by_other u) = Err (LockedByOther u)
line Unlock t cents (cleared_by u) = Err (AlreadyCleared u)
line (Clear shift) t cents payable = Err NotLocked
line (Clear shift) t cents locked_by_it = leads (ClearedBy t shift) (Cleared cents)
line (Clear shift) t cents (locked_by_other u) = Err (LockedByOther u)
line (Clear shift) t cents (cleared_by u) = Err (AlreadyCleared u)

-- how till t sees a transaction that stands so
abbrev pub seen_by : ℕ → Standing → Seen
seen_by t Payable = payable
seen_by t (LockedBy u) = if u == t then locked_by_it else locked_by_other u
seen_by t (ClearedBy u shift) = cleared_by u

-- the table's line for a sale
abbrev pub line_for : Request → ℕ → Sale → Result Line Refusal
line_for request t x = line request t x.cents (seen_by t x.standing)

-- the same where the sale may not be there
abbrev pub line_of : Request → ℕ → Option Sale → Result Line Refusal
line_of request t None = Err NoSuchTransaction
line_of request t (Some x) = line_for request t x

abbrev pub refusal_in : Result Line Refusal → Option Refusal
refusal_in (Ok l) = None
refusal_in (Err refusal) = Some refusal

-- without a line there is nothing to tell
abbrev pub answer_in : Result Line Refusal → Answer
answer_in (Ok l) = l.answer
answer_in (Err refusal) = Done

-- the sale after the line; a refusal leaves it
abbrev pub sale_after : Result Line Refusal → Sale → Sale
sale_after (Ok l) x = record x { standing = l.leaves }
sale_after (Err refusal) x = x

-- the sale after the request of till t; a refusal leaves it
abbrev pub sale_after_request : Request → ℕ → Sale → Sale
sale_after_request request t x = sale_after (line_for request t x) x

-- why the request of till t for this transaction is refused
abbrev pub refusal_of : Request → ℕ → Key → Sales → Option Refusal
refusal_of request t k s = refusal_in (line_of request t (sale_of k s))

-- what the accepted request is answered with
abbrev pub answer_of : Request → ℕ → Key → Sales → Answer
answer_of request t k s = answer_in (line_of request t (sale_of k s))

-- the sales after the line for this sale; a refusal leaves them
abbrev pub after_line : Key → Sale → Result Line Refusal → Sales → Sales
after_line k x (Ok l) s = with_sale k (record x { standing = l.leaves }) s
after_line k x (Err refusal) s = s

-- the same where the sale may not be there
abbrev pub after_at : Request → ℕ → Key → Option Sale → Sales → Sales
after_at request t k None s = s
after_at request t k (Some x) s = after_line k x (line_for request t x) s

-- the sales after the request of till t for this transaction; a refusal leaves them
abbrev pub after_request : Request → ℕ → Key → Sales → Sales
after_request request t k s = after_at request t k (sale_of k s) s

-- a transaction that this till has locked
abbrev pub is_locked_by : ℕ → Standing → Bool
is_locked_by t (LockedBy u) = u == t
is_locked_by t standing = false

-- the till that has locked a transaction
abbrev pub locker : Standing → Option ℕ
locker (LockedBy u) = Some u
locker standing = None

-- the till that has locked the transaction of this name
abbrev pub locker_of : Key → Sales → Option ℕ
locker_of k s = option_and_then (λ x. locker x.standing) (sale_of k s)

-- a sale that the till has locked is payable; every other is as it was
abbrev pub unlock_all_of : ℕ → Sale → Sale
unlock_all_of t x = if is_locked_by t x.standing then record x { standing = Payable } else x

-- the sales after the sign-off of till t
abbrev pub after_sign_off : ℕ → Sales → Sales
after_sign_off t s = each_changed (unlock_all_of t) s
