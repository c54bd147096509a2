-- The transaction table as it is printed, by computing the definitions: what till 1 is told of its
-- request for a sale of 750 cents, and how the sale stands then.
use Rattle.std.proofs.Common.{◌≡◌, List, [], ◌∷◌, map, Some, None, Result, Ok, Err, refl}
use Rattle.site_base.specs.declared.answer.Answer.{Answer}
use Rattle.site_base.specs.declared.answer.Answer.TheVariants.{Locked, Unlocked, Cleared}
use Rattle.site_base.specs.declared.refusal.Refusal.{Refusal}
use Rattle.site_base.specs.declared.refusal.Refusal.TheVariants.{NoSuchTransaction, LockedByOther}
use Rattle.site_base.specs.declared.refusal.Refusal.TheVariants.{NotLocked, AlreadyCleared}
use Rattle.transaction_buffer.specs.declared.request.Request.{Request}
use Rattle.transaction_buffer.specs.declared.request.Request.TheVariants.{Lock, Unlock, Clear}
use Rattle.transaction_buffer.specs.declared.standing.Standing.{Standing}
use Rattle.transaction_buffer.specs.declared.standing.Standing.TheVariants.{Payable, LockedBy}
use Rattle.transaction_buffer.specs.declared.standing.Standing.TheVariants.{ClearedBy}
use Rattle.site_base.specs.Checks.{reply_or}
use Rattle.transaction_buffer.specs.Sales.{Sale}
use Rattle.transaction_buffer.specs.TransactionTable.{Line, line_of, refusal_in, answer_in}
use Rattle.transaction_buffer.specs.TransactionTable.{sale_after_request}

-- 5,000 ml at 1,500 mills
abbrev sold : Standing → Sale
sold standing = record {
  shift = 3;
  price = 1500;
  volume = 5000;
  cents = 750;
  prepaid = None;
  product = 1;
  standing = standing;
}

abbrev told : Result Line Refusal → Result Answer Refusal
told line = reply_or (refusal_in line) (answer_in line)

abbrev asked_of : Standing → Request → Result Answer Refusal × Standing
asked_of standing request = (
  told (line_of request 1 (Some (sold standing))),
  (sale_after_request request 1 (sold standing)).standing,
)

-- a lock, an unlock, and a clear in shift 7
abbrev requests : List Request
requests = Lock ∷ Unlock ∷ Clear 7 ∷ []

payable : map (asked_of Payable) requests
    ≡ (Ok Locked, LockedBy 1)
    ∷ (Err NotLocked, Payable)
    ∷ (Err NotLocked, Payable)
    ∷ []
payable = refl

locked_by_it : map (asked_of (LockedBy 1)) requests
    ≡ (Ok Locked, LockedBy 1)
    ∷ (Ok Unlocked, Payable)
    ∷ (Ok (Cleared 750), ClearedBy 1 7)
    ∷ []
locked_by_it = refl

locked_by_other : map (asked_of (LockedBy 2)) requests
    ≡ (Err (LockedByOther 2), LockedBy 2)
    ∷ (Err (LockedByOther 2), LockedBy 2)
    ∷ (Err (LockedByOther 2), LockedBy 2)
    ∷ []
locked_by_other = refl

cleared_by_it : map (asked_of (ClearedBy 1 3)) requests
    ≡ (Err (AlreadyCleared 1), ClearedBy 1 3)
    ∷ (Err (AlreadyCleared 1), ClearedBy 1 3)
    ∷ (Err (AlreadyCleared 1), ClearedBy 1 3)
    ∷ []
cleared_by_it = refl

cleared_by_other : map (asked_of (ClearedBy 2 3)) requests
    ≡ (Err (AlreadyCleared 2), ClearedBy 2 3)
    ∷ (Err (AlreadyCleared 2), ClearedBy 2 3)
    ∷ (Err (AlreadyCleared 2), ClearedBy 2 3)
    ∷ []
cleared_by_other = refl

not_there : map (λ (request : Request). told (line_of request 1 None)) requests
    ≡ Err NoSuchTransaction
    ∷ Err NoSuchTransaction
    ∷ Err NoSuchTransaction
    ∷ []
not_there = refl
