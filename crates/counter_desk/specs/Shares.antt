-- A share as contracts see it, and what it owes.
use Rattle.std.specs.Prelude.{◌≡◌, ℕ, ◌-◌, ◌≤◌, Bool, true, false, List, length, replicate, Option}
use Rattle.std.specs.Prelude.{Some, None, Result, count_by, slice_index_or, slice_set}
use Rattle.site_base.specs.declared.actor.Actor.{Actor}
use Rattle.site_base.specs.declared.answer.Answer.{Answer}
use Rattle.site_base.specs.declared.event.Event.{Event}
use Rattle.site_base.specs.declared.event.Event.TheVariants.{SignOn}
use Rattle.site_base.specs.declared.limits.TheConstants.{TILL_CELLS}
use Rattle.site_base.specs.declared.refusal.Refusal.{Refusal}
use Rattle.site_base.specs.declared.signing.SignChange.{SignChange}
use Rattle.site_base.specs.declared.signing.SignChange.TheVariants.{On, Off}
use Rattle.site_base.specs.SignChanges.{sign_change}
use Rattle.counter_desk.specs.declared.receipt.Receipt.{Receipt}

-- its receipts in their order; of each till, from till 1 on, whether it is owed a sign-off; and the
-- number of receipts that room is reserved for beside one for each till that is owed
pub record ShareFacts : Type 0 where
  pub receipts : List Receipt
  pub owed : List Bool
  pub room : ℕ

-- the share owes the till a sign-off
abbrev pub owes : ShareFacts → ℕ → Bool
owes share t = slice_index_or share.owed (t - 1) false

-- nobody is owed
abbrev pub nobody_owed : List Bool
nobody_owed = replicate TILL_CELLS false

-- how many tills are owed
abbrev pub tills_owed : List Bool → ℕ
tills_owed owed = count_by (λ o. o) owed

-- which tills are owed after such a change of who is signed on: a till that signs on is owed, one
-- that signs off isn't any more
abbrev pub owed_with : Option SignChange → List Bool → List Bool
owed_with (Some (On t)) owed = slice_set owed (t - 1) true
owed_with (Some (Off t)) owed = slice_set owed (t - 1) false
owed_with None owed = owed

-- .. and once an actor's event is answered so
abbrev pub owed_after : Actor → Event → Result Answer Refusal → List Bool → List Bool
owed_after actor event reply owed = owed_with (sign_change actor event reply) owed

-- how many receipts an event asks room for: its own, and that of the sign-off that a SignOn will
-- owe
abbrev pub receipts_asked : Event → ℕ
receipts_asked SignOn = 2
receipts_asked event = 1

-- its receipts and whom it owes are as before
pub record IsAsBefore (old new : ShareFacts) : Type 0 where
  pub receipts : new.receipts ≡ old.receipts
  pub owed : new.owed ≡ old.owed

-- what a share always keeps: it has one part of the ledger of calls, to the amount of its receipts,
-- and room for a sign-off of each till that it owes
pub record IsShare (parts amount : ℕ) (receipts : List Receipt) (owed : List Bool)
    (room : ℕ) : Type 0 where
  pub part : parts ≡ 1
  pub counted : amount ≡ length receipts
  pub reserved : tills_owed owed ≤ room
