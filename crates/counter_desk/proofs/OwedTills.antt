-- How many tills are owed once one of them is set.
use Rattle.std.proofs.Common.{◌≡◌, ℕ, zero, suc, ◌+◌, ◌-◌, ◌<◌, ◌≤◌, Bool, true, false, cond, List}
use Rattle.std.proofs.Common.{[], ◌∷◌, length, set, get_or, Option, Some, None, Result, Ok, refl}
use Rattle.std.proofs.Common.{arith}
use Rattle.std.proofs.lemmas.List.{length-set}
use Rattle.std.proofs.lemmas.List.Sums.{sum_by-cons}
use Rattle.site_base.specs.declared.actor.Actor.{Actor}
use Rattle.site_base.specs.declared.actor.Actor.TheVariants.{Till}
use Rattle.site_base.specs.declared.answer.Answer.{Answer}
use Rattle.site_base.specs.declared.event.Event.{Event}
use Rattle.site_base.specs.declared.event.Event.TheVariants.{SignOn, SignOff}
use Rattle.site_base.specs.declared.refusal.Refusal.{Refusal}
use Rattle.site_base.specs.declared.signing.SignChange.{SignChange}
use Rattle.site_base.specs.declared.signing.SignChange.TheVariants.{On, Off}
use Rattle.site_base.specs.SignChanges.{sign_change}
use Rattle.counter_desk.specs.Shares.{owed_after, owed_with, receipts_asked, tills_owed}

-- no more are owed without one
pub set_fewer : (owed : List Bool) (i : ℕ) → tills_owed (set owed i false) ≤ tills_owed owed
set_fewer [] i = omega arith
set_fewer (true ∷ owed) zero =
    omega (
      arith,
      sum_by-cons (λ (x : Bool). cond x 1 0) false owed,
      sum_by-cons (λ (x : Bool). cond x 1 0) true owed,
    )
set_fewer (false ∷ owed) zero = omega arith
set_fewer (o ∷ owed) (suc i) =
    let rest = set_fewer owed i in
    omega (
      arith,
      rest,
      sum_by-cons (λ (x : Bool). cond x 1 0) o (set owed i false),
      sum_by-cons (λ (x : Bool). cond x 1 0) o owed,
    )

-- one less, where it was owed
pub set_one_fewer : (owed : List Bool) (i : ℕ) → get_or owed i false ≡ true
    → tills_owed (set owed i false) + 1 ≡ tills_owed owed
set_one_fewer [] i is = cc
set_one_fewer (true ∷ owed) zero is =
    omega (
      arith,
      sum_by-cons (λ (x : Bool). cond x 1 0) false owed,
      sum_by-cons (λ (x : Bool). cond x 1 0) true owed,
    )
set_one_fewer (false ∷ owed) zero is = cc
set_one_fewer (o ∷ owed) (suc i) is =
    let rest = set_one_fewer owed i is in
    omega (
      arith,
      rest,
      sum_by-cons (λ (x : Bool). cond x 1 0) o (set owed i false),
      sum_by-cons (λ (x : Bool). cond x 1 0) o owed,
    )

-- at most one more
pub set_one_more : (owed : List Bool) (i : ℕ) → tills_owed (set owed i true) ≤ tills_owed owed + 1
set_one_more [] i = omega arith
set_one_more (true ∷ owed) zero = omega arith
set_one_more (false ∷ owed) zero =
    omega (
      arith,
      sum_by-cons (λ (x : Bool). cond x 1 0) true owed,
      sum_by-cons (λ (x : Bool). cond x 1 0) false owed,
    )
set_one_more (o ∷ owed) (suc i) =
    let rest = set_one_more owed i in
    omega (
      arith,
      rest,
      sum_by-cons (λ (x : Bool). cond x 1 0) o (set owed i true),
      sum_by-cons (λ (x : Bool). cond x 1 0) o owed,
    )

-- there is a cell for each till, as before
cells_with : (change : Option SignChange) (owed : List Bool)
    → length (owed_with change owed) ≡ length owed
cells_with (Some (On t)) owed = length-set owed (t - 1) true
cells_with (Some (Off t)) owed = length-set owed (t - 1) false
cells_with None owed = refl

pub cells_after : (a : Actor) (e : Event) (reply : Result Answer Refusal) (owed : List Bool)
    → length (owed_after a e reply owed) ≡ length owed
cells_after a e reply owed = cells_with (sign_change a e reply) owed

-- what an event asks room for is enough for its receipt and for the tills owed then
pub room_asked : (a : Actor) (e : Event) (reply : Result Answer Refusal) (owed : List Bool)
    → tills_owed (owed_after a e reply owed) < receipts_asked e + tills_owed owed
room_asked (Till t) SignOn (Ok answer) owed = let more =
    set_one_more owed (t - 1) in omega (arith, more)
room_asked (Till t) SignOff (Ok answer) owed = let fewer =
    set_fewer owed (t - 1) in omega (arith, fewer)
room_asked a SignOn reply owed = omega arith
room_asked a e reply owed = omega arith
