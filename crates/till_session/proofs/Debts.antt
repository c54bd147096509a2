-- What a counter owes while a session lasts: the till that is signed on, and no other.
use Rattle.std.proofs.Common.{◌≡◌, ℕ, Bool, true, false, cond, List, Option, Some, None, Ok, Err}
use Rattle.std.proofs.Common.{refl, sym, ◌∙◌}
use Rattle.std.specs.Prelude.{◌&&◌, ◌==◌, IfSome}
use Rattle.std.proofs.lemmas.Bool.{eq-eqb}
use Rattle.site_base.specs.declared.actor.Actor.{Actor}
use Rattle.site_base.specs.declared.actor.Actor.TheVariants.{Till}
use Rattle.site_base.specs.declared.event.Event.{Event}
use Rattle.site_base.specs.declared.event.Event.TheVariants.{SignOn, SignOff}
use Rattle.peer_talk.specs.Exchanges.{Outcome, signed_by}
use Rattle.peer_talk.specs.Talks.{IsOwn, IsSpokenBy}
use Rattle.till_session.specs.Counters.{is_the_one, owed_by}

same_number : (t : ℕ) → (t == t) ≡ true
same_number t = eq-eqb t t refl

-- the till that is signed on is owed
pub still_owed : (actor : Actor) (event : Event) (outcome : Outcome) (on : Option ℕ)
    (owes : ℕ → Bool)
    → IfSome on (λ t. owes t ≡ true)
    → IfSome (signed_by actor event outcome on) (λ t. owed_by actor event outcome owes t ≡ true)
still_owed (Till t) SignOn (Ok (Ok answer)) on owes owed = rw (same_number t) refl
still_owed (Till t) SignOff (Ok (Ok answer)) on owes owed = tt
still_owed actor event (Ok (Ok answer)) on owes owed = owed
still_owed (Till t) SignOn (Ok (Err refusal)) on owes owed = owed
still_owed (Till t) SignOff (Ok (Err refusal)) on owes owed = owed
still_owed actor event (Ok (Err refusal)) on owes owed = owed
still_owed actor event (Err no_row) on owes owed = owed

two_tills : (t : ℕ) (on : Option ℕ) (peer : Option (List ℕ)) (u : ℕ) → IsOwn on peer
    → IsOwn (Some t) peer
    → (u == t) ≡ false → is_the_one on u ≡ false
two_tills t None peer u own spoken other = refl
two_tills t (Some s) None u own spoken other = absurd own
two_tills t (Some s) (Some node) u own spoken other =
    let same : s ≡ t = sym own.1 ∙ spoken.1 in rw same other

debt_set : (b owed : Bool) (old : Bool) → (b ≡ false → old ≡ false) → cond b owed old ≡ (b && owed)
debt_set true owed old other = refl
debt_set false owed old other = other refl

and_true : (b : Bool) → (b && true) ≡ b
and_true true = refl
and_true false = refl

and_false : (b : Bool) → (b && false) ≡ false
and_false true = refl
and_false false = refl

-- no other till is owed
pub still_alone : (actor : Actor) (event : Event) (outcome : Outcome) (on : Option ℕ)
    (peer : Option (List ℕ)) (owes : ℕ → Bool)
    → IsOwn on peer → IsSpokenBy actor peer → ((u : ℕ) → owes u ≡ is_the_one on u)
    → (u : ℕ) → owed_by actor event outcome owes u ≡ is_the_one (signed_by actor event outcome on) u
still_alone (Till t) SignOn (Ok (Ok answer)) on peer owes own spoken alone u =
    debt_set (u == t) true (owes u) (λ other. alone u ∙ two_tills t on peer u own spoken other)
    ∙ and_true (u == t)
still_alone (Till t) SignOff (Ok (Ok answer)) on peer owes own spoken alone u =
    debt_set (u == t) false (owes u) (λ other. alone u ∙ two_tills t on peer u own spoken other)
    ∙ and_false (u == t)
still_alone actor event (Ok (Ok answer)) on peer owes own spoken alone u = alone u
still_alone (Till t) SignOn (Ok (Err refusal)) on peer owes own spoken alone u = alone u
still_alone (Till t) SignOff (Ok (Err refusal)) on peer owes own spoken alone u = alone u
still_alone actor event (Ok (Err refusal)) on peer owes own spoken alone u = alone u
still_alone actor event (Err no_row) on peer owes own spoken alone u = alone u
