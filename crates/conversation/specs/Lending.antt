-- What is asked through references: of each the value is seen, and its name.
use Rattle.std.specs.Prelude.{◌≡◌}
use Rattle.site_base.specs.declared.actor.Actor.{Actor}
use Rattle.site_base.specs.declared.event.Event.{Event}
use Rattle.peer_talk.specs.Exchanges.{Outcome}

-- the values led from one to the other, and the references stayed
abbrev pub Lent : {S N : Type 0} → (S → Actor → Event → Outcome → S → Type 0) → S × N → Actor
    → Event → Outcome → S × N → Type 0
Lent R old actor event outcome new =
    R old.0 actor event outcome new.0 × (new.1 ≡ old.1)
