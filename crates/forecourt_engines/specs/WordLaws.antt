-- What a line in words asks for is one thing.
use Rattle.std.specs.Prelude.{◌≡◌, ℕ, List, Option}
use Rattle.site_base.specs.declared.actor.Actor.{Actor}
use Rattle.site_base.specs.declared.event.Event.{Event}
use Rattle.forecourt_engines.specs.AskedText.{IsAskedText}
use Rattle.forecourt_engines.specs.SpelledLines.{Spells}

-- whatever a line asks for, it asks for nothing else
abbrev pub AsksForOneThing : Type 0
AsksForOneThing = (line : List ℕ) (actor other : Actor) (event another : Event)
    (token named : Option ℕ) → IsAskedText line actor event token
    → IsAskedText line other another named → (actor ≡ other) × (event ≡ another) × (token ≡ named)

-- so it is spelled in one way, and one token is next behind it
abbrev pub IsSpelledInOneWay : Type 0
IsSpelledInOneWay = (line : List ℕ) (next after later : ℕ) (old new other : List ℕ)
    → Spells line next after old new → Spells line next later old other
    → (new ≡ other) × (after ≡ later)
