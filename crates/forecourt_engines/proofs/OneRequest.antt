-- A line asks for one thing: with a token where it has a comma.
use Rattle.std.proofs.Common.{◌≡◌, ℕ, List, ◌∷◌, ◌++◌, Option, Some, None, sym, subst, ◌∙◌}
use Rattle.site_base.specs.declared.actor.Actor.{Actor}
use Rattle.site_base.specs.declared.event.Event.{Event}
use Rattle.forecourt_engines.specs.AskedText.{IsAskedText, IsTokenText}
use Rattle.forecourt_engines.specs.EventNames.{IsRequestText}
use Rattle.forecourt_engines.specs.LineWords.{words_in}
use Rattle.forecourt_engines.specs.Numbers.{IsWithout}
use Rattle.forecourt_engines.proofs.TextParts.{parts_are, unparted}

-- without a comma, and words that say nothing
pub nothing_asked : (text : List ℕ) → IsWithout 44 text
    → ((actor : Actor) (event : Event) → ¬ IsRequestText (words_in text) actor event)
    → (actor : Actor) (event : Event) (token : Option ℕ) → ¬ IsAskedText text actor event token
nothing_asked text apart none actor event None said = none actor event said.1
nothing_asked text apart none actor event (Some token) said =
    unparted 44 said.front said.back text said.parts apart

-- with a comma, and words before it that say nothing
pub nothing_before : (text front back : List ℕ) → text ≡ front ++ (44 ∷ back)
    → IsWithout 44 front
    → ((actor : Actor) (event : Event) → ¬ IsRequestText (words_in front) actor event)
    → (actor : Actor) (event : Event) (token : Option ℕ) → ¬ IsAskedText text actor event token
nothing_before text front back is apart none actor event None said =
    unparted 44 front back text is said.0
nothing_before text front back is apart none actor event (Some token) said =
    let same = parts_are 44 said.front said.back front back said.first apart
    (sym said.parts ∙ is) in
    none actor event
    (subst (λ (t : List ℕ). IsRequestText (words_in t) actor event) same.0 said.request)

-- with a comma, and words behind it that are no token's
pub no_token : (text front back : List ℕ) → text ≡ front ++ (44 ∷ back) → IsWithout 44 front
    → ((token : ℕ) → ¬ IsTokenText (words_in back) token)
    → (actor : Actor) (event : Event) (token : Option ℕ) → ¬ IsAskedText text actor event token
no_token text front back is apart none actor event None said =
    unparted 44 front back text is said.0
no_token text front back is apart none actor event (Some token) said =
    let same = parts_are 44 said.front said.back front back said.first apart
    (sym said.parts ∙ is) in
    none token (subst (λ (t : List ℕ). IsTokenText (words_in t) token) same.1 said.told)
