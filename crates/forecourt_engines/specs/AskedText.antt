-- What a line in words asks for, and the request that it is spelled as.
use Rattle.std.specs.Prelude.{◌≡◌, ℕ, ◌<◌, List, [], ◌∷◌, ◌++◌, codes, decimal, Option, Some, None}
use Rattle.site_base.specs.declared.actor.Actor.{Actor}
use Rattle.site_base.specs.declared.event.Event.{Event}
use Rattle.forecourt_engines.specs.EventNames.{IsRequestText}
use Rattle.forecourt_engines.specs.LineWords.{words_in}
use Rattle.forecourt_engines.specs.Numbers.{IsWithout}

-- the words of a token
abbrev pub IsTokenText : List (List ℕ) → ℕ → Type 0
IsTokenText words token = (words ≡ codes "token" ∷ decimal token ∷ []) × (token < 32)

-- a request's words, a comma, and a token's words
pub record IsWithToken (text : List ℕ) (actor : Actor) (event : Event) (token : ℕ) : Type 0 where
  pub front : List ℕ
  pub back : List ℕ
  pub parts : text ≡ front ++ (44 ∷ back)
  pub first : IsWithout 44 front
  pub request : IsRequestText (words_in front) actor event
  pub told : IsTokenText (words_in back) token

-- a request's words, and a token where one is named
abbrev pub IsAskedText : List ℕ → Actor → Event → Option ℕ → Type 0
IsAskedText text actor event None =
    IsWithout 44 text × IsRequestText (words_in text) actor event
IsAskedText text actor event (Some token) = IsWithToken text actor event token
