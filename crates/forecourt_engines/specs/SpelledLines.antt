-- What a line in words is spelled as.
use Rattle.std.specs.Prelude.{◌≡◌, ℕ, ◌+◌, List, [], ◌∷◌, ◌++◌, ◌⊎◌, Bool, true, false}
use Rattle.std.specs.Prelude.{Option, Some, None, nat_lt, unwrap_or, if◌then◌else◌}
use Rattle.site_base.specs.declared.actor.Actor.{Actor}
use Rattle.site_base.specs.declared.event.Event.{Event}
use Rattle.app_message.specs.Telegram.{Telegram}
use Rattle.device_map.specs.Laws.{AsksFor, is_own}
use Rattle.hex_lines.specs.Lines.{line_of}
use Rattle.forecourt_engines.specs.AskedText.{IsAskedText}
use Rattle.forecourt_engines.specs.LineWords.{is_comment}

-- the token behind this one: they rise to 31, and then begin with 1 again
abbrev pub token_behind : ℕ → ℕ
token_behind token = if nat_lt token 31 then token + 1 else 1

-- the next token that isn't named, behind a line that names this one, or none
abbrev pub token_then : Option ℕ → ℕ → ℕ
token_then None next = token_behind next
token_then (Some token) next = next

-- the line says no event of an actor
abbrev pub SaysNothing : List ℕ → Type 0
SaysNothing line =
    (actor : Actor) (event : Event) (token : Option ℕ) → ¬ IsAskedText line actor event token

-- it says an event that isn't of its actor's kind: a till doesn't report, and a dispenser does
-- nothing else
pub record SaysAnothers (line : List ℕ) : Type 0 where
  pub actor : Actor
  pub event : Event
  pub token : Option ℕ
  pub said : IsAskedText line actor event token
  pub other : is_own actor event ≡ false

-- a line that is refused: no comment, and what it says is no event, or one of another kind's actor
pub record AsksNothing (line : List ℕ) : Type 0 where
  pub plain : is_comment line ≡ false
  pub says : SaysNothing line ⊎ SaysAnothers line

-- behind the text stands the line of the one request that the line asks for, with the token that it
-- names, or else the next one
pub record SpellsRequest (line : List ℕ) (next after : ℕ) (old new : List ℕ) : Type 0 where
  pub actor : Actor
  pub event : Event
  pub token : Option ℕ
  pub request : Telegram
  pub said : IsAskedText line actor event token
  pub asks : AsksFor (unwrap_or token next) actor event request
  pub text : new ≡ old ++ line_of request
  pub rises : after ≡ token_then token next

-- behind the text stands the line as it is
pub record Repeats (line : List ℕ) (next after : ℕ) (old new : List ℕ) : Type 0 where
  pub text : new ≡ old ++ (line ++ 10 ∷ [])
  pub stays : after ≡ next

-- a comment is repeated, any other line is spelled
abbrev pub SpellsAs : Bool → List ℕ → ℕ → ℕ → List ℕ → List ℕ → Type 0
SpellsAs true line next after old new = Repeats line next after old new
SpellsAs false line next after old new = SpellsRequest line next after old new

abbrev pub Spells : List ℕ → ℕ → ℕ → List ℕ → List ℕ → Type 0
Spells line next after old new = SpellsAs (is_comment line) line next after old new
