-- A talk in its course: what is known of a peer between two messages, and what some messages lead
-- to.
use Rattle.std.specs.Prelude.{◌≡◌, ℕ, true, List, ◌++◌, map, slice_index, Option, Some, None}
use Rattle.std.specs.Prelude.{◌==◌, if◌then◌else◌}
use Rattle.site_base.specs.declared.actor.Actor.{Actor}
use Rattle.site_base.specs.declared.actor.Actor.TheVariants.{Till, Dispenser}
use Rattle.site_base.specs.declared.event.Event.{Event}
use Rattle.app_message.specs.Telegram.{Telegram}
use Rattle.device_map.specs.declared.ids.TheConstants.{DISPENSER_SUBNET, TILL_SUBNET}
use Rattle.peer_talk.specs.declared.talk.Meaning.{Meaning}
use Rattle.peer_talk.specs.declared.talk.Meaning.TheVariants as meanings
use Rattle.peer_talk.specs.Exchanges.{Asked, Outcome, outcome_given, request_asked}
use Rattle.peer_talk.specs.Text.{changes_in, messages_text, requests_in}

-- whom it serves, the till that it signed on and didn't sign off, and the number of requests asked
pub record TalkState : Type 0 where
  pub peer : Option (List ℕ)
  pub on : Option ℕ
  pub asked : ℕ

-- before the first message
abbrev pub opening_talk : TalkState
opening_talk = record { peer = None; on = None; asked = 0 }

-- the till that it signed on, unless it is this one, which somebody else has signed off
abbrev pub without_on : ℕ → Option ℕ → Option ℕ
without_on t None = None
without_on t (Some on) = if on == t then None else Some on

-- the till that it signed on is the one that it serves: it speaks from that till's node
abbrev pub IsOwn : Option ℕ → Option (List ℕ) → Type 0
IsOwn None peer = Unit {0}
IsOwn (Some t) None = ⊥
IsOwn (Some t) (Some node) = (slice_index node 0 ≡ TILL_SUBNET) × (slice_index node 1 ≡ t)

-- a till or dispenser that speaks is the one that the session serves
abbrev pub IsSpokenBy : Actor → Option (List ℕ) → Type 0
IsSpokenBy (Till t) peer = IsOwn (Some t) peer
IsSpokenBy (Dispenser p) None = ⊥
IsSpokenBy (Dispenser p) (Some node) =
    (slice_index node 0 ≡ DISPENSER_SUBNET) × (slice_index node 1 ≡ p)

-- whoever asks so is the one that the session serves
abbrev pub IsRequestOf : Option (List ℕ) → Meaning → Type 0
IsRequestOf peer (meanings.Request actor event) = IsSpokenBy actor peer
IsRequestOf peer meaning = Unit {0}

-- these messages were answered, and the text goes on behind what was said
pub record GoesOn (peer peer' : Option (List ℕ)) (ms : List Telegram) (asked : List Asked)
    (said : List ℕ) : Type 0 where
  pub text : (last : List ℕ) (later : List Telegram) (more : List Outcome)
      → messages_text last peer (ms ++ later) (map outcome_given asked ++ more)
      ≡ said ++ messages_text last peer' later more
  pub requests : (later : List Telegram)
      → requests_in peer (ms ++ later) ≡ map request_asked asked ++ requests_in peer' later
  pub changes : (later : List Telegram) → changes_in peer (ms ++ later) ≡ changes_in peer' later

-- one of these messages came from another originator, and nothing follows what was said
pub record IsOver (peer : Option (List ℕ)) (ms : List Telegram) (asked : List Asked)
    (said : List ℕ) : Type 0 where
  pub text : (last : List ℕ) (later : List Telegram) (more : List Outcome)
      → messages_text last peer (ms ++ later) (map outcome_given asked ++ more) ≡ said
  pub requests : (later : List Telegram) → requests_in peer (ms ++ later) ≡ map request_asked asked
  pub changes : (later : List Telegram) → changes_in peer (ms ++ later) ≡ true

-- the text of these messages begins with what was said
pub record IsCut (peer : Option (List ℕ)) (ms : List Telegram) (asked : List Asked)
    (said : List ℕ) : Type 0 where
  pub text : (last : List ℕ) (later : List Telegram)
      → (rest : List ℕ) × (messages_text last peer (ms ++ later) (map outcome_given asked) ≡ said
      ++ rest)
  pub requests : (later : List Telegram) → (rest : List (Actor × Event))
      × (requests_in peer (ms ++ later) ≡ map request_asked asked ++ rest)
