-- What is said to a message, what is asked for it, and the talk after it.
use Rattle.std.specs.Prelude.{◌≡◌, ℕ, List}
use Rattle.site_base.specs.declared.actor.Actor.{Actor}
use Rattle.site_base.specs.declared.event.Event.{Event}
use Rattle.devices.specs.Devices.{one_more}
use Rattle.app_message.specs.Telegram.{Telegram}
use Rattle.device_map.specs.Faults.{map_number}
use Rattle.device_map.specs.Replies.{number_message}
use Rattle.peer_talk.specs.declared.fault.TheConstants.{ORIGINATOR_CHANGED}
use Rattle.peer_talk.specs.declared.talk.Meaning.{Meaning}
use Rattle.peer_talk.specs.declared.talk.Meaning.TheVariants as meanings
use Rattle.peer_talk.specs.Exchanges.{Outcome, signed_by}
use Rattle.peer_talk.specs.Talks.{TalkState}
use Rattle.peer_talk.specs.Text.{outcome_message, peer_after}
use Rattle.conversation.specs.declared.said.Said.{Said}
use Rattle.conversation.specs.declared.said.Said.TheVariants as says

-- what the message means that this is said to
abbrev pub meaning_of : Said → Meaning
meaning_of says.Another = meanings.Another
meaning_of (says.Fault f) = meanings.Fault f
meaning_of (says.Outcome actor event outcome) = meanings.Request actor event

-- the message that says it
abbrev pub said_message : Telegram → Said → Telegram
said_message m says.Another = number_message m ORIGINATOR_CHANGED
said_message m (says.Fault f) = number_message m (map_number f)
said_message m (says.Outcome actor event outcome) = outcome_message m outcome

-- for a request it was asked once, with this outcome; else nothing was asked
abbrev pub IsAskedFor : {S : Type 0} → (S → Actor → Event → Outcome → S → Type 0) → S → Said → S
    → Type 0
IsAskedFor R old (says.Outcome actor event outcome) new = R old actor event outcome new
IsAskedFor R old said new = new ≡ old

-- a talk where this was said: a request is counted, and may sign its till on or off
abbrev pub talk_with : Said → TalkState → TalkState
talk_with (says.Outcome actor event outcome) t = record t {
  on = signed_by actor event outcome t.on;
  asked = one_more t.asked;
}
talk_with said t = t

-- .. to a message from this node: it serves the originator of its first message
abbrev pub talk_after : List ℕ → Said → TalkState → TalkState
talk_after from said t = talk_with said (record t { peer = peer_after t.peer from })
