-- The text of a session: what is written for the messages that are read and the answers that are
-- given, in order, and why it ends.
use Rattle.std.specs.Prelude.{ℕ, Bool, true, false, not, List, [], ◌∷◌, ◌++◌, slice_index, ◌==◌}
use Rattle.std.specs.Prelude.{◌&&◌, ◌||◌, Option, Some, None, Result, Ok, Err, if◌then◌else◌}
use Rattle.site_base.specs.declared.actor.Actor.{Actor}
use Rattle.site_base.specs.declared.event.Event.{Event}
use Rattle.site_base.specs.Refusals.{no_row_number}
use Rattle.app_message.specs.declared.fault.StreamFault.{StreamFault}
use Rattle.app_message.specs.Numbers.{grammar_number}
use Rattle.app_message.specs.Spelling.{spelling}
use Rattle.app_message.specs.Stream.{Stream}
use Rattle.app_message.specs.Telegram.{Telegram}
use Rattle.device_map.specs.declared.fault.MapFault.{MapFault}
use Rattle.device_map.specs.Faults.{map_number}
use Rattle.device_map.specs.Replies.{fault_message, number_message, reply_message}
use Rattle.device_map.specs.Requests.{request_at}
use Rattle.peer_talk.specs.declared.fault.TheConstants.{ORIGINATOR_CHANGED}
use Rattle.peer_talk.specs.declared.fault.TalkFault.{TalkFault}
use Rattle.peer_talk.specs.declared.fault.TalkFault.TheVariants as faults
use Rattle.peer_talk.specs.declared.talk.Meaning.{Meaning}
use Rattle.peer_talk.specs.declared.talk.Meaning.TheVariants as meanings
use Rattle.peer_talk.specs.Exchanges.{Outcome}

-- ---- whom a session serves

-- the same subnet and the same node
abbrev pub is_same_node : List ℕ → List ℕ → Bool
is_same_node a b = slice_index a 0 == slice_index b 0 && slice_index a 1 == slice_index b 1

-- it comes from another than the one whom the session serves; before the first message that is
-- nobody
abbrev pub is_another : Option (List ℕ) → List ℕ → Bool
is_another None from = false
is_another (Some peer) from = not (is_same_node peer from)

-- a session serves the originator of its first message
abbrev pub peer_after : Option (List ℕ) → List ℕ → Option (List ℕ)
peer_after None from = Some from
peer_after (Some peer) from = Some peer

-- ---- what a message means

-- a request, or the fault of a message that means no event
abbrev pub as_meaning : Result (Actor × Event) MapFault → Meaning
as_meaning (Ok request) = meanings.Request request.0 request.1
as_meaning (Err f) = meanings.Fault f

-- what a message means to a session that serves this originator
abbrev pub meaning_at : Option (List ℕ) → Telegram → Meaning
meaning_at peer m =
    if is_another peer m.from then meanings.Another else as_meaning (request_at m)

-- ---- what is said to a message

-- a message that is told this number in place of a reply
abbrev pub number_text : Telegram → ℕ → List ℕ
number_text m number = spelling (number_message m number)

-- the message that tells what a request was answered: its reply, or why there is no row
abbrev pub outcome_message : Telegram → Outcome → Telegram
outcome_message m (Ok reply) = reply_message m reply
outcome_message m (Err no_row) = number_message m (no_row_number no_row)

-- a request that was answered so
abbrev pub outcome_text : Telegram → Outcome → List ℕ
outcome_text m outcome = spelling (outcome_message m outcome)

-- a message that means this, and what follows: the mapping's fault, or the next answer; nothing
-- more where there is no answer
abbrev pub said_to : Telegram → Result (Actor × Event) MapFault → List Outcome
    → (List Outcome → List ℕ) → List ℕ
said_to m (Err f) answers on = number_text m (map_number f) ++ on answers
said_to m (Ok request) [] on = []
said_to m (Ok request) (a ∷ answers) on = outcome_text m a ++ on answers

-- Messages in order, and then what stands last. Another originator is told so, and nothing follows.
abbrev pub messages_text : List ℕ → Option (List ℕ) → List Telegram → List Outcome → List ℕ
messages_text last peer [] answers = last
messages_text last peer (m ∷ ms) answers =
    if is_another peer m.from then number_text m ORIGINATOR_CHANGED
    else said_to m (request_at m) answers (messages_text last (peer_after peer m.from) ms)

-- the refusal of a stream's fault
abbrev pub refusal_text : Option StreamFault → List ℕ
refusal_text None = []
refusal_text (Some f) = spelling (fault_message f)

-- the text of a session that reads this stream, and whose requests are given these answers
abbrev pub session_text : Stream → List Outcome → List ℕ
session_text s answers = messages_text (refusal_text s.fault) None s.messages answers

-- ---- which requests there are, and why it ends

abbrev pub requests_then : Result (Actor × Event) MapFault → List (Actor × Event)
    → List (Actor × Event)
requests_then (Err f) requests = requests
requests_then (Ok request) requests = request ∷ requests

-- the requests among messages, in order, before another originator speaks
abbrev pub requests_in : Option (List ℕ) → List Telegram → List (Actor × Event)
requests_in peer [] = []
requests_in peer (m ∷ ms) =
    if is_another peer m.from then []
    else requests_then (request_at m) (requests_in (peer_after peer m.from) ms)

-- another originator speaks
abbrev pub changes_in : Option (List ℕ) → List Telegram → Bool
changes_in peer [] = false
changes_in peer (m ∷ ms) = is_another peer m.from || changes_in (peer_after peer m.from) ms

abbrev pub session_requests : Stream → List (Actor × Event)
session_requests s = requests_in None s.messages

-- octets of a message that doesn't come
abbrev pub left_over : List ℕ → Option TalkFault
left_over [] = None
left_over (b ∷ rest) = Some faults.Truncated

-- another originator, else the stream's fault, else octets that are left
abbrev pub fault_by : Bool → Option StreamFault → List ℕ → Option TalkFault
fault_by true f rest = Some faults.OriginatorChanged
fault_by false (Some f) rest = Some (faults.Stream f.fault)
fault_by false None rest = left_over rest

-- why the text of this stream ends, if not well
abbrev pub session_fault : Stream → Option TalkFault
session_fault s = fault_by (changes_in None s.messages) s.fault s.rest

-- the number by which a fault that ends a session is told
abbrev pub talk_number : TalkFault → ℕ
talk_number (faults.Stream f) = grammar_number f
talk_number faults.OriginatorChanged = ORIGINATOR_CHANGED
talk_number faults.Truncated = 44
