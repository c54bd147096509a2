-- A session at the station's book: what it keeps, and what octets do to it and to the book.
--
-- Where memory is wanting nothing is half done: a request makes no row, or a message isn't told
-- anything and its session ends. `Granted` and `Grants` say where memory was had.
use Rattle.std.specs.Prelude.{ℕ, Bool, true, false, ◌&&◌, is_none, nat_lt, List, [], ◌∷◌}
use Rattle.std.specs.Prelude.{◌++◌, length, Option, Some, None, if◌then◌else◌}
use Rattle.site_base.specs.declared.actor.Actor.{Actor}
use Rattle.site_base.specs.declared.actor.Actor.TheVariants.{Till}
use Rattle.site_base.specs.declared.event.Event.{Event}
use Rattle.site_base.specs.declared.event.Event.TheVariants.{SignOff}
use Rattle.devices.specs.Devices.{one_more}
use Rattle.app_message.specs.declared.fault.StreamFault.{StreamFault}
use Rattle.app_message.specs.Spelling.{spelling}
use Rattle.app_message.specs.Stream.{Held, Stream, fed_by, held_part, held_after}
use Rattle.app_message.specs.Telegram.{Telegram}
use Rattle.device_map.specs.Faults.{map_number}
use Rattle.device_map.specs.Replies.{fault_message}
use Rattle.written_site.specs.SiteState.{is_signed_on}
use Rattle.site_book.specs.Book.{Book, site_of_book, with_row_of}
use Rattle.peer_talk.specs.declared.fault.TalkFault.{TalkFault}
use Rattle.peer_talk.specs.declared.fault.TalkFault.TheVariants as talk
use Rattle.peer_talk.specs.declared.fault.TheConstants.{ORIGINATOR_CHANGED}
use Rattle.peer_talk.specs.declared.talk.Meaning.{Meaning}
use Rattle.peer_talk.specs.declared.talk.Meaning.TheVariants as meanings
use Rattle.peer_talk.specs.Exchanges.{Outcome, signed_by}
use Rattle.conversation.specs.Books.{outcome_at, with_outcome}
use Rattle.peer_talk.specs.Talks.{TalkState, opening_talk}
use Rattle.peer_talk.specs.Text.{left_over, meaning_at, number_text, outcome_text, peer_after}
use Rattle.station.specs.declared.gates.Admission.{Admission}
use Rattle.station.specs.declared.gates.Admission.TheVariants as admissions
use Rattle.station.specs.declared.peer_end.PeerEnd.{PeerEnd}
use Rattle.station.specs.declared.peer_end.PeerEnd.TheVariants as ends
use Rattle.station.specs.declared.sizes.TheConstants.{READ_LIMIT}
use Rattle.station.specs.Notices.{standing_text}

-- the node at whose door the peer came, if it came at one; the octets of a message to come, the
-- talk, the octets that the peer hasn't taken yet, and how the session ended, if it did
pub record Session : Type 0 where
  pub door : Option (List ℕ)
  pub held : Held
  pub talk : TalkState
  pub owed : List ℕ
  pub end : Option PeerEnd

-- of a peer that has said nothing
abbrev pub opening_session : Option (List ℕ) → Session
opening_session door = record {
  door = door;
  held = held_after [];
  talk = opening_talk;
  owed = [];
  end = None;
}

-- it lasts, and its peer takes what it is owed: it is read from
abbrev pub is_read : Session → Bool
is_read x = is_none x.end && nat_lt (length x.owed) READ_LIMIT

-- the book, and one session at it
pub record Turn : Type 0 where
  pub book : Book
  pub session : Session

-- ---- how a session ends

-- the till that a session signed on and didn't sign off is signed off, where it is signed on
abbrev pub without_till : Option ℕ → Book → Book
without_till None b = b
without_till (Some t) b =
    if is_signed_on (site_of_book b) t then with_row_of b (Till t) SignOff else b

-- the session ends so, and leaves its till
abbrev pub end_session : PeerEnd → Turn → Turn
end_session end t = record {
  book = without_till t.session.talk.on t.book;
  session = record t.session { end = Some end };
}

abbrev pub no_memory : PeerEnd
no_memory = ends.NoMemory

-- the end where the peer's octets end: inside a message or not
abbrev pub end_by : Option TalkFault → PeerEnd
end_by None = ends.Well
end_by (Some f) = ends.Talk f

-- the session ends at the end of its peer's octets
abbrev pub finish : Turn → Turn
finish t = end_session (end_by (left_over t.session.held.rest)) t

-- ---- what a message does

-- was there memory for a request's row, and for what a message is told
pub record Granted : Type 0 where
  pub row : Bool
  pub text : Bool

abbrev pub full_grant : Granted
full_grant = record { row = true; text = true }

-- the peer is owed these octets too
abbrev pub with_text : List ℕ → Turn → Turn
with_text text t = record t { session = record t.session { owed = t.session.owed ++ text } }

-- .. where there is memory for them; else its session ends
abbrev pub tell : Bool → List ℕ → Turn → Turn
tell true text t = with_text text t
tell false text t = end_session no_memory t

-- .. and the session ends with them
abbrev pub tell_last : Bool → List ℕ → PeerEnd → Turn → Turn
tell_last true text end t = end_session end (with_text text t)
tell_last false text end t = end_session no_memory t

-- the session serves the originator of its first message
abbrev pub serve : List ℕ → Turn → Turn
serve from t =
    let talk = record t.session.talk { peer = peer_after t.session.talk.peer from } in
    record t { session = record t.session { talk = talk } }

-- a request was answered so
abbrev pub ask : Actor → Event → Outcome → Turn → Turn
ask actor event outcome t =
    let talk = record t.session.talk {
      on = signed_by actor event outcome t.session.talk.on;
      asked = one_more t.session.talk.asked;
    } in
    record {
      book = with_outcome actor event outcome t.book;
      session = record t.session { talk = talk };
    }

-- behind what the first message is told stand the standing notices of its originator
abbrev pub opening_text : Option (List ℕ) → List ℕ → Book → List ℕ
opening_text None from b = standing_text b from
opening_text (Some peer) from b = []

-- a request of one whom the session serves is answered so; before the message it served this peer
abbrev pub answer_so : Bool → Telegram → Actor → Event → Outcome → Option (List ℕ) → Turn → Turn
answer_so memory m actor event outcome before t =
    let after = ask actor event outcome t in
    tell memory (outcome_text m outcome ++ opening_text before m.from after.book) after

-- a message that means this
abbrev pub answer_meaning : Granted → Telegram → Meaning → Turn → Turn
answer_meaning g m meanings.Another t =
    tell_last g.text (number_text m ORIGINATOR_CHANGED) (ends.Talk
    talk.OriginatorChanged) t
answer_meaning g m (meanings.Fault f) t =
    tell g.text (number_text m (map_number f) ++ opening_text t.session.talk.peer m.from t.book)
    (serve m.from t)
answer_meaning g m (meanings.Request actor event) t =
    answer_so g.text m actor event (outcome_at g.row t.book actor event) t.session.talk.peer
    (serve m.from t)

-- a message is answered, if the session lasts
abbrev pub answer : Granted → Telegram → Turn → Turn
answer g m t =
    if is_none t.session.end then answer_meaning g m (meaning_at t.session.talk.peer m) t else t

-- messages are answered, one after another; memory was had where nothing is said of it
abbrev pub answer_all : List Granted → List Telegram → Turn → Turn
answer_all gs [] t = t
answer_all [] (m ∷ ms) t = answer_all [] ms (answer full_grant m t)
answer_all (g ∷ gs) (m ∷ ms) t = answer_all gs ms (answer g m t)

-- was there memory for a piece, for its messages, for what a first message is told that isn't
-- heard, and for the refusal of the piece's fault
pub record Grants : Type 0 where
  pub piece : Bool
  pub messages : List Granted
  pub first : Bool
  pub refusal : Bool

abbrev pub all_granted : Grants
all_granted = record { piece = true; messages = []; first = true; refusal = true }

-- ---- a session's first message

-- The first message of a session is answered, and those behind it; or its originator may not speak
-- there, and is told so; or it has as many sessions as it may, and is told nothing. Then the
-- session ends.
abbrev pub admit_first : Admission → Bool → List Granted → Telegram → List Telegram → Turn → Turn
admit_first admissions.Welcome memory gs m ms t = answer_all gs (m ∷ ms) t
admit_first admissions.Barred memory gs m ms t =
    tell_last memory (number_text m ORIGINATOR_CHANGED) (ends.Barred m.from) t
admit_first admissions.Crowded memory gs m ms t = end_session (ends.Crowded m.from) t

-- messages are answered; the first one of a session, if its originator is admitted
abbrev pub admit : (List ℕ → Admission) → Bool → List Granted → List Telegram → Turn → Turn
admit admits memory gs [] t = t
admit admits memory gs (m ∷ ms) t =
    if is_none t.session.talk.peer
    then admit_first (admits m.from) memory gs m ms t
    else answer_all gs (m ∷ ms) t

-- ---- what octets do

-- the stream's fault is refused, and the session ends with it, if it lasts
abbrev pub refuse_by : Bool → Option StreamFault → Turn → Turn
refuse_by memory None t = t
refuse_by memory (Some f) t =
    if is_none t.session.end
    then tell_last memory (spelling (fault_message f)) (ends.Talk
    (talk.Stream f.fault)) t
    else t

-- the messages that a piece brings are answered, and then its fault is refused
abbrev pub take_messages : (List ℕ → Admission) → Grants → Stream → Turn → Turn
take_messages admits g fed t =
    refuse_by g.refusal fed.fault
    (admit admits g.first g.messages fed.messages
    (record t { session = record t.session { held = held_part fed } }))

-- a session that lasts hears a piece; where there is no memory for it, it ends
abbrev pub hear : (List ℕ → Admission) → Grants → List ℕ → Turn → Turn
hear admits g piece t =
    if g.piece
    then take_messages admits g (fed_by t.session.held piece) t
    else end_session no_memory t
