-- What is done while a session is heard: how far its turn has come, and whom its rows were told.
use Rattle.std.specs.Prelude.{◌≡◌, ℕ, Bool, List, length, Option, is_none, if◌then◌else◌}
use Rattle.site_base.specs.declared.actor.Actor.{Actor}
use Rattle.site_base.specs.declared.event.Event.{Event}
use Rattle.app_message.specs.Telegram.{Telegram}
use Rattle.site_book.specs.Book.{Book}
use Rattle.peer_talk.specs.declared.fault.TalkFault.TheVariants as talk
use Rattle.peer_talk.specs.Exchanges.{Outcome, row_made}
use Rattle.conversation.specs.declared.said.Said.{Said}
use Rattle.conversation.specs.declared.said.Said.TheVariants as says
use Rattle.conversation.specs.Books.{IsAskedOf}
use Rattle.station.specs.declared.peer.Peer.{Peer}
use Rattle.station.specs.declared.peer_end.PeerEnd.TheVariants as ends
use Rattle.station.specs.Moves.{rows_since}
use Rattle.station.specs.Peers.{with_notices}
use Rattle.station.specs.PeerViews.{session_of}
use Rattle.station.specs.declared.gates.Admission.{Admission}
use Rattle.station.specs.Sessions.{Granted, Grants, Session, Turn, admit, answer, answer_all}
use Rattle.station.specs.Sessions.{end_session, finish, hear}

abbrev pub turn_of : Book → Peer → Turn
turn_of book peer = record { book = book; session = session_of peer }

-- a session ends at the end of its octets, if it lasts
abbrev pub finish_if : Turn → Turn
finish_if t = if is_none t.session.end then finish t else t

-- what a request is asked of: the book, and the other peers
pub record Among : Type 0 where
  pub book : Book
  pub others : List (Option Session)

abbrev pub among : Book → List (Option Session) → Among
among book others = record { book = book; others = others }

-- it was asked at the book, and the others are told of its row
abbrev pub IsAskedAmong : Among → Actor → Event → Outcome → Among → Type 0
IsAskedAmong old actor event outcome new =
    IsAskedOf old.book actor event outcome new.book
    × (new.others ≡ with_notices (row_made actor event outcome) old.others)

-- after what was said to a message the session goes on; if another originator spoke, it ends
abbrev pub end_behind : Said → Turn → Turn
end_behind says.Another t = end_session (ends.Talk talk.OriginatorChanged) t
end_behind said t = t

-- the others are told of the rows that a book got
abbrev pub AreTold : Book → Book → List (Option Session) → List (Option Session) → Type 0
AreTold old new others others' = others' ≡ with_notices (rows_since old new) others

-- a message is answered, and the others are told of the row
pub record Answers (m : Telegram) (old new : Turn) (others others' : List (Option Session)) :
    Type 0 where
  pub memory : Granted
  pub turn : new ≡ answer memory m old
  pub told : others' ≡ with_notices (rows_since old.book new.book) others

-- messages are answered, and the others are told of the rows
pub record AnswersAll (ms : List Telegram) (old new : Turn)
    (others others' : List (Option Session)) : Type 0 where
  pub memory : List Granted
  pub each : length memory ≡ length ms
  pub turn : new ≡ answer_all memory ms old
  pub told : others' ≡ with_notices (rows_since old.book new.book) others

-- messages are answered, the first one of a session if its originator is admitted, and the others
-- are told of the rows
pub record Admits (admits : List ℕ → Admission) (ms : List Telegram) (old new : Turn)
    (others others' : List (Option Session)) : Type 0 where
  pub first : Bool
  pub memory : List Granted
  pub turn : new ≡ admit admits first memory ms old
  pub told : others' ≡ with_notices (rows_since old.book new.book) others

-- a piece is heard, and the others are told of the rows
pub record Hears (admits : List ℕ → Admission) (piece : List ℕ) (old new : Turn)
    (others others' : List (Option Session)) : Type 0 where
  pub memory : Grants
  pub turn : new ≡ hear admits memory piece old
  pub told : others' ≡ with_notices (rows_since old.book new.book) others
