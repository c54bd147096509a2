-- What a peer is told: its session text, and notices between.
--
-- The story of a peer is what happened at the station while its session lasted, in order: each of
-- its messages, and each row that wasn't made by one of them. Three readings of a story are the
-- session text, the rows, and what the peer is told.
use Rattle.std.specs.Prelude.{◌≡◌, ◌≢◌, ℕ, Bool, true, false, List, [], ◌∷◌, ◌++◌, map, Option}
use Rattle.std.specs.Prelude.{Some}
use Rattle.std.specs.Prelude.{None, Ok, Err}
use Rattle.site_base.specs.declared.actor.Actor.{Actor}
use Rattle.site_base.specs.declared.event.Event.{Event}
use Rattle.site_base.specs.declared.row.Row.{Row}
use Rattle.site_base.specs.Configured.{Configured}
use Rattle.app_message.specs.Stream.{stream_of}
use Rattle.app_message.specs.Telegram.{Telegram}
use Rattle.device_map.specs.declared.fault.MapFault.{MapFault}
use Rattle.device_map.specs.Requests.{request_at}
use Rattle.site_book.specs.Book.{whole_book}
use Rattle.peer_talk.specs.Exchanges.{Asked, outcome_given, request_asked, rows_made}
use Rattle.peer_talk.specs.Exchanges.{signed_on_after}
use Rattle.peer_talk.specs.declared.fault.TalkFault.TheVariants as talk
use Rattle.peer_talk.specs.declared.fault.TheConstants.{ORIGINATOR_CHANGED}
use Rattle.peer_talk.specs.Text.{messages_text, number_text, peer_after, refusal_text}
use Rattle.peer_talk.specs.Text.{session_requests, session_text}
use Rattle.station.specs.declared.peer_end.PeerEnd.{PeerEnd}
use Rattle.station.specs.declared.peer_end.PeerEnd.TheVariants as ends
use Rattle.station.specs.Notices.{notices_of, octets_of, row_notice, standing_text}
use Rattle.peer_talk.specs.Talks.{without_on}
use Rattle.station.specs.Peers.{row_off}
use Rattle.station.specs.Sessions.{opening_text}

-- a message of the peer, with the request that it is and its answer, if it is one; or a row that
-- somebody else made
pub data Happening : Type 0 where
  Speaks : (message : Telegram) (asked : List Asked) → Happening
  Passes : (row : Row) → Happening

-- the till that a session signed on, behind a row of somebody else that signs this one off
abbrev pub on_behind : Option ℕ → Option ℕ → Option ℕ
on_behind None on = on
on_behind (Some t) on = without_on t on

-- what is said to a message: its part of the session text
abbrev pub reply_to_one : Option (List ℕ) → Telegram → List Asked → List ℕ
reply_to_one peer m asked = messages_text [] peer (m ∷ []) (map outcome_given asked)

-- whom the session serves after a story
abbrev pub peer_in : Option (List ℕ) → List Happening → Option (List ℕ)
peer_in peer [] = peer
peer_in peer (Speaks m asked ∷ story) = peer_in (peer_after peer m.from) story
peer_in peer (Passes r ∷ story) = peer_in peer story

-- the messages of a story
abbrev pub messages_in : List Happening → List Telegram
messages_in [] = []
messages_in (Speaks m asked ∷ story) = m ∷ messages_in story
messages_in (Passes r ∷ story) = messages_in story

-- the requests of a story, with their answers
abbrev pub asked_in : List Happening → List Asked
asked_in [] = []
asked_in (Speaks m asked ∷ story) = asked ++ asked_in story
asked_in (Passes r ∷ story) = asked_in story

-- what was asked with a message is the request that it is, if it is one
abbrev pub IsAskedBy : Telegram → List Asked → Type 0
IsAskedBy m [] = (f : MapFault) × (request_at m ≡ Err f)
IsAskedBy m (a ∷ []) = request_at m ≡ Ok (a.actor, a.event)
IsAskedBy m (a ∷ b ∷ asked) = ⊥

-- .. with each message of a story
abbrev pub AreAsked : List Happening → Type 0
AreAsked [] = Unit {0}
AreAsked (Speaks m asked ∷ story) = IsAskedBy m asked × AreAsked story
AreAsked (Passes r ∷ story) = AreAsked story

-- the rows of a story
abbrev pub rows_in : List Happening → List Row
rows_in [] = []
rows_in (Speaks m asked ∷ story) = rows_made asked ++ rows_in story
rows_in (Passes r ∷ story) = r ∷ rows_in story

-- the till that a session signed on and that nobody signed off, after a story
abbrev pub signed_in : Option ℕ → List Happening → Option ℕ
signed_in on [] = on
signed_in on (Speaks m asked ∷ story) = signed_in (signed_on_after on asked) story
signed_in on (Passes r ∷ story) = signed_in (on_behind (row_off r) on) story

-- what is said to the messages of a story: the session text, as far as the story goes
abbrev pub said_in : Option (List ℕ) → List Happening → List ℕ
said_in peer [] = []
said_in peer (Speaks m asked ∷ story) =
    reply_to_one peer m asked ++ said_in (peer_after peer m.from) story
said_in peer (Passes r ∷ story) = said_in peer story

-- the notices of a story: behind the first message the standing ones, as the point stands then, and
-- the notice of each row that passes behind it
abbrev pub notices_in : Configured → List Row → Option (List ℕ) → List Happening → List ℕ
notices_in c rows peer [] = []
notices_in c rows peer (Speaks m asked ∷ story) =
    opening_text peer m.from (whole_book c (rows ++ rows_made asked))
    ++ notices_in c (rows ++ rows_made asked) (peer_after peer m.from) story
notices_in c rows peer (Passes r ∷ story) =
    octets_of (row_notice peer r) ++ notices_in c (rows ++ r ∷ []) peer story

-- What a peer is told in a story that begins behind these rows: what is said to each message,
-- behind the first one's the standing notices, and the notice of each row that passes.
abbrev pub told_in : Configured → List Row → Option (List ℕ) → List Happening → List ℕ
told_in c rows peer [] = []
told_in c rows peer (Speaks m asked ∷ story) =
    let behind = rows ++ rows_made asked in
    reply_to_one peer m asked ++ opening_text peer m.from (whole_book c behind)
    ++ told_in c behind (peer_after peer m.from) story
told_in c rows peer (Passes r ∷ story) =
    octets_of (row_notice peer r) ++ told_in c (rows ++ r ∷ []) peer story

-- the notices that are due in a story: behind its first message the standing ones, as the point
-- stands then, and then those of each row, whoever made it
abbrev pub notices_due : Configured → List Row → List Happening → List ℕ
notices_due c rows [] = []
notices_due c rows (Speaks m asked ∷ story) =
    standing_text (whole_book c (rows ++ rows_made asked)) m.from
    ++ notices_of (Some m.from) (rows_in story)
notices_due c rows (Passes r ∷ story) = notices_due c (rows ++ r ∷ []) story

-- the session's text is whole: it isn't where memory was wanting, nor where the first message
-- wasn't heard
abbrev pub is_whole : Option PeerEnd → Bool
is_whole (Some (ends.NoMemory)) = false
is_whole (Some (ends.Barred node)) = false
is_whole (Some (ends.Crowded node)) = false
is_whole end = true

-- Each message that was heard is answered, unless memory was wanting, another originator spoke, or
-- the first one wasn't admitted.
abbrev pub is_all_answered : Option PeerEnd → Bool
is_all_answered (Some (ends.NoMemory)) = false
is_all_answered (Some (ends.Talk talk.OriginatorChanged)) = false
is_all_answered (Some (ends.Barred node)) = false
is_all_answered (Some (ends.Crowded node)) = false
is_all_answered end = true

-- The first message wasn't heard: its originator wasn't admitted.
abbrev pub is_unheard : Option PeerEnd → Bool
is_unheard (Some (ends.Barred node)) = true
is_unheard (Some (ends.Crowded node)) = true
is_unheard end = false

-- What a session that ended so is told last, by the refusal of its stream and the messages that
-- weren't answered: another originator that it is another, and so one that may not speak there; a
-- fault of the stream its refusal; else nothing.
abbrev pub refusal_by : Option PeerEnd → List ℕ → List Telegram → List ℕ
refusal_by (Some (ends.Talk talk.OriginatorChanged)) last (m ∷ unanswered) =
    number_text m ORIGINATOR_CHANGED
refusal_by (Some (ends.Barred node)) last (m ∷ unanswered) = number_text m ORIGINATOR_CHANGED
refusal_by (Some (ends.Talk (talk.Stream f))) last unanswered = last
refusal_by end last unanswered = []

-- .. as far as it is of the session's text: the refusal of a first message that wasn't heard stands
-- in its place
abbrev pub refusal_in : Option PeerEnd → List ℕ → List ℕ
refusal_in (Some (ends.Barred node)) refusal = []
refusal_in end refusal = refusal

-- What the peer of a session is told that began behind these rows, where so much was heard of it.
-- There is a story: its messages are the first of those that were heard, in order, each with the
-- request that it is. The rows since are its rows, and late ones: those behind the session's end,
-- and before them the row whose reply found no memory, if there is one. A session that lasts has no
-- late rows. The peer is told the text of its story, and last the refusal of its session's end.
-- What is said in the story is the session text of what was heard, with the answers that its
-- requests were given, all its requests were asked, and the session is signed on as the till that
-- they, and the rows of others, leave signed on; where memory was wanting, or the first message
-- wasn't heard, a front of the text and of the requests. Where the first message wasn't heard, no
-- message is in the story, and this one is the first that wasn't answered. The notices in the story
-- are those that are due.
pub record IsTold (c : Configured) (before after : List Row) (heard octets : List ℕ)
    (on : Option ℕ) (end : Option PeerEnd) : Type 0 where
  pub story : List Happening
  pub unanswered : List Telegram
  pub messages : (stream_of heard).messages ≡ messages_in story ++ unanswered
  pub answered : is_all_answered end ≡ true → unanswered ≡ []
  pub unheard : is_unheard end ≡ true → (messages_in story ≡ []) × (unanswered ≢ [])
  pub asked : AreAsked story
  pub late : List Row
  pub rows : after ≡ before ++ rows_in story ++ late
  pub lasts : end ≡ None → late ≡ []
  pub refusal : List ℕ
  pub refused : refusal ≡ refusal_by end (refusal_text (stream_of heard).fault) unanswered
  pub told : octets ≡ told_in c before None story ++ refusal
  pub unsaid : List ℕ
  pub text : session_text (stream_of heard) (map outcome_given (asked_in story))
      ≡ said_in None story ++ refusal_in end refusal ++ unsaid
  pub unasked : List (Actor × Event)
  pub requests : session_requests (stream_of heard)
      ≡ map request_asked (asked_in story) ++ unasked
  pub whole : is_whole end ≡ true → (unsaid ≡ []) × (unasked ≡ [])
  pub signed : is_whole end ≡ true → on ≡ signed_in None story
  pub notices : notices_in c before None story ≡ notices_due c before story
