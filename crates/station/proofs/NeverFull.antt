-- A book that has room for the rows of one read isn't full while its messages are answered.
use Rattle.std.proofs.Common.{◌≡◌, ℕ, zero, suc, ◌+◌, ◌*◌, ◌<◌, ◌≤◌, Bool, true, false, List, []}
use Rattle.std.proofs.Common.{◌∷◌, ◌++◌, append-nil, length, take, Option, Some, None}
use Rattle.std.proofs.Common.{ap, arith, refl}
use Rattle.std.proofs.lemmas.Bool.{lt-leb}
use Rattle.std.proofs.lemmas.List.{length-append, length-take-le}
use Rattle.site_base.specs.declared.actor.Actor.{Actor}
use Rattle.site_base.specs.declared.event.Event.{Event}
use Rattle.site_base.specs.declared.row.Row.{Row}
use Rattle.app_message.specs.declared.fault.StreamFault.{StreamFault}
use Rattle.app_message.specs.Stream.{Held, fed_by, fed_from, held_part, walk}
use Rattle.app_message.specs.Telegram.{Telegram}
use Rattle.site_book.specs.Book.{Book, is_full, next_row}
use Rattle.peer_talk.specs.declared.talk.Meaning.{Meaning}
use Rattle.peer_talk.specs.declared.talk.Meaning.TheVariants as meanings
use Rattle.peer_talk.specs.Text.{meaning_at}
use Rattle.conversation.specs.Books.{outcome_at, with_outcome}
use Rattle.station.specs.declared.peer_end.PeerEnd.{PeerEnd}
use Rattle.station.specs.declared.sizes.TheConstants.{HEARD_OCTETS, PIECE_ROWS}
use Rattle.station.specs.Laws.{StationsAreNeverFull}
use Rattle.station.specs.Room.{HasRoomFor, with_answers}
use Rattle.station.specs.Runs.{after, opening_station}
use Rattle.station.specs.Sessions.{Granted, Grants, Turn, answer, answer_meaning, ask, end_session}
use Rattle.station.specs.Sessions.{no_memory, serve, tell, tell_last, with_text}
use Rattle.station.proofs.Held.{always_few, front_eight}
use Rattle.station.proofs.Keeping.{by_lasting, by_message, ended_lasts, holding, turn_at}

-- ---- messages

walk_few : (n : ℕ) (s : List ℕ) → length (walk n s).messages * 8 ≤ length s
unfolding walk
walk_few zero s = omega arith
walk_few (suc n) s = grind (arith, front_eight, walk_few n)

-- a piece brings no more messages than have room
pub fed_few : (h : Held) (piece : List ℕ) → length h.rest ≤ 1031 → length piece ≤ HEARD_OCTETS
    → length (fed_by h piece).messages ≤ PIECE_ROWS
fed_few h piece held few = by h.fault
  where
    all : length (h.rest ++ piece) ≤ 1031 + HEARD_OCTETS
    all = omega (arith, length-append h.rest piece, held, few)

    by : (f : Option StreamFault) → length (fed_from f (h.rest ++ piece)).messages ≤ PIECE_ROWS
    by None = omega (arith, walk_few (length (h.rest ++ piece)) (h.rest ++ piece), all)
    by (Some f) = omega arith

-- ---- answering

-- a session that lasts has room for these messages and one more
HasMoreRoom : List Telegram → Turn → Type 0
HasMoreRoom ms t = t.session.end ≡ None → HasRoomFor (suc (length ms)) t.book

-- a request takes one row at most
asked_within : (memory : Bool) (b : Book) (actor : Actor) (event : Event) (n : ℕ)
    → HasRoomFor (suc n) b
    → HasRoomFor n (with_outcome actor event (outcome_at memory b actor event) b)
asked_within false b actor event n has =
    let none = ap (λ (rs : List Row). length rs) (append-nil b.rows) in
    omega (arith, has, none)
asked_within true b actor event n has =
    rw (lt-leb (b.forgotten + b.config.rows) (length b.rows) (omega (arith, has)))
    (let one = length-append b.rows (next_row b actor event ∷ []) in omega (arith, has, one))

ended_within : (end : PeerEnd) (ms : List Telegram) (t : Turn) → HasMoreRoom ms (end_session end t)
unfolding HasMoreRoom
ended_within end ms t lasts = absurd (ended_lasts (end_session end t).session end refl lasts)

told_within : (memory : Bool) (text : List ℕ) (ms : List Telegram) (t : Turn)
    → HasRoomFor (suc (length ms)) t.book → HasMoreRoom ms (tell memory text t)
unfolding HasMoreRoom
told_within true text ms t has lasts = has
told_within false text ms t has lasts = ended_within no_memory ms t lasts

told_last : (memory : Bool) (text : List ℕ) (end : PeerEnd) (ms : List Telegram) (t : Turn)
    → HasMoreRoom ms (tell_last memory text end t)
told_last true text end ms t = ended_within end ms (with_text text t)
told_last false text end ms t = ended_within no_memory ms t

meant_within : (g : Granted) (m : Telegram) (ms : List Telegram) (meaning : Meaning) (t : Turn)
    → HasRoomFor (suc (suc (length ms))) t.book → HasMoreRoom ms (answer_meaning g m meaning t)
meant_within g m ms meanings.Another t has = told_last g.text _ _ ms t
meant_within g m ms (meanings.Fault f) t has =
    told_within g.text _ ms (serve m.from t) (omega (arith, has))
meant_within g m ms (meanings.Request actor event) t has =
    told_within g.text _ ms
    (ask actor event (outcome_at g.row t.book actor event) (serve m.from t))
    (asked_within g.row t.book actor event (suc (length ms)) has)

answer_within : (g : Granted) (m : Telegram) (ms : List Telegram) (t : Turn)
    → HasMoreRoom (m ∷ ms) t → HasMoreRoom ms (answer g m t)
unfolding HasMoreRoom
answer_within g m ms t has =
    by_lasting (HasMoreRoom ms) g m t
    (λ lasts. meant_within g m ms (meaning_at t.session.talk.peer m) t (has lasts))
    (λ end over lasts. absurd (ended_lasts t.session end over lasts))

-- a turn of a session that holds few octets
turn_finds_room : (t : Turn) (memory : Grants) (octets : List ℕ) (n : ℕ)
    → length t.session.held.rest ≤ 1031 → length octets ≤ HEARD_OCTETS
    → HasRoomFor PIECE_ROWS t.book → n < length (fed_by t.session.held octets).messages
    → (with_answers n memory octets t).session.end ≡ None
    → is_full (with_answers n memory octets t).book ≡ false
unfolding HasMoreRoom
turn_finds_room t memory octets n held few has within lasts =
    let fed = fed_by t.session.held octets in
    let size : length (take n fed.messages) ≡ n =
    length-take-le n fed.messages (omega (arith, within)) in
    let room : HasRoomFor 1 (with_answers n memory octets t).book =
    by_message HasMoreRoom answer_within memory.messages (take n fed.messages)
    (holding (held_part fed) t)
    (λ lasts. omega (arith, has, size, within, fed_few t.session.held octets held few)) lasts in
    lt-leb _ _ (omega (arith, room))

pub stations_are_never_full : StationsAreNeverFull
stations_are_never_full = λ g b ms k x memory octets n there.
    turn_finds_room (turn_at (after ms (opening_station g b)) x) memory octets n
    (always_few g b ms k x there)
