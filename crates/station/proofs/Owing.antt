-- What a peer is owed is bounded.
use Rattle.std.proofs.Common.{◌≡◌, ℕ, ◌+◌, ◌*◌, ◌≤◌, Bool, true, false, List, [], ◌∷◌, ◌++◌}
use Rattle.std.proofs.Common.{length, Option, Some, None, refl, subst, arith}
use Rattle.std.specs.Prelude.{if◌then◌else◌, is_none, nat_lt, slice_index}
use Rattle.std.specs.Prelude.{◌&&◌}
use Rattle.std.specs.List.{AllByRecursion}
use Rattle.std.proofs.lemmas.Bool.{ltb-false, ltb-true}
use Rattle.std.proofs.lemmas.List.{length-append, length-drop}
use Rattle.site_base.specs.declared.row.Row.{Row}
use Rattle.app_message.specs.declared.fault.StreamFault.{StreamFault}
use Rattle.app_message.specs.Spelling.{spelling}
use Rattle.app_message.specs.Stream.{Held, fed_by, held_part}
use Rattle.app_message.specs.Telegram.{Telegram}
use Rattle.conversation.specs.Books.{outcome_at}
use Rattle.device_map.specs.declared.ids.TheConstants.{DISPENSER_SUBNET}
use Rattle.device_map.specs.Changes.{change_of}
use Rattle.device_map.specs.Faults.{map_number}
use Rattle.device_map.specs.Replies.{fault_message}
use Rattle.peer_talk.specs.declared.fault.TalkFault.TheVariants as talk
use Rattle.peer_talk.specs.declared.fault.TheConstants.{ORIGINATOR_CHANGED}
use Rattle.peer_talk.specs.declared.talk.Meaning.{Meaning}
use Rattle.peer_talk.specs.declared.talk.Meaning.TheVariants as meanings
use Rattle.peer_talk.specs.Talks.{without_on}
use Rattle.peer_talk.specs.Text.{meaning_at, number_text, outcome_text, peer_after}
use Rattle.site_book.specs.Book.{Book}
use Rattle.station.specs.declared.gates.Admission.{Admission}
use Rattle.station.specs.declared.peer_end.PeerEnd.{PeerEnd}
use Rattle.station.specs.declared.peer_end.PeerEnd.TheVariants as ends
use Rattle.station.specs.declared.sizes.TheConstants.{HEARD_OCTETS, NOTICE_LIMIT}
use Rattle.station.specs.declared.sizes.TheConstants.{PIECE_ROWS, READ_LIMIT}
use Rattle.station.specs.Listening.{listener}
use Rattle.station.specs.Notices.{notice_at, octets_of, row_notice}
use Rattle.station.specs.Owing.{IsBounded, OwedIsBounded, REPLIES_OWED}
use Rattle.station.specs.Owing.{REPLY_OCTETS, is_noticed}
use Rattle.station.specs.Peers.{forget_till, row_off, tell_notice, tell_row, tell_rows}
use Rattle.station.specs.Runs.{opening_station}
use Rattle.station.specs.Sessions.{Granted, Grants, Session, Turn, admit, answer}
use Rattle.station.specs.Sessions.{answer_meaning, ask, end_session, hear, is_read}
use Rattle.station.specs.Sessions.{opening_session, opening_text, refuse_by, serve, tell}
use Rattle.station.specs.Sessions.{tell_last}
use Rattle.station.proofs.Held.{left_few}
use Rattle.station.proofs.Keeping.{HoldsAt, by_admission, by_fault, by_lasting}
use Rattle.station.proofs.Keeping.{by_memory, by_message, holding}
use Rattle.station.proofs.NeverFull.{fed_few}
use Rattle.station.proofs.Notices.{nobody_noticed}
use Rattle.station.proofs.Pieces.{PiecesKeep, moves_kept}
use Rattle.station.proofs.Quiet.{where_goes}
use Rattle.station.proofs.Said.{IsShort, IsShortFault, fed_fault, fed_short, notice_size}
use Rattle.station.proofs.Said.{number_size, opening_room, opening_size, outcome_size}
use Rattle.station.proofs.Said.{refusal_size, walk_fault}

-- ---- a piece

-- few octets are held of a message to come, and the originator of a fault is short
record HoldsFew (h : Held) : Type 0 where
  pub few : length h.rest ≤ 1031
  pub fault : IsShortFault h.fault

-- there is room for what is said to these messages, for what stands, and for a refusal
record Fits (ms : List Telegram) (t : Turn) : Type 0 where
  pub each : AllByRecursion IsShort ms
  pub held : HoldsFew t.session.held
  pub room : length t.session.owed + length ms * REPLY_OCTETS
      + opening_room t.session.talk.peer + REPLY_OCTETS ≤ REPLIES_OWED

-- a session behind a piece
record IsAnswered (t : Turn) : Type 0 where
  pub held : HoldsFew t.session.held
  pub room : length t.session.owed ≤ REPLIES_OWED

-- this text has room before the messages to come
HasRoom : List ℕ → List Telegram → Turn → Type 0
HasRoom text ms t = length t.session.owed + length text + length ms * REPLY_OCTETS
    + opening_room t.session.talk.peer + REPLY_OCTETS ≤ REPLIES_OWED

told_fits : (memory : Bool) (text : List ℕ) (ms : List Telegram) (t : Turn)
    → AllByRecursion IsShort ms → HoldsFew t.session.held → HasRoom text ms t
    → Fits ms (tell memory text t)
unfolding HasRoom
told_fits true text ms t each held room = record {
  each = each;
  held = held;
  room = omega (arith, room, length-append t.session.owed text);
}
told_fits false text ms t each held room =
    record { each = each; held = held; room = omega (arith, room) }

last_fits : (memory : Bool) (text : List ℕ) (end : PeerEnd) (ms : List Telegram) (t : Turn)
    → AllByRecursion IsShort ms → HoldsFew t.session.held → HasRoom text ms t
    → Fits ms (tell_last memory text end t)
unfolding HasRoom
last_fits true text end ms t each held room = record {
  each = each;
  held = held;
  room = omega (arith, room, length-append t.session.owed text);
}
last_fits false text end ms t each held room =
    record { each = each; held = held; room = omega (arith, room) }

served_room : (peer : Option (List ℕ)) (from : List ℕ) → opening_room (peer_after peer from) ≡ 0
served_room None from = refl
served_room (Some peer) from = refl

-- what a message is told, and what stands behind the first one's
served_fits : (text : List ℕ) (m : Telegram) (ms : List Telegram) (b : Book) (t : Turn)
    → length text ≤ REPLY_OCTETS → Fits (m ∷ ms) t
    → length t.session.owed + length (text ++ opening_text t.session.talk.peer m.from b)
    + length ms * REPLY_OCTETS + opening_room (peer_after t.session.talk.peer m.from)
    + REPLY_OCTETS ≤ REPLIES_OWED
served_fits text m ms b t few fits =
    let peer = t.session.talk.peer in
    omega (
      arith,
      fits.room,
      few,
      length-append text (opening_text peer m.from b),
      opening_size peer m.from b,
      served_room peer m.from,
    )

meant_fits : (g : Granted) (m : Telegram) (ms : List Telegram) (meaning : Meaning) (t : Turn)
    → Fits (m ∷ ms) t → Fits ms (answer_meaning g m meaning t)
unfolding HasRoom
meant_fits g m ms meanings.Another t fits =
    let text = number_text m ORIGINATOR_CHANGED in
    last_fits g.text text (ends.Talk talk.OriginatorChanged) ms t fits.each.1 fits.held
    (omega (arith, fits.room, number_size m ORIGINATOR_CHANGED fits.each.0))
meant_fits g m ms (meanings.Fault f) t fits =
    let text = number_text m (map_number f) in
    told_fits g.text (text ++ opening_text t.session.talk.peer m.from t.book) ms (serve m.from t)
    fits.each.1 fits.held
    (served_fits text m ms t.book t (number_size m (map_number f) fits.each.0) fits)
meant_fits g m ms (meanings.Request actor event) t fits =
    let outcome = outcome_at g.row t.book actor event in
    let text = outcome_text m outcome in
    let later = ask actor event outcome (serve m.from t) in
    told_fits g.text (text ++ opening_text t.session.talk.peer m.from later.book) ms later
    fits.each.1 fits.held
    (served_fits text m ms later.book t (outcome_size m outcome fits.each.0) fits)

passed_fits : (m : Telegram) (ms : List Telegram) (t : Turn) → Fits (m ∷ ms) t → Fits ms t
passed_fits m ms t fits = record {
  each = fits.each.1;
  held = fits.held;
  room = omega (arith, fits.room);
}

answered_fits : (g : Granted) (m : Telegram) (ms : List Telegram) (t : Turn) → Fits (m ∷ ms) t
    → Fits ms (answer g m t)
answered_fits g m ms t fits =
    by_lasting (Fits ms) g m t
    (λ lasts. meant_fits g m ms (meaning_at t.session.talk.peer m) t fits)
    (λ end over. passed_fits m ms t fits)

-- a session that ends needs no more room
crowded_fits : (end : PeerEnd) (ms : List Telegram) (t : Turn) → Fits ms t
    → Fits [] (end_session end t)
crowded_fits end ms t fits = record {
  each = tt;
  held = fits.held;
  room = omega (arith, fits.room);
}

admitted_fits : (admits : List ℕ → Admission) (memory : Bool) (gs : List Granted)
    (ms : List Telegram) (t : Turn) → Fits ms t → Fits [] (admit admits memory gs ms t)
unfolding HasRoom
admitted_fits admits memory gs ms t fits =
    by_admission (Fits []) admits memory gs ms t (by_message Fits answered_fits gs ms t fits)
    (λ m later is nobody.
    let first : Fits (m ∷ later) t = subst (λ (l : List Telegram). Fits l t) is fits in
    last_fits memory (number_text m ORIGINATOR_CHANGED) (ends.Barred m.from) [] t tt first.held
    (omega (arith, first.room, number_size m ORIGINATOR_CHANGED first.each.0)))
    (λ m later is nobody. crowded_fits (ends.Crowded m.from) ms t fits)

refused_room : (memory : Bool) (fault : Option StreamFault) (t : Turn) → IsShortFault fault
    → Fits [] t → IsAnswered (refuse_by memory fault t)
refused_room memory fault t short fits =
    by_fault IsAnswered memory fault t (λ none. whole)
    (λ f some lasts. last memory (spelling (fault_message f)) _
    (refusal_size f (subst IsShortFault some short)))
    (λ end over. whole)
  where
    whole : IsAnswered t
    whole = record { held = fits.held; room = omega (arith, fits.room) }

    last : (m : Bool) (text : List ℕ) (end : PeerEnd) → length text ≤ REPLY_OCTETS
        → IsAnswered (tell_last m text end t)
    last true text end few = record {
      held = fits.held;
      room = omega (arith, fits.room, few, length-append t.session.owed text);
    }
    last false text end few = record { held = fits.held; room = omega (arith, fits.room) }

-- a piece is heard of a session that is read from
heard_room : (admits : List ℕ → Admission) (g : Grants) (piece : List ℕ) (t : Turn)
    → length piece ≤ HEARD_OCTETS → HoldsFew t.session.held → is_read t.session ≡ true
    → IsAnswered (hear admits g piece t)
heard_room admits g piece t few held read =
    let h = t.session.held in
    let fed = fed_by h piece in
    let start = holding (held_part fed) t in
    let below : length t.session.owed ≤ READ_LIMIT = read_below t.session read in
    let count : length fed.messages ≤ PIECE_ROWS = fed_few h piece held.few few in
    by_memory IsAnswered admits g piece t
    (refused_room g.refusal fed.fault (admit admits g.first g.messages fed.messages start)
    (fed_fault h piece held.fault)
    (admitted_fits admits g.first g.messages fed.messages start (record {
      each = fed_short h piece;
      held = record { few = left_few h piece; fault = fed_fault h piece held.fault };
      room = omega (arith, below, count, room_most t.session.talk.peer);
    })))
    (record { held = held; room = omega (arith, below) })
  where
    read_below : (x : Session) → is_read x ≡ true → length x.owed ≤ READ_LIMIT
    read_below x is = by_end (is_none x.end) (nat_lt (length x.owed) READ_LIMIT) refl is
      where
        by_end : (a b : Bool) → nat_lt (length x.owed) READ_LIMIT ≡ b → (a && b) ≡ true
            → length x.owed ≤ READ_LIMIT
        by_end true true less is = omega (arith, ltb-true (length x.owed) READ_LIMIT less)
        by_end a false less is = absurd (no a is)
          where
            no : (a : Bool) → (a && false) ≡ true → ⊥
            no true is = cc
            no false is = cc
        by_end false b less is = absurd cc

    room_most : (p : Option (List ℕ)) → opening_room p ≤ 64
    room_most None = omega arith
    room_most (Some peer) = omega arith

-- ---- a session

record IsKept (x : Session) : Type 0 where
  pub held : HoldsFew x.held
  pub bounded : IsBounded x

answered_kept : (t : Turn) → IsAnswered t → IsKept t.session
answered_kept t answered = record {
  held = answered.held;
  bounded = record {
    replies = λ unnoticed. answered.room;
    all = omega (arith, answered.room);
  };
}

-- who isn't a dispenser gets no notice
unnoticed_none : (r : Row) (node : Option (List ℕ)) → is_noticed node ≡ false
    → row_notice node r ≡ None
unnoticed_none r None is = nobody_noticed r
unnoticed_none r (Some node) is = by_change (change_of r) (where_goes r.event r.reply)
  where
    by_change : (change : Option Telegram)
        → ((m : Telegram) → change ≡ Some m → slice_index m.to 0 ≡ DISPENSER_SUBNET)
        → notice_at change (Some node) ≡ None
    by_change None to = refl
    by_change (Some m) to = rw (to m refl, is) refl

noticed_kept : (n : Option (List ℕ)) (x : Session) → length (octets_of n) ≤ 21
    → (is_noticed x.talk.peer ≡ false → n ≡ None) → IsKept x → IsKept (tell_notice n x)
noticed_kept None x few none kept = kept
noticed_kept (Some octets) x few none kept = by_test (nat_lt NOTICE_LIMIT (length x.owed)) refl
  where
    no : Some octets ≡ None → ⊥
    no is = cc is

    by_test : (b : Bool) → nat_lt NOTICE_LIMIT (length x.owed) ≡ b
        → IsKept (if b then record x { end = Some ends.Behind }
        else record x { owed = x.owed ++ octets })
    by_test true is = record {
      held = kept.held;
      bounded = record { replies = kept.bounded.replies; all = kept.bounded.all };
    }
    by_test false is = record {
      held = kept.held;
      bounded = record {
        replies = λ unnoticed. absurd (no (none unnoticed));
        all =
            omega (
              arith,
              few,
              length-append x.owed octets,
              ltb-false NOTICE_LIMIT (length x.owed) is,
            );
      };
    }

forgotten_kept : (off : Option ℕ) (x : Session) → IsKept x → IsKept (forget_till off x)
forgotten_kept None x kept = kept
forgotten_kept (Some t) x kept = by_end (is_none x.end)
  where
    by_end : (lasts : Bool)
        → IsKept (if lasts
        then record x { talk = record x.talk { on = without_on t x.talk.on } }
        else x)
    by_end true = record {
      held = kept.held;
      bounded = record { replies = kept.bounded.replies; all = kept.bounded.all };
    }
    by_end false = kept

row_kept : (r : Row) (x : Session) → IsKept x → IsKept (tell_row r x)
row_kept r x kept =
    let node = listener x.end x.talk.peer in
    forgotten_kept (row_off r) (tell_notice (row_notice node r) x)
    (noticed_kept (row_notice node r) x (notice_size r node)
    (λ unnoticed. by_end x.end unnoticed) kept)
  where
    by_end : (e : Option PeerEnd) → is_noticed x.talk.peer ≡ false
        → row_notice (listener e x.talk.peer) r ≡ None
    by_end None unnoticed = unnoticed_none r x.talk.peer unnoticed
    by_end (Some end) unnoticed = nobody_noticed r

rows_kept : (rows : List Row) (x : Session) → IsKept x → IsKept (tell_rows rows x)
rows_kept [] x kept = kept
rows_kept (r ∷ rows) x kept = rows_kept rows (tell_row r x) (row_kept r x kept)

opened_kept : (door : Option (List ℕ)) → IsKept (opening_session door)
opened_kept door = record {
  held = record {
    few = left_few (record { rest = []; fault = None }) [];
    fault = walk_fault 0 [];
  };
  bounded = record { replies = λ unnoticed. omega arith; all = omega arith };
}

-- ---- all sessions

pieces_kept : PiecesKeep (λ octets. length octets ≤ HEARD_OCTETS) IsKept
pieces_kept = record {
  opens = opened_kept;
  told = rows_kept;
  hears = λ admits g piece t few read kept.
      answered_kept (hear admits g piece t) (heard_room admits g piece t few kept.held read);
  ends = λ end t kept. record {
    held = kept.held;
    bounded = record { replies = kept.bounded.replies; all = kept.bounded.all };
  };
  takes = λ n x kept. record {
    held = kept.held;
    bounded = record {
      replies = λ unnoticed. omega (arith, kept.bounded.replies unnoticed, length-drop n x.owed);
      all = omega (arith, kept.bounded.all, length-drop n x.owed);
    };
  };
}

pub owed_is_bounded : OwedIsBounded
owed_is_bounded = λ g b ms k x reads there.
    (subst (HoldsAt IsKept) there
    (moves_kept pieces_kept ms (opening_station g b) reads (λ j. tt) k)).bounded
