-- How a message is answered, and messages one after another, from what each call ensures.
use Rattle.std.proofs.Common.{◌≡◌, ℕ, ◌+◌, ◌<◌, Bool, true, false, List, [], ◌∷◌, ◌++◌, length}
use Rattle.std.proofs.Common.{map}
use Rattle.std.proofs.Common.{take, get_or, Option, Some, None, Result, Ok, Err, refl, ap, sym}
use Rattle.std.proofs.Common.{subst, ◌∙◌}
use Rattle.std.proofs.Common.{arith, append-nil, length-append}
use Rattle.std.specs.Prelude.{if◌then◌else◌, is_none}
use Rattle.std.proofs.lemmas.List.{take_more}
use Rattle.site_base.specs.declared.actor.Actor.{Actor}
use Rattle.site_base.specs.declared.event.Event.{Event}
use Rattle.site_base.specs.declared.event.Event.TheVariants as events
use Rattle.site_base.specs.declared.actor.Actor.TheVariants.{Till}
use Rattle.site_base.specs.declared.answer.Answer.{Answer}
use Rattle.site_base.specs.declared.refusal.Refusal.{Refusal}
use Rattle.site_base.specs.Events.{point_named}
use Rattle.site_base.specs.SignChanges.{sign_change}
use Rattle.app_message.specs.declared.fault.StreamFault.{StreamFault}
use Rattle.app_message.specs.Spelling.{spelling}
use Rattle.app_message.specs.Stream.{Held, fed_by, held_part}
use Rattle.app_message.specs.Telegram.{Telegram}
use Rattle.device_map.specs.Changes.{change_by, change_where}
use Rattle.device_map.specs.Faults.{map_number}
use Rattle.site_book.specs.Book.{Book}
use Rattle.peer_talk.specs.declared.fault.TalkFault.TheVariants as talk
use Rattle.peer_talk.specs.declared.fault.TheConstants.{ORIGINATOR_CHANGED}
use Rattle.peer_talk.specs.declared.talk.Meaning.{Meaning}
use Rattle.peer_talk.specs.declared.talk.Meaning.TheVariants as meanings
use Rattle.peer_talk.specs.Exchanges.{Outcome, change_by as sign_change_by, row_made}
use Rattle.peer_talk.specs.Text.{is_another, meaning_at, number_text, outcome_text}
use Rattle.peer_talk.proofs.Speakers.{another_meant, same_peer}
use Rattle.conversation.specs.Books.{with_outcome}
use Rattle.conversation.specs.declared.said.Said.{Said}
use Rattle.conversation.specs.declared.said.Said.TheVariants as says
use Rattle.conversation.specs.Saying.{IsAskedFor, meaning_of, said_message, talk_after}
use Rattle.station.specs.declared.peer.Peer.{Peer}
use Rattle.station.specs.declared.peer_end.PeerEnd.{PeerEnd}
use Rattle.station.specs.declared.peer_end.PeerEnd.TheVariants as ends
use Rattle.station.specs.declared.gates.Admission.{Admission}
use Rattle.station.specs.Hearing.{Admits, Among, Answers, AnswersAll, Hears, IsAskedAmong, among}
use Rattle.station.specs.Hearing.{end_behind, turn_of}
use Rattle.station.specs.Moves.{StationState, rows_since, with_octets}
use Rattle.station.specs.Papers.{IsChangeTo}
use Rattle.station.specs.Peers.{till_off, with_notices}
use Rattle.station.specs.PeerViews.{session_of}
use Rattle.station.specs.Reads.{is_read_at}
use Rattle.station.specs.Sessions.{Granted, Grants, Session, Turn, admit, admit_first, all_granted}
use Rattle.station.specs.Sessions.{answer}
use Rattle.station.specs.Sessions.{answer_all, answer_meaning, answer_so, ask, end_session}
use Rattle.station.specs.Sessions.{full_grant, hear, no_memory, opening_text, refuse_by, serve}
use Rattle.station.specs.Sessions.{tell, tell_last, with_text}
use Rattle.station.proofs.Adding.{octets_unheard}
use Rattle.station.specs.PeerViews.{slot_forgotten}
use Rattle.station.proofs.Notices.{all_forgotten, with_notices-none, with_notices-unchanged}
use Rattle.station.proofs.Turns.{Grows, admitted-grows, all-grows, answered-grows, grows_none}
use Rattle.station.proofs.Turns.{left-grows, refused-grows}
use Rattle.station.proofs.Turns.{outcome-grows, since, told_none, told_then}
use Rattle.station.proofs.Turns as turns

-- ---- requests without a change

pub no_change : (change : Option Telegram) (octets : List ℕ) → IsChangeTo change None octets
    → change ≡ None
no_change None octets is = refl
no_change (Some m) octets is = absurd is

pub pointless : (event : Event) → point_named event ≡ None → change_by event ≡ None
pointless (events.Open p) none = absurd cc
pointless (events.Close p) none = absurd cc
pointless (events.Release p preset) none = absurd cc
pointless (events.Prepay p cents) none = absurd cc
pointless (events.TestRelease p) none = absurd cc
pointless (events.Suspend p) none = absurd cc
pointless (events.Resume p) none = absurd cc
pointless (events.Terminate p) none = absurd cc
pointless event none = refl

-- a request at a point signs nobody off
pub stays_on : (actor : Actor) (event : Event) (reply : Result Answer Refusal) (p : ℕ)
    → point_named event ≡ Some p → till_off (sign_change actor event reply) ≡ None
stays_on (Till t) events.SignOn reply p named = absurd cc
stays_on (Till t) events.SignOff reply p named = absurd cc
stays_on actor event reply p named = refl

-- nobody is told of a request without a change that signs nobody off
pub untold : (actor : Actor) (event : Event) (outcome : Outcome) (peers : List (Option Session))
    → change_by event ≡ None
    → ((reply : Result Answer Refusal) → till_off (sign_change actor event reply) ≡ None)
    → peers ≡ with_notices (row_made actor event outcome) peers
untold actor event (Err no_row) peers none on = sym (with_notices-none peers)
untold actor event (Ok (Ok answer)) peers none on =
    sym (with_notices-unchanged (record { actor = actor; event = event; reply = Ok answer }) peers
    none (on (Ok answer)))
untold actor event (Ok (Err refusal)) peers none on =
    sym (with_notices-unchanged (record { actor = actor; event = event; reply = Err refusal }) peers
    refl (on (Err refusal)))

-- a request at no point has no change
unchanged : (event : Event) (reply : Result Answer Refusal) → point_named event ≡ None
    → change_where event reply ≡ None
unchanged event (Ok answer) none = pointless event none
unchanged event (Err refusal) none = refl

-- .. so those that it signs off forget their till, and nothing else is told
pub off_told : (actor : Actor) (event : Event) (outcome : Outcome) (peers : List (Option Session))
    (t : ℕ) → point_named event ≡ None → till_off (sign_change_by actor event outcome) ≡ Some t
    → map (slot_forgotten t) peers ≡ with_notices (row_made actor event outcome) peers
off_told actor event (Err no_row) peers t none off = absurd cc
off_told actor event (Ok reply) peers t none off =
    all_forgotten (record { actor = actor; event = event; reply = reply }) t peers
    (unchanged event reply none) off

pub nobody_off : (actor : Actor) (event : Event) (outcome : Outcome)
    (peers : List (Option Session))
    → point_named event ≡ None → till_off (sign_change_by actor event outcome) ≡ None
    → peers ≡ with_notices (row_made actor event outcome) peers
nobody_off actor event (Err no_row) peers none off = sym (with_notices-none peers)
nobody_off actor event (Ok reply) peers none off =
    sym (with_notices-unchanged (record { actor = actor; event = event; reply = reply }) peers
    (unchanged event reply none) off)

-- ---- a request

made_told : (actor : Actor) (event : Event) (outcome : Outcome) (b : Book)
    (others others' : List (Option Session))
    → others' ≡ with_notices (row_made actor event outcome) others
    → others' ≡ with_notices (rows_since b (with_outcome actor event outcome b)) others
made_told actor event outcome b others others' is =
    is
    ∙ ap (λ rs. with_notices rs others)
    (sym (since b (with_outcome actor event outcome b) (outcome-grows actor event outcome b)))

-- ---- a message that is refused

lasting : (g : Granted) (m : Telegram) (t : Turn) (meaning : Meaning) → t.session.end ≡ None
    → meaning_at t.session.talk.peer m ≡ meaning → answer g m t ≡ answer_meaning g m meaning t
lasting g m t meaning lasts is =
    ap (λ e. if is_none e then answer_meaning g m (meaning_at t.session.talk.peer m) t else t) lasts
    ∙ ap (λ k. answer_meaning g m k t) is

-- ---- a message, from what is said to it

-- the session behind what is said to a message: without memory for that it ends
abbrev pub said_so : Bool → Telegram → Said → Option (List ℕ) → Turn → Turn
said_so memory m says.Another before t =
    tell_last memory (number_text m ORIGINATOR_CHANGED ++ opening_text before m.from t.book)
    (ends.Talk talk.OriginatorChanged) t
said_so memory m said before t =
    tell memory (spelling (said_message m said) ++ opening_text before m.from t.book) t

pub said_lost : (m : Telegram) (said : Said) (before : Option (List ℕ)) (t : Turn)
    → end_session no_memory t ≡ said_so false m said before t
said_lost m says.Another before t = refl
said_lost m (says.Fault f) before t = refl
said_lost m (says.Outcome actor event outcome) before t = refl

pub said_put : (m : Telegram) (said : Said) (before : Option (List ℕ)) (t : Turn)
    → end_behind said (with_text
    (spelling (said_message m said) ++ opening_text before m.from t.book) t)
    ≡ said_so true m said before t
said_put m says.Another before t = refl
said_put m (says.Fault f) before t = refl
said_put m (says.Outcome actor event outcome) before t = refl

-- another originator speaks behind a first message
no_opening : (peer : Option (List ℕ)) (from : List ℕ) (b : Book) → is_another peer from ≡ true
    → opening_text peer from b ≡ []
no_opening None from b other = absurd cc
no_opening (Some node) from b other = refl

-- a session goes on, unless another originator was told so
pub goes_on : (said : Said) (t : Turn) → (said ≡ says.Another → ⊥) → t ≡ end_behind said t
goes_on says.Another t other = absurd (other refl)
goes_on (says.Fault f) t other = refl
goes_on (says.Outcome actor event outcome) t other = refl

-- the turn of a peer whose message this is said to, at this book
abbrev pub heard_turn : Book → Peer → List ℕ → Said → Turn
heard_turn b p from said =
    record { book = b; session = record (session_of p) { talk = talk_after from said p.talk } }

-- what was made by a message and told, and the till that is left behind it
said_so-grows : (memory : Bool) (m : Telegram) (said : Said) (before : Option (List ℕ)) (t : Turn)
    → Grows t.book (said_so memory m said before t).book
said_so-grows true m says.Another before t = left-grows t.session.talk.on t.book
said_so-grows false m says.Another before t = left-grows t.session.talk.on t.book
said_so-grows true m (says.Fault f) before t = grows_none t.book
said_so-grows false m (says.Fault f) before t = left-grows t.session.talk.on t.book
said_so-grows true m (says.Outcome actor event outcome) before t = grows_none t.book
said_so-grows false m (says.Outcome actor event outcome) before t =
    left-grows t.session.talk.on t.book

told_behind : (memory : Bool) (m : Telegram) (said : Said) (b b' : Book) (p : Peer) (t' : Turn)
    (others others' others'' : List (Option Session))
    → Grows b b' → others' ≡ with_notices (rows_since b b') others
    → t' ≡ said_so memory m said p.talk.peer (heard_turn b' p m.from said)
    → others'' ≡ with_notices (rows_since b' t'.book) others'
    → others'' ≡ with_notices (rows_since b t'.book) others
told_behind memory m said b b' p t' others others' others'' grows made turn ended =
    told_then b b' t'.book others others' others'' grows
    (subst (λ (u : Turn). Grows b' u.book) (sym turn)
    (said_so-grows memory m said p.talk.peer (heard_turn b' p m.from said)))
    made ended

-- nothing was made
alone_told : (b b' : Book) (others others' : List (Option Session)) → b' ≡ b → others' ≡ others
    → others' ≡ with_notices (rows_since b b') others
alone_told b b' others others' book alone =
    alone ∙ told_none b others ∙ ap (λ k. with_notices (rows_since b k) others) (sym book)

pub answers_said : (memory : Bool) (m : Telegram) (said : Said) (b b' : Book) (p : Peer) (t' : Turn)
    (others others' others'' : List (Option Session))
    → p.end ≡ None → meaning_of said ≡ meaning_at p.talk.peer m
    → IsAskedFor IsAskedAmong (among b others) said (among b' others')
    → t' ≡ said_so memory m said p.talk.peer (heard_turn b' p m.from said)
    → others'' ≡ with_notices (rows_since b' t'.book) others'
    → Answers m (turn_of b p) t' others others''
answers_said memory m says.Another b b' p t' others others' others'' lasts is asked turn ended =
    let end : PeerEnd = ends.Talk talk.OriginatorChanged in
    let text = number_text m ORIGINATOR_CHANGED in
    let grant : Granted = record { row = true; text = memory } in
    let other = another_meant p.talk.peer m (sym is) in
    let book : b' ≡ b = ap (λ (a : Among). a.book) asked in
    let alone : others' ≡ others = ap (λ (a : Among). a.others) asked in
    let now : t' ≡ tell_last memory text end (turn_of b p) =
    turn
    ∙ ap (λ o. tell_last memory (text ++ o) end (heard_turn b' p m.from says.Another))
    (no_opening p.talk.peer m.from b' other)
    ∙ ap (λ o. tell_last memory o end (heard_turn b' p m.from says.Another)) (append-nil text)
    ∙ ap (λ q. tell_last memory text end (record {
      book = b';
      session = record (session_of p) { talk = record p.talk { peer = q } };
    })) (same_peer p.talk.peer m.from other)
    ∙ ap (λ (k : Book). tell_last memory text end (turn_of k p)) book in
    record {
      memory = grant;
      turn = now ∙ sym (lasting grant m (turn_of b p) meanings.Another lasts (sym is));
      told = told_behind memory m says.Another b b' p t' others others' others''
          (subst (Grows b) (sym book) (grows_none b)) (alone_told b b' others others' book alone)
          turn ended;
    }
answers_said memory m (says.Fault f) b b' p t' others others' others'' lasts is asked turn ended =
    let grant : Granted = record { row = true; text = memory } in
    let book : b' ≡ b = ap (λ (a : Among). a.book) asked in
    let alone : others' ≡ others = ap (λ (a : Among). a.others) asked in
    let text = number_text m (map_number f) ++ opening_text p.talk.peer m.from b in
    let now : t' ≡ tell memory text (serve m.from (turn_of b p)) =
    turn
    ∙ ap (λ (k : Book). tell memory
    (number_text m (map_number f) ++ opening_text p.talk.peer m.from k)
    (heard_turn k p m.from (says.Fault f))) book in
    record {
      memory = grant;
      turn = now ∙ sym (lasting grant m (turn_of b p) (meanings.Fault f) lasts (sym is));
      told = told_behind memory m (says.Fault f) b b' p t' others others' others''
          (subst (Grows b) (sym book) (grows_none b)) (alone_told b b' others others' book alone)
          turn ended;
    }
answers_said memory m (says.Outcome actor event outcome) b b' p t' others others' others'' lasts is
    asked turn ended =
    let grant : Granted = record { row = asked.0.0.0; text = memory } in
    let made = with_outcome actor event outcome b in
    let served = serve m.from (turn_of b p) in
    let text = outcome_text m outcome ++ opening_text p.talk.peer m.from made in
    let now : t' ≡ tell memory text (ask actor event outcome served) =
    turn
    ∙ ap (λ (k : Book). tell memory (outcome_text m outcome ++ opening_text p.talk.peer m.from k)
    (heard_turn k p m.from (says.Outcome actor event outcome))) asked.0.1 in
    record {
      memory = grant;
      turn =
          now
          ∙ ap (λ (o : Outcome). answer_so memory m actor event o p.talk.peer served) asked.0.0.1
          ∙ sym (lasting grant m (turn_of b p) (meanings.Request actor event) lasts (sym is));
      told = told_behind memory m (says.Outcome actor event outcome) b b' p t' others others'
          others'' (subst (Grows b) (sym asked.0.1) (outcome-grows actor event outcome b))
          (made_told actor event outcome b others others' asked.1
          ∙ ap (λ (k : Book). with_notices (rows_since b k) others) (sym asked.0.1))
          turn ended;
    }

-- ---- messages one after another

-- a session that has ended answers nothing
pub answers_none : (m : Telegram) (t : Turn) (others : List (Option Session))
    → is_none t.session.end ≡ false → Answers m t t others others
answers_none m t others over = record {
  memory = full_grant;
  turn =
      sym (ap (λ b. if b then answer_meaning full_grant m (meaning_at t.session.talk.peer m) t
      else t)
      over);
  told = told_none t.book others;
}

pub all_none : (t : Turn) (others : List (Option Session)) → AnswersAll [] t t others others
all_none t others = record {
  memory = [];
  each = refl;
  turn = refl;
  told = told_none t.book others;
}

pub all_more : (ms : List Telegram) (i : ℕ) (m : Telegram) (a b c : Turn)
    (x y z : List (Option Session)) → i < length ms → m ≡ get_or ms i m
    → AnswersAll (take i ms) a b x y → Answers m b c y z → AnswersAll (take (i + 1) ms) a c x z
all_more ms i m a b c x y z within is all one =
    let more : take (i + 1) ms ≡ take i ms ++ m ∷ [] =
    take_more ms i m within ∙ ap (λ (n : Telegram). take i ms ++ n ∷ []) (sym is) in
    let grown : Grows a.book b.book =
    subst (λ (u : Turn). Grows a.book u.book) (sym all.turn)
    (all-grows all.memory (take i ms) a) in
    let grows : Grows b.book c.book =
    subst (λ (u : Turn). Grows b.book u.book) (sym one.turn) (answered-grows one.memory m b) in
    subst (λ ns. AnswersAll ns a c x z) (sym more)
    (record {
      memory = all.memory ++ one.memory ∷ [];
      each = omega (
        arith,
        all.each,
        length-append all.memory (one.memory ∷ []),
        length-append (take i ms) (m ∷ []),
      );
      turn =
          one.turn ∙ ap (answer one.memory m) all.turn
          ∙ sym (turns.one_more all.memory (take i ms) one.memory m a all.each);
      told = told_then a.book b.book c.book x y z grown grows all.told one.told;
    })

-- ---- a piece

-- there was no memory for it
pub hears_nothing : (admits : List ℕ → Admission) (piece : List ℕ) (b : Book) (p : Peer)
    (decoder : Held) (t' : Turn) (others others' : List (Option Session)) → decoder ≡ p.decoder
    → t' ≡ end_session no_memory
    (record { book = b; session = record (session_of p) { held = decoder } })
    → others' ≡ with_notices (rows_since b t'.book) others
    → Hears admits piece (turn_of b p) t' others others'
hears_nothing admits piece b p decoder t' others others' same turn told = record {
  memory = record { piece = false; messages = []; first = true; refusal = true };
  turn = turn ∙ ap (λ (h : Held). end_session no_memory
      (record { book = b; session = record (session_of p) { held = h } })) same;
  told = told;
}

pub hears_piece : (admits : List ℕ → Admission) (piece : List ℕ) (b : Book) (p : Peer)
    (decoder : Held) (ms : List Telegram)
    (fault : Option StreamFault) (memory : Bool) (t t' : Turn)
    (others mid others' : List (Option Session))
    → p.end ≡ None
    → decoder ≡ held_part (fed_by p.decoder piece) → ms ≡ (fed_by p.decoder piece).messages
    → fault ≡ (fed_by p.decoder piece).fault
    → Admits admits ms (record { book = b; session = record (session_of p) { held = decoder } }) t
    others mid
    → t' ≡ refuse_by memory fault t
    → others' ≡ with_notices (rows_since t.book t'.book) mid
    → Hears admits piece (turn_of b p) t' others others'
hears_piece admits piece b p decoder ms fault memory t t' others mid others' lasts holds listed
    faulty all turn told =
    let fed = fed_by p.decoder piece in
    let start : Turn =
    record { book = b; session = record (session_of p) { held = held_part fed } } in
    let answers : t ≡ admit admits all.first all.memory fed.messages start =
    all.turn
    ∙ ap (λ (h : Held). admit admits all.first all.memory ms
    (record { book = b; session = record (session_of p) { held = h } })) holds
    ∙ ap (λ ns. admit admits all.first all.memory ns start) listed in
    let grants : Grants =
    record { piece = true; messages = all.memory; first = all.first; refusal = memory } in
    let now : t' ≡ hear admits grants piece (turn_of b p) =
    turn ∙ ap (λ f. refuse_by memory f t) faulty
    ∙ ap (refuse_by memory fed.fault) answers in
    let grown : Grows b t.book =
    subst (λ (u : Turn). Grows b u.book) (sym answers)
    (admitted-grows admits all.first all.memory fed.messages start lasts) in
    let grows : Grows t.book t'.book =
    subst (λ (u : Turn). Grows t.book u.book) (sym turn) (refused-grows memory fault t) in
    record {
      memory = grants;
      turn = now;
      told = told_then b t.book t'.book others mid others' grown grows all.told told;
    }

-- ---- a first message

-- there is none
pub nothing_admitted : (admits : List ℕ → Admission) (ms : List Telegram) (t : Turn)
    (others : List (Option Session)) → length ms < 1 → Admits admits ms t t others others
nothing_admitted admits [] t others none = record {
  first = true;
  memory = [];
  turn = refl;
  told = told_none t.book others;
}
nothing_admitted admits (m ∷ ms) t others none = absurd (omega (arith, none))

-- a session that serves somebody answers all its messages
pub served_admits : (admits : List ℕ → Admission) (memory : Bool) (gs : List Granted)
    (ms : List Telegram) (t : Turn) (peer : List ℕ) → t.session.talk.peer ≡ Some peer
    → answer_all gs ms t ≡ admit admits memory gs ms t
served_admits admits memory gs [] t peer is = refl
served_admits admits memory gs (m ∷ ms) t peer is =
    sym (ap (λ q. if is_none q then admit_first (admits m.from) memory gs m ms t
    else answer_all gs (m ∷ ms) t) is)

-- .. and one that serves nobody yet is admitted so
pub first_admits : (admits : List ℕ → Admission) (memory : Bool) (gs : List Granted)
    (m : Telegram) (ms : List Telegram) (t : Turn) (a : Admission) → t.session.talk.peer ≡ None
    → a ≡ admits m.from → admit_first a memory gs m ms t ≡ admit admits memory gs (m ∷ ms) t
first_admits admits memory gs m ms t a is admitted =
    ap (λ b. admit_first b memory gs m ms t) admitted
    ∙ sym (ap (λ q. if is_none q then admit_first (admits m.from) memory gs m ms t
    else answer_all gs (m ∷ ms) t) is)

-- ---- a peer that isn't read from

pub unheard : (k : ℕ) (piece : List ℕ) (s : StationState) → is_read_at s k ≡ false
    → (memory : Grants) × (s ≡ with_octets memory k piece s)
unheard k piece s unread = (all_granted, sym (octets_unheard s all_granted k piece unread))
