-- A session in its course, piece after piece, and how it ends.
use Rattle.std.proofs.Common.{◌≡◌, ℕ, ◌+◌, ◌*◌, ◌<◌, ◌≤◌, Bool, true, false, List, [], ◌∷◌, ◌++◌}
use Rattle.std.proofs.Common.{length, map, take, Option, Some, None, Result, Ok, Err, refl, sym, ap}
use Rattle.std.proofs.Common.{subst, ◌∙◌, append-nil, arith, length-append}
use Rattle.std.proofs.lemmas.List.{length-take-le}
use Rattle.std.specs.Prelude.{IfErr, IsErr}
use Rattle.std.specs.Result.{result_err}
use Rattle.std.specs.Io.KnownBytes.{Appends, Consumes, Keeps}
use Rattle.site_base.specs.declared.actor.Actor.{Actor}
use Rattle.site_base.specs.declared.event.Event.{Event}
use Rattle.site_base.specs.declared.row.Row.{Row}
use Rattle.devices.specs.Devices.{AppendsFront}
use Rattle.devices.proofs.KnownBytes.{Appends-then, Appends-front, AppendsFront-so_far}
use Rattle.devices.proofs.KnownBytes.{AppendsFront-whole, Consumes-none, Consumes-then}
use Rattle.devices.proofs.KnownBytes.{Consumes-kept}
use Rattle.app_message.specs.declared.fault.StreamFault.{StreamFault}
use Rattle.app_message.specs.Spelling.{spelling}
use Rattle.app_message.specs.Stream.{Held, Stream, fed_by, held_part, held_after, stream_of, walk}
use Rattle.app_message.specs.Stream.{with_messages}
use Rattle.app_message.specs.Telegram.{Telegram}
use Rattle.app_message.proofs.Cutting.{any_cut}
use Rattle.device_map.specs.Replies.{fault_message}
use Rattle.till_session.specs.declared.fault.SessionFault.{SessionFault}
use Rattle.till_session.specs.declared.fault.SessionFault.TheVariants as faults
use Rattle.peer_talk.specs.declared.fault.TalkFault.{TalkFault}
use Rattle.peer_talk.specs.declared.fault.TalkFault.TheVariants.{OriginatorChanged}
use Rattle.devices.specs.declared.transfer.TheConstants.{PIECE_OCTETS}
use Rattle.peer_talk.specs.Exchanges.{Asked, outcome_given, request_asked}
use Rattle.peer_talk.specs.Talks.{GoesOn, IsCut, IsOver, TalkState}
use Rattle.till_session.specs.Course.{EndsStream, Talked}
use Rattle.peer_talk.specs.Talks.{opening_talk}
use Rattle.till_session.specs.Course.{ends_talk}
use Rattle.till_session.specs.Ends.{Conversed, as_session_fault, is_early}
use Rattle.peer_talk.specs.Text.{fault_by, left_over, messages_text, refusal_text, requests_in}
use Rattle.peer_talk.specs.Text.{session_fault, session_requests, session_text}
use Rattle.till_session.proofs.Talks.{counted_from_none, talked_none, talked_then}

-- ---- the course

-- what was read so far is sound; its messages were answered, and what is left of it is held
pub record Conversing (turns more : ℕ) (talk : TalkState) (decoder : Held)
    (left left' holds holds' : Option (List ℕ)) (rows rows' : List Row) (owes owes' : ℕ → Bool) :
    Type 0 where
  pub read : List ℕ
  pub consumed : Consumes left left' read
  pub few : length read + more * PIECE_OCTETS ≤ turns * PIECE_OCTETS
  pub holding : decoder ≡ held_after read
  pub sound : (stream_of read).fault ≡ None
  pub talked : Talked None opening_talk talk (stream_of read).messages holds holds' rows rows' owes
      owes'

pub starts : (turns : ℕ) (a u : Option (List ℕ)) (rows : List Row) (owes : ℕ → Bool)
    → Conversing turns turns opening_talk (held_after []) a a u u rows rows owes owes
unfolding walk
starts turns a u rows owes = record {
  read = [];
  consumed = Consumes-none a;
  few = omega arith;
  holding = refl;
  sound = refl;
  talked = talked_none opening_talk u rows owes;
}

-- the stream of what was read and a piece
fed : (decoder : Held) (read piece : List ℕ) → decoder ≡ held_after read
    → stream_of (read ++ piece) ≡ with_messages (stream_of read).messages (fed_by decoder piece)
fed decoder read piece holding =
    any_cut read piece ∙ ap (λ h. with_messages (stream_of read).messages (fed_by h piece))
    (sym holding)

-- the messages that a piece brought were answered
heard_all : (f : Option SessionFault) (turns more : ℕ) (talk new : TalkState) (decoder : Held)
    (a b u v w : Option (List ℕ)) (x y z : List Row) (i j k : ℕ → Bool) (piece : List ℕ)
    → (so_far : Conversing turns more talk decoder a b u v x y i j)
    → Talked f talk new (fed_by decoder piece).messages v w y z j k
    → Talked f opening_talk new (stream_of (so_far.read ++ piece)).messages u w x z i k
heard_all f turns more talk new decoder a b u v w x y z i j k piece so_far talked =
    subst (λ ms. Talked f opening_talk new ms u w x z i k)
    (sym (ap (λ (s : Stream). s.messages) (fed decoder so_far.read piece so_far.holding)))
    (talked_then f opening_talk talk new (stream_of so_far.read).messages
    (fed_by decoder piece).messages
    u v w x y z i j k so_far.talked talked)

pub goes_on : (turns more less : ℕ) (talk new : TalkState) (decoder after : Held)
    (a b c u v w : Option (List ℕ)) (x y z : List Row) (i j k : ℕ → Bool) (piece : List ℕ)
    → Conversing turns more talk decoder a b u v x y i j
    → Consumes b c piece → length piece ≤ PIECE_OCTETS → less < more
    → after ≡ held_part (fed_by decoder piece) → (fed_by decoder piece).fault ≡ None
    → Talked None talk new (fed_by decoder piece).messages v w y z j k
    → Conversing turns less new after a c u w x z i k
goes_on turns more less talk new decoder after a b c u v w x y z i j k piece r p small spent kept
    none talked =
    let cut = fed decoder r.read piece r.holding in
    record {
      read = r.read ++ piece;
      consumed = Consumes-then a b c r.read piece r.consumed p;
      few = omega (arith, r.few, small, spent, length-append r.read piece);
      holding = kept ∙ sym (ap held_part cut);
      sound = ap (λ (s : Stream). s.fault) cut ∙ none;
      talked = heard_all None turns more talk new decoder a b u v w x y z i j k piece r talked;
    }

-- ---- its end

-- where it doesn't end early
record IsEnded (fault : Option SessionFault) (s : Stream) (asked : List Asked)
    (u w : Option (List ℕ)) : Type 0 where
  all_asked : length asked ≡ length (session_requests s)
  whole : Appends u w (session_text s (map outcome_given asked))
  exact : fault ≡ as_session_fault (session_fault s)

taken : (asked : List Asked) (rest : List (Actor × Event))
    → map request_asked asked ≡ take (length asked) (map request_asked asked ++ rest)
taken [] rest = refl
taken (a ∷ asked) rest = ap (λ rs. request_asked a ∷ rs) (taken asked rest)

same_length : (asked : List Asked) → length asked ≡ length (map request_asked asked)
same_length [] = refl
same_length (a ∷ asked) = omega (arith, same_length asked)

finished : (turns : ℕ) (fault g : Option SessionFault) (new : TalkState)
    (a c u v w : Option (List ℕ)) (x y : List Row) (i j : ℕ → Bool) (read : List ℕ)
    → Consumes a c read → length read ≤ turns * PIECE_OCTETS
    → (talked : Talked g opening_talk new (stream_of read).messages u v x y i j)
    → (rest : List (Actor × Event))
    → session_requests (stream_of read) ≡ map request_asked talked.asked ++ rest
    → AppendsFront u w (session_text (stream_of read) (map outcome_given talked.asked))
    → (is_early fault ≡ false → IsEnded fault (stream_of read) talked.asked u w)
    → Conversed turns fault new a c u w x y i j
finished turns fault g new a c u v w x y i j read consumed few talked rest requests front late =
    record {
      read = read;
      consumed = consumed;
      few = few;
      asked = talked.asked;
      requests = taken talked.asked rest ∙ sym (ap (take (length talked.asked)) requests);
      counted = talked.counted ∙ counted_from_none talked.asked;
      recorded = talked.recorded;
      on = talked.on;
      owed = talked.owed tt;
      alone = talked.alone;
      front = front;
      all_asked = λ is. (late is).all_asked;
      whole = λ is. (late is).whole;
      exact = λ is. (late is).exact;
    }

-- what all messages were told, and what stands last
all_told : (q : Option (List ℕ)) (ms : List Telegram) (asked : List Asked) (said last : List ℕ)
    → GoesOn None q ms asked said → messages_text last None ms (map outcome_given asked) ≡ said
    ++ last
all_told q ms asked said last on =
    let whole = on.text last [] [] in
    rw (append-nil ms, append-nil (map outcome_given asked)) at whole

all_over : (ms : List Telegram) (asked : List Asked) (said last : List ℕ)
    → IsOver None ms asked said → messages_text last None ms (map outcome_given asked) ≡ said
all_over ms asked said last over =
    let whole = over.text last [] [] in
    rw (append-nil ms, append-nil (map outcome_given asked)) at whole

-- nothing more could be read
pub ends_unread : (turns more : ℕ) (f : SessionFault) (talk : TalkState) (decoder : Held)
    (a b c u v : Option (List ℕ)) (x y : List Row) (i j : ℕ → Bool)
    → is_early (Some f) ≡ true → Conversing turns more talk decoder a b u v x y i j → Keeps b c
    → Conversed turns (Some f) talk a c u v x y i j
ends_unread turns more f talk decoder a b c u v x y i j early r kept =
    let ms = (stream_of r.read).messages in
    let requests = rw (append-nil ms) at (r.talked.heard.requests []) in
    let text = all_told talk.peer ms r.talked.asked r.talked.said
    (refusal_text (stream_of r.read).fault) r.talked.heard in
    finished turns (Some f) None talk a c u v v x y i j r.read
    (Consumes-kept a b c r.read r.consumed kept) (omega (arith, r.few)) r.talked [] requests
    (subst (AppendsFront u v) (sym text)
    (AppendsFront-so_far u v r.talked.said (refusal_text (stream_of r.read).fault)
    r.talked.written))
    (λ late. absurd cc)

-- there was no memory for the messages of a piece
pub ends_unfed : (turns more less : ℕ) (f : SessionFault) (talk : TalkState) (decoder : Held)
    (a b c u v : Option (List ℕ)) (x y : List Row) (i j : ℕ → Bool) (piece : List ℕ)
    → is_early (Some f) ≡ true → Conversing turns more talk decoder a b u v x y i j
    → Consumes b c piece → length piece ≤ PIECE_OCTETS → less < more
    → Conversed turns (Some f) talk a c u v x y i j
ends_unfed turns more less f talk decoder a b c u v x y i j piece early r p small spent =
    let s = stream_of (r.read ++ piece) in
    let ms = (stream_of r.read).messages in
    let later = (fed_by decoder piece).messages in
    let asked = r.talked.asked in
    let all : s.messages ≡ ms ++ later =
    ap (λ (t : Stream). t.messages) (fed decoder r.read piece r.holding) in
    let last = refusal_text s.fault in
    let requests = ap (requests_in None) all ∙ r.talked.heard.requests later in
    let text : session_text s (map outcome_given asked) ≡ r.talked.said
    ++ messages_text last talk.peer later [] =
    ap (λ ns. messages_text last None ns (map outcome_given asked)) all
    ∙ ap (messages_text last None (ms ++ later)) (sym (append-nil (map outcome_given asked)))
    ∙ r.talked.heard.text last later [] in
    record {
      read = r.read ++ piece;
      consumed = Consumes-then a b c r.read piece r.consumed p;
      few = omega (arith, r.few, small, spent, length-append r.read piece);
      asked = asked;
      requests = taken asked (requests_in talk.peer later)
          ∙ sym (ap (take (length asked)) requests);
      counted = r.talked.counted ∙ counted_from_none asked;
      recorded = r.talked.recorded;
      on = r.talked.on;
      owed = r.talked.owed tt;
      alone = r.talked.alone;
      front = subst (AppendsFront u v) (sym text)
          (AppendsFront-so_far u v r.talked.said (messages_text last talk.peer later [])
          r.talked.written);
      all_asked = λ late. absurd cc;
      whole = λ late. absurd cc;
      exact = λ late. absurd cc;
    }

consumed_none : (a b c : Option (List ℕ)) (read piece : List ℕ) → piece ≡ [] → Consumes a b read
    → Consumes b c piece → Consumes a c read
consumed_none a b c read piece none r p =
    subst (Consumes a c) (append-nil read)
    (Consumes-then a b c read [] r (subst (Consumes b c) none p))

-- there is no more to read
pub ends_read : (turns more : ℕ) (fault : Option SessionFault) (talk : TalkState) (decoder : Held)
    (a b c u v : Option (List ℕ)) (x y : List Row) (i j : ℕ → Bool) (piece : List ℕ)
    → Conversing turns more talk decoder a b u v x y i j
    → piece ≡ [] → Consumes b c piece → fault ≡ as_session_fault (left_over decoder.rest)
    → Conversed turns fault talk a c u v x y i j
ends_read turns more fault talk decoder a b c u v x y i j piece r none p is =
    let s = stream_of r.read in
    let asked = r.talked.asked in
    let requests = rw (append-nil s.messages) at (r.talked.heard.requests []) in
    let changes = rw (append-nil s.messages) at (r.talked.heard.changes []) in
    let nothing : r.talked.said ++ refusal_text s.fault ≡ r.talked.said =
    ap (λ f. r.talked.said ++ refusal_text f) r.sound ∙ append-nil r.talked.said in
    let text : session_text s (map outcome_given asked) ≡ r.talked.said =
    all_told talk.peer s.messages asked r.talked.said (refusal_text s.fault) r.talked.heard
    ∙ nothing in
    let written : Appends u v (session_text s (map outcome_given asked)) =
    subst (Appends u v) (sym text) r.talked.written in
    let why : session_fault s ≡ left_over decoder.rest =
    ap (λ ch. fault_by ch s.fault s.rest) changes
    ∙ ap (λ f. fault_by false f s.rest) r.sound
    ∙ ap (λ (h : Held). left_over h.rest) (sym r.holding) in
    finished turns fault None talk a c u v v x y i j r.read
    (consumed_none a b c r.read piece none r.consumed p) (omega (arith, r.few)) r.talked []
    requests
    (AppendsFront-whole u v (session_text s (map outcome_given asked)) written)
    (λ late. record {
      all_asked =
          same_length asked ∙ ap length (sym (append-nil (map request_asked asked)) ∙ sym requests);
      whole = written;
      exact = is ∙ sym (ap as_session_fault why);
    })

-- the talk of a piece's messages ended
over_there : (turns : ℕ) (f : SessionFault) (new : TalkState) (a c u w : Option (List ℕ))
    (x y : List Row) (i j : ℕ → Bool) (read : List ℕ)
    → ends_talk f ≡ true → Consumes a c read → length read ≤ turns * PIECE_OCTETS
    → Talked (Some f) opening_talk new (stream_of read).messages u w x y i j
    → Conversed turns (Some f) new a c u w x y i j
over_there turns (faults.Talk OriginatorChanged) new a c u w x y i j read ends consumed few talked =
    let s = stream_of read in
    let asked = talked.asked in
    let over : IsOver None s.messages asked talked.said = talked.heard in
    let requests = rw (append-nil s.messages) at (over.requests []) in
    let changes = rw (append-nil s.messages) at (over.changes []) in
    let text = all_over s.messages asked talked.said (refusal_text s.fault) over in
    let written : Appends u w (session_text s (map outcome_given asked)) =
    subst (Appends u w) (sym text) talked.written in
    let f : SessionFault = faults.Talk OriginatorChanged in
    finished turns (Some f) (Some f) new a c u w w x y i j read consumed few talked []
    (requests ∙ sym (append-nil (map request_asked asked)))
    (AppendsFront-whole u w (session_text s (map outcome_given asked)) written)
    (λ late. record {
      all_asked = same_length asked ∙ ap length (sym requests);
      whole = written;
      exact = sym (ap (λ ch. as_session_fault (fault_by ch s.fault s.rest)) changes);
    })
over_there turns f new a c u w x y i j read ends consumed few talked =
    let s = stream_of read in
    let asked = talked.asked in
    let cut : IsCut None s.messages asked talked.said = talked.heard in
    let requests = cut.requests [] in
    let text = cut.text (refusal_text s.fault) [] in
    let there = rw (append-nil s.messages) at requests.1 in
    let said : session_text s (map outcome_given asked) ≡ talked.said ++ text.0 =
    rw (append-nil s.messages) at text.1 in
    finished turns (Some f) (Some f) new a c u w w x y i j read consumed few talked requests.0 there
    (subst (AppendsFront u w) (sym said)
    (AppendsFront-so_far u w talked.said text.0 talked.written))
    (λ late. absurd cc)

pub ends_heard : (turns more less : ℕ) (f : SessionFault) (talk new : TalkState) (decoder : Held)
    (a b c u v w : Option (List ℕ)) (x y z : List Row) (i j k : ℕ → Bool) (piece : List ℕ)
    → ends_talk f ≡ true → Conversing turns more talk decoder a b u v x y i j
    → Consumes b c piece → length piece ≤ PIECE_OCTETS → less < more
    → Talked (Some f) talk new (fed_by decoder piece).messages v w y z j k
    → Conversed turns (Some f) new a c u w x z i k
ends_heard turns more less f talk new decoder a b c u v w x y z i j k piece ends r p small spent
    talked =
    over_there turns f new a c u w x z i k (r.read ++ piece) ends
    (Consumes-then a b c r.read piece r.consumed p)
    (omega (arith, r.few, small, spent, length-append r.read piece))
    (heard_all (Some f) turns more talk new decoder a b u v w x y z i j k piece r talked)

-- the octets have a fault
faulty_there : (turns : ℕ) (e : SessionFault) (g : StreamFault) (new : TalkState)
    (a c u v w : Option (List ℕ)) (x y : List Row) (i j : ℕ → Bool) (read : List ℕ)
    → Consumes a c read → length read ≤ turns * PIECE_OCTETS → (stream_of read).fault ≡ Some g
    → Talked None opening_talk new (stream_of read).messages u v x y i j
    → AppendsFront v w (spelling (fault_message g)) → EndsStream g e v w
    → Conversed turns (Some e) new a c u w x y i j
faulty_there turns (faults.Talk fault) g new a c u v w x y i j read consumed few is talked front
    ends =
    let s = stream_of read in
    let asked = talked.asked in
    let last = spelling (fault_message g) in
    let requests = rw (append-nil s.messages) at (talked.heard.requests []) in
    let changes = rw (append-nil s.messages) at (talked.heard.changes []) in
    let text : session_text s (map outcome_given asked) ≡ talked.said ++ last =
    all_told new.peer s.messages asked talked.said (refusal_text s.fault) talked.heard
    ∙ ap (λ f. talked.said ++ refusal_text f) is in
    let written : Appends u w (session_text s (map outcome_given asked)) =
    subst (Appends u w) (sym text) (Appends-then u v w talked.said last talked.written ends.1) in
    finished turns (Some (faults.Talk fault)) None new a c u v w x y i j read consumed few talked []
    requests
    (AppendsFront-whole u w (session_text s (map outcome_given asked)) written)
    (λ late. record {
      all_asked = same_length asked ∙ ap length
          (sym (append-nil (map request_asked asked)) ∙ sym requests);
      whole = written;
      exact =
          ap (λ (t : TalkFault). Some (faults.Talk t)) ends.0
          ∙ sym (
          ap (λ ch. as_session_fault (fault_by ch s.fault s.rest)) changes
          ∙ ap (λ f. as_session_fault (fault_by false f s.rest)) is
          );
    })
faulty_there turns e g new a c u v w x y i j read consumed few is talked front ends =
    let s = stream_of read in
    let asked = talked.asked in
    let last = spelling (fault_message g) in
    let requests = rw (append-nil s.messages) at (talked.heard.requests []) in
    let text : session_text s (map outcome_given asked) ≡ talked.said ++ last =
    all_told new.peer s.messages asked talked.said (refusal_text s.fault) talked.heard
    ∙ ap (λ f. talked.said ++ refusal_text f) is in
    finished turns (Some e) None new a c u v w x y i j read consumed few talked [] requests
    (subst (AppendsFront u w) (sym text)
    (Appends-front u v w talked.said last talked.written front))
    (λ late. absurd cc)

pub ends_faulty : (r : Result (Unit {0}) SessionFault) (turns more less : ℕ) (g : StreamFault)
    (talk new : TalkState) (decoder : Held) (a b c u v w t : Option (List ℕ)) (x y z : List Row)
    (i j k : ℕ → Bool) (piece : List ℕ)
    → Conversing turns more talk decoder a b u v x y i j
    → Consumes b c piece → length piece ≤ PIECE_OCTETS → less < more
    → (fed_by decoder piece).fault ≡ Some g
    → Talked None talk new (fed_by decoder piece).messages v w y z j k
    → AppendsFront w t (spelling (fault_message g)) → IsErr r → IfErr r (λ e. EndsStream g e w t)
    → Conversed turns (result_err r) new a c u t x z i k
ends_faulty (Ok ok) turns more less g talk new decoder a b c u v w t x y z i j k piece so_far p
    small spent is talked front never ends = absurd cc
ends_faulty (Err e) turns more less g talk new decoder a b c u v w t x y z i j k piece so_far p
    small spent is talked front never ends =
    faulty_there turns e g new a c u w t x z i k (so_far.read ++ piece)
    (Consumes-then a b c so_far.read piece so_far.consumed p)
    (omega (arith, so_far.few, small, spent, length-append so_far.read piece))
    (ap (λ (s : Stream). s.fault) (fed decoder so_far.read piece so_far.holding) ∙ is)
    (heard_all None turns more talk new decoder a b u v w x y z i j k piece so_far talked)
    front ends

-- what was taken of a buffer is no longer than it
pub is_small : (n : ℕ) (buf : List ℕ) (most : ℕ) → n ≤ length buf → length buf ≤ most
    → length (take n buf) ≤ most
is_small n buf most within small = omega (arith, length-take-le n buf within, within, small)
