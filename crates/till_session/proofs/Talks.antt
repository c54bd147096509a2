-- A session's talk: one message after another, and how it ends.
use Rattle.std.proofs.Common.{◌≡◌, ℕ, ◌+◌, ◌<◌, ◌≤◌, Bool, true, List, [], ◌∷◌, ◌++◌, length}
use Rattle.std.proofs.Common.{take, drop, get_or, Option, Some, None, refl}
use Rattle.std.proofs.Common.{sym, ap, subst, ◌∙◌, append_assoc, append-nil, arith}
use Rattle.std.proofs.Common.{take-append-drop}
use Rattle.std.specs.Prelude.{min, IfSome}
use Rattle.std.specs.Io.KnownBytes.{Appends}
use Rattle.std.proofs.lemmas.List.{take_more}
use Rattle.site_base.specs.declared.actor.Actor.{Actor}
use Rattle.site_base.specs.declared.event.Event.{Event}
use Rattle.site_base.specs.declared.row.Row.{Row}
use Rattle.devices.specs.Devices.{AppendsFront, greatest_count, one_more}
use Rattle.devices.proofs.KnownBytes.{Appends-then, Appends-none}
use Rattle.app_message.specs.Spelling.{spelling}
use Rattle.app_message.specs.Telegram.{Telegram}
use Rattle.peer_talk.specs.declared.fault.TalkFault.TheVariants.{OriginatorChanged}
use Rattle.peer_talk.specs.Exchanges.{Asked, Outcome, row_made, rows_made, signed_by}
use Rattle.peer_talk.specs.Exchanges.{signed_on_after}
use Rattle.peer_talk.specs.Talks.{GoesOn, IsCut, IsOver, IsOwn, TalkState}
use Rattle.peer_talk.specs.Text.{meaning_at, peer_after}
use Rattle.peer_talk.proofs.Speakers.{another_meant, fault_meant, own_met, request_meant, spoken_by}
use Rattle.peer_talk.proofs.Courses.{another_over, answered_on, cut_longer, cut_then, on_cut}
use Rattle.peer_talk.proofs.Courses.{on_none, on_then, over_cut, over_longer, over_then, refused_on}
use Rattle.conversation.specs.declared.said.Said.{Said}
use Rattle.conversation.specs.declared.said.Said.TheVariants as says
use Rattle.conversation.specs.Saying.{IsAskedFor, meaning_of, said_message, talk_after}
use Rattle.till_session.specs.declared.fault.SessionFault.{SessionFault}
use Rattle.till_session.specs.declared.fault.SessionFault.TheVariants as faults
use Rattle.till_session.specs.Counters.{Counts, IsAskedAt, counts, owed_by}
use Rattle.till_session.specs.Course.{AreHeard, Talked, asked_more, end_with, ends_early}
use Rattle.till_session.proofs.Debts.{still_alone, still_owed}

-- ---- messages one after another

heard_then : (f : Option SessionFault) (p q r : Option (List ℕ)) (ms ns : List Telegram)
    (a b : List Asked) (s t : List ℕ)
    → GoesOn p q ms a s → AreHeard f q r ns b t → AreHeard f p r (ms ++ ns) (a ++ b) (s ++ t)
heard_then None p q r ms ns a b s t one two = on_then p q r ms ns a b s t one two
heard_then (Some (faults.Talk OriginatorChanged)) p q r ms ns a b s t one two =
    over_then p q ms ns a b s t one two
heard_then (Some f) p q r ms ns a b s t one two = cut_then p q ms ns a b s t one two

heard_longer : (f : SessionFault) (p q : Option (List ℕ)) (ms ns : List Telegram) (a : List Asked)
    (s : List ℕ)
    → AreHeard (Some f) p q ms a s → AreHeard (Some f) p q (ms ++ ns) a s
heard_longer (faults.Talk OriginatorChanged) p q ms ns a s heard = over_longer p ms ns a s heard
heard_longer f p q ms ns a s heard = cut_longer p ms ns a s heard

cut_heard : (f : SessionFault) (p q : Option (List ℕ)) (ms : List Telegram) (a : List Asked)
    (s : List ℕ)
    → ends_early f ≡ true → IsCut p ms a s → AreHeard (Some f) p q ms a s
cut_heard (faults.Talk OriginatorChanged) p q ms a s early cut = absurd cc
cut_heard f p q ms a s early cut = cut

-- ---- a talk in its course

rows_joined : (a b : List Asked) → rows_made (a ++ b) ≡ rows_made a ++ rows_made b
rows_joined [] b = refl
rows_joined (x ∷ a) b =
    let row = row_made x.actor x.event x.outcome in
    ap (λ rs. row ++ rs) (rows_joined a b) ∙ sym (append_assoc row (rows_made a) (rows_made b))

signed_joined : (on : Option ℕ) (a b : List Asked)
    → signed_on_after on (a ++ b) ≡ signed_on_after (signed_on_after on a) b
signed_joined on [] b = refl
signed_joined on (x ∷ a) b = signed_joined (signed_by x.actor x.event x.outcome on) a b

counted_joined : (n : ℕ) (a b : List Asked) → asked_more n (a ++ b) ≡ asked_more (asked_more n a) b
counted_joined n [] b = refl
counted_joined n (x ∷ a) b = counted_joined (one_more n) a b

-- requests are counted, as far as a count goes
all_counted : (n : ℕ) (a : List Asked) → n ≤ greatest_count
    → asked_more n a ≡ min (n + length a) greatest_count
all_counted n [] few = omega (arith, few)
all_counted n (x ∷ a) few =
    let rest = all_counted (one_more n) a (omega arith) in
    rest ∙ (let same : min (one_more n + length a) greatest_count
    ≡ min (n + length (x ∷ a)) greatest_count = omega (arith, few) in same)

pub counted_from_none : (a : List Asked) → asked_more 0 a ≡ min (length a) greatest_count
counted_from_none a =
    all_counted 0 a (omega arith)
    ∙ (let same : min (0 + length a) greatest_count ≡ min (length a) greatest_count =
    omega arith in same)

pub talked_none : (st : TalkState) (u : Option (List ℕ)) (rows : List Row) (owes : ℕ → Bool)
    → Talked None st st [] u u rows rows owes owes
talked_none st u rows owes = record {
  asked = [];
  said = [];
  heard = on_none st.peer;
  written = Appends-none u;
  recorded = sym (append-nil rows);
  counted = refl;
  on = refl;
  owed = λ owed. owed;
  alone = λ alone. alone;
}

pub talked_then : (f : Option SessionFault) (a b c : TalkState) (ms ns : List Telegram)
    (u v w : Option (List ℕ)) (x y z : List Row) (i j k : ℕ → Bool)
    → Talked None a b ms u v x y i j → Talked f b c ns v w y z j k
    → Talked f a c (ms ++ ns) u w x z i k
talked_then f a b c ms ns u v w x y z i j k one two = record {
  asked = one.asked ++ two.asked;
  said = one.said ++ two.said;
  heard = heard_then f a.peer b.peer c.peer ms ns one.asked two.asked one.said two.said one.heard
      two.heard;
  written = Appends-then u v w one.said two.said one.written two.written;
  recorded =
      two.recorded ∙ ap (λ rs. rs ++ rows_made two.asked) one.recorded
      ∙ append_assoc x (rows_made one.asked) (rows_made two.asked)
      ∙ ap (λ rs. x ++ rs) (sym (rows_joined one.asked two.asked));
  counted =
      two.counted ∙ ap (λ n. asked_more n two.asked) one.counted
      ∙ sym (counted_joined a.asked one.asked two.asked);
  on =
      two.on ∙ ap (λ o. signed_on_after o two.asked) one.on
      ∙ sym (signed_joined a.on one.asked two.asked);
  owed = λ owed. two.owed (one.owed owed);
  alone = λ alone. two.alone (one.alone alone);
}

-- .. in all messages
pub talked_longer : (f : SessionFault) (a b : TalkState) (ms ns : List Telegram)
    (u v : Option (List ℕ)) (x y : List Row) (i j : ℕ → Bool)
    → Talked (Some f) a b ms u v x y i j → Talked (Some f) a b (ms ++ ns) u v x y i j
talked_longer f a b ms ns u v x y i j talked = record {
  asked = talked.asked;
  said = talked.said;
  heard = heard_longer f a.peer b.peer ms ns talked.asked talked.said talked.heard;
  written = talked.written;
  recorded = talked.recorded;
  counted = talked.counted;
  on = talked.on;
  owed = talked.owed;
  alone = talked.alone;
}

-- ---- one message

-- the request that was asked, if one was
abbrev asked_of : Said → List Asked
asked_of (says.Outcome actor event outcome) =
    record { actor = actor; event = event; outcome = outcome } ∷ []
asked_of said = []

-- all of it was said
heard_whole : (peer : Option (List ℕ)) (m : Telegram) (said : Said)
    → meaning_of said ≡ meaning_at peer m
    → AreHeard (end_with said) peer (peer_after peer m.from) (m ∷ []) (asked_of said)
    (spelling (said_message m said))
heard_whole peer m says.Another is = another_over peer m (another_meant peer m (sym is))
heard_whole peer m (says.Fault f) is =
    let means = fault_meant peer m f (sym is) in refused_on peer m f means.0 means.1
heard_whole peer m (says.Outcome actor event outcome) is =
    let means = request_meant peer m actor event (sym is) in
    answered_on peer m (record { actor = actor; event = event; outcome = outcome }) means.0 means.1

-- .. or a front of it
heard_front : (e : SessionFault) (peer : Option (List ℕ)) (m : Telegram) (said : Said)
    (front rest : List ℕ)
    → ends_early e ≡ true → meaning_of said ≡ meaning_at peer m
    → spelling (said_message m said) ≡ front ++ rest
    → AreHeard (Some e) peer (peer_after peer m.from) (m ∷ []) (asked_of said) front
heard_front e peer m says.Another front rest early is parts =
    cut_heard e peer (peer_after peer m.from) (m ∷ []) [] front early
    (over_cut peer (m ∷ []) [] front rest
    (subst (λ t. IsOver peer (m ∷ []) [] t) parts (heard_whole peer m says.Another is)))
heard_front e peer m (says.Fault f) front rest early is parts =
    let q = peer_after peer m.from in
    cut_heard e peer q (m ∷ []) [] front early
    (on_cut peer q (m ∷ []) [] front rest
    (subst (λ t. GoesOn peer q (m ∷ []) [] t) parts (heard_whole peer m (says.Fault f) is)))
heard_front e peer m (says.Outcome actor event outcome) front rest early is parts =
    let q = peer_after peer m.from in
    let asked = asked_of (says.Outcome actor event outcome) in
    cut_heard e peer q (m ∷ []) asked front early
    (on_cut peer q (m ∷ []) asked front rest
    (subst (λ t. GoesOn peer q (m ∷ []) asked t) parts
    (heard_whole peer m (says.Outcome actor event outcome) is)))

still_there : (on : Option ℕ) (old new : ℕ → Bool) → ((t : ℕ) → new t ≡ old t)
    → IfSome on (λ t. old t ≡ true) → IfSome on (λ t. new t ≡ true)
still_there None old new same owed = tt
still_there (Some t) old new same owed = same t ∙ owed

unasked : (f : Option SessionFault) (st : TalkState) (m : Telegram) (u v : Option (List ℕ))
    (s t : Counts) (text : List ℕ)
    → t ≡ s → AreHeard f st.peer (peer_after st.peer m.from) (m ∷ []) [] text → Appends u v text
    → Talked f st (record st { peer = peer_after st.peer m.from }) (m ∷ []) u v s.rows t.rows s.owes
    t.owes
unasked f st m u v s t text same heard written = record {
  asked = [];
  said = text;
  heard = heard;
  written = written;
  recorded = ap (λ (k : Counts). k.rows) same ∙ sym (append-nil s.rows);
  counted = refl;
  on = refl;
  owed = λ owed. still_there st.on s.owes t.owes same_debts owed;
  alone = λ alone x. same_debts x ∙ alone x;
}
  where
    same_debts : (x : ℕ) → t.owes x ≡ s.owes x
    same_debts x = ap (λ (k : Counts). k.owes x) same

talked_so : (f : Option SessionFault) (st : TalkState) (m : Telegram) (said : Said)
    (u v : Option (List ℕ)) (s t : Counts) (text : List ℕ)
    → meaning_of said ≡ meaning_at st.peer m → IsOwn st.on st.peer
    → IsAskedFor IsAskedAt s said t
    → AreHeard f st.peer (peer_after st.peer m.from) (m ∷ []) (asked_of said) text
    → Appends u v text
    → Talked f st (talk_after m.from said st) (m ∷ []) u v s.rows t.rows s.owes t.owes
talked_so f st m (says.Outcome actor event outcome) u v s t text is own asked heard written =
    let means = request_meant st.peer m actor event (sym is) in
    record {
      asked = asked_of (says.Outcome actor event outcome);
      said = text;
      heard = heard;
      written = written;
      recorded = asked.0 ∙ ap (λ rs. s.rows ++ rs)
          (sym (append-nil (row_made actor event outcome)));
      counted = refl;
      on = refl;
      owed = λ owed.
          still_there (signed_by actor event outcome st.on)
          (owed_by actor event outcome s.owes) t.owes asked.1
          (still_owed actor event outcome st.on s.owes owed);
      alone = λ alone x.
          asked.1 x
          ∙ still_alone actor event outcome st.on (peer_after st.peer m.from) s.owes
          (own_met st.on st.peer m.from own)
          (spoken_by st.peer m actor event means.0 means.1) alone x;
    }
talked_so f st m says.Another u v s t text is own asked heard written =
    unasked f st m u v s t text asked heard written
talked_so f st m (says.Fault fault) u v s t text is own asked heard written =
    unasked f st m u v s t text asked heard written

-- what is said to a message was written
pub talked_said : (f : Option SessionFault) (st new : TalkState) (m : Telegram) (said : Said)
    (u v : Option (List ℕ)) (s t : Counts)
    → f ≡ end_with said → meaning_of said ≡ meaning_at st.peer m
    → new ≡ talk_after m.from said st → IsOwn st.on st.peer → IsAskedFor IsAskedAt s said t
    → Appends u v (spelling (said_message m said))
    → Talked f st new (m ∷ []) u v s.rows t.rows s.owes t.owes
talked_said f st new m said u v s t ends is talk own asked written =
    subst (λ n. Talked f st n (m ∷ []) u v s.rows t.rows s.owes t.owes) (sym talk)
    (subst (λ e. Talked e st (talk_after m.from said st) (m ∷ []) u v s.rows t.rows s.owes t.owes)
    (sym ends)
    (talked_so (end_with said) st m said u v s t (spelling (said_message m said)) is own asked
    (heard_whole st.peer m said is) written))

-- .. or a front of it, since the session ends early
pub talked_front : (e : SessionFault) (st new : TalkState) (m : Telegram) (said : Said)
    (u v : Option (List ℕ)) (s t : Counts)
    → ends_early e ≡ true → meaning_of said ≡ meaning_at st.peer m
    → new ≡ talk_after m.from said st → IsOwn st.on st.peer → IsAskedFor IsAskedAt s said t
    → AppendsFront u v (spelling (said_message m said))
    → Talked (Some e) st new (m ∷ []) u v s.rows t.rows s.owes t.owes
talked_front e st new m said u v s t early is talk own asked front =
    subst (λ n. Talked (Some e) st n (m ∷ []) u v s.rows t.rows s.owes t.owes) (sym talk)
    (talked_so (Some e) st m said u v s t front.front is own asked
    (heard_front e st.peer m said front.front front.rest early is front.parts) front.written)

-- the reply to a request was noted
pub asked_noted : (actor : Actor) (event : Event) (outcome : Outcome) (s t : Counts)
    (rows : List Row) (owes : ℕ → Bool)
    → IsAskedFor IsAskedAt s (says.Outcome actor event outcome) t → rows ≡ t.rows
    → ((x : ℕ) → owes x ≡ t.owes x)
    → IsAskedFor IsAskedAt s (says.Outcome actor event outcome) (counts rows owes)
asked_noted actor event outcome s t rows owes asked same owed =
    (same ∙ asked.0, λ x. owed x ∙ asked.1 x)

-- nothing was written
pub front_none : (u : Option (List ℕ)) (text : List ℕ) → AppendsFront u u text
front_none u text = record { front = []; rest = text; parts = refl; written = Appends-none u }

-- ---- messages of a list

pub talked_more : (f : Option SessionFault) (ms : List Telegram) (i : ℕ) (m : Telegram)
    (a b c : TalkState) (u v w : Option (List ℕ)) (x y z : List Row) (h j k : ℕ → Bool)
    → i < length ms → m ≡ get_or ms i m
    → Talked None a b (take i ms) u v x y h j → Talked f b c (m ∷ []) v w y z j k
    → Talked f a c (take (i + 1) ms) u w x z h k
talked_more f ms i m a b c u v w x y z h j k within is one two =
    subst (λ ns. Talked f a c ns u w x z h k)
    (ap (λ t. take i ms ++ t ∷ []) is ∙ sym (take_more ms i m within))
    (talked_then f a b c (take i ms) (m ∷ []) u v w x y z h j k one two)

-- what ended at one of them ended all
pub talked_all : (f : SessionFault) (ms : List Telegram) (i : ℕ) (a b : TalkState)
    (u v : Option (List ℕ)) (x y : List Row) (h j : ℕ → Bool)
    → Talked (Some f) a b (take i ms) u v x y h j → Talked (Some f) a b ms u v x y h j
talked_all f ms i a b u v x y h j talked =
    subst (λ ns. Talked (Some f) a b ns u v x y h j) (take-append-drop i ms)
    (talked_longer f a b (take i ms) (drop i ms) u v x y h j talked)
