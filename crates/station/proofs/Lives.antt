-- A session in its course, message after message and piece after piece, and how it ends.
use Rattle.std.proofs.Common.{◌≡◌, ◌≢◌, ◌⊎◌, inl, inr, ℕ, Bool, true, false, List, [], ◌∷◌, ◌++◌}
use Rattle.std.proofs.Common.{map}
use Rattle.std.proofs.Common.{Option, Some, None, Ok, Err, refl, ap, sym, subst, ◌∙◌, append_assoc}
use Rattle.std.proofs.Common.{append-nil}
use Rattle.std.specs.Prelude.{if◌then◌else◌, is_none, length, nat_lt}
use Rattle.std.proofs.lemmas.Bool.{false≢true}
use Rattle.site_base.specs.declared.actor.Actor.{Actor}
use Rattle.site_base.specs.declared.event.Event.{Event}
use Rattle.site_base.specs.declared.row.Row.{Row}
use Rattle.site_base.specs.Configured.{Configured}
use Rattle.app_message.specs.declared.fault.StreamFault.{StreamFault}
use Rattle.app_message.specs.Spelling.{spelling}
use Rattle.app_message.specs.Stream.{Held, Stream, fed_by, held_part, held_after, stream_of}
use Rattle.app_message.specs.Stream.{with_messages}
use Rattle.app_message.specs.Telegram.{Telegram}
use Rattle.app_message.proofs.Cutting.{any_cut}
use Rattle.device_map.specs.declared.fault.MapFault.{MapFault}
use Rattle.device_map.specs.Faults.{map_number}
use Rattle.device_map.specs.Replies.{fault_message}
use Rattle.device_map.specs.Requests.{request_at}
use Rattle.site_book.specs.Book.{Book}
use Rattle.peer_talk.specs.declared.fault.TalkFault.{TalkFault}
use Rattle.peer_talk.specs.declared.fault.TalkFault.TheVariants as talk
use Rattle.peer_talk.specs.declared.fault.TheConstants.{ORIGINATOR_CHANGED}
use Rattle.peer_talk.specs.declared.talk.Meaning.{Meaning}
use Rattle.peer_talk.specs.declared.talk.Meaning.TheVariants as meanings
use Rattle.peer_talk.specs.Exchanges.{Asked, outcome_given, request_asked, row_made, rows_made}
use Rattle.peer_talk.specs.Talks.{TalkState, without_on}
use Rattle.peer_talk.specs.Text.{is_another, left_over, meaning_at, messages_text, number_text}
use Rattle.peer_talk.specs.Text.{outcome_text, peer_after, refusal_text, requests_in}
use Rattle.peer_talk.proofs.Speakers.{another_meant, fault_meant, request_meant, spoken_by}
use Rattle.peer_talk.proofs.Courses.{another_over, answered_on, over_then, refused_on}
use Rattle.station.specs.declared.peer_end.PeerEnd.{PeerEnd}
use Rattle.station.specs.declared.peer_end.PeerEnd.TheVariants as ends
use Rattle.station.specs.declared.sizes.TheConstants.{NOTICE_LIMIT}
use Rattle.station.specs.Notices.{notices_of, octets_of, row_notice}
use Rattle.station.specs.declared.gates.Admission.{Admission}
use Rattle.station.specs.Listening.{listener}
use Rattle.station.specs.Peers.{forget_till, row_off, tell_row, tell_rows, tell_notice}
use Rattle.station.specs.Sessions.{Granted, Grants, Session, Turn, answer, answer_all}
use Rattle.station.specs.Sessions.{answer_meaning, answer_so, end_by, end_session, finish, hear}
use Rattle.conversation.specs.Books.{outcome_at}
use Rattle.station.specs.Sessions.{no_memory, opening_text, refuse_by, serve}
use Rattle.conversation.specs.Books.{with_outcome}
use Rattle.station.specs.Sessions.{admit, take_messages, tell, tell_last}
use Rattle.station.specs.Stories.{AreAsked, Happening, Passes, Speaks, asked_in}
use Rattle.station.specs.Stories.{is_all_answered, is_unheard, peer_in}
use Rattle.station.specs.Stories.{is_whole, messages_in, on_behind, refusal_by, refusal_in, rows_in}
use Rattle.station.specs.Stories.{said_in, signed_in, told_in}
use Rattle.station.proofs.Keeping.{Keeps, admitted_keeps, by_admission, by_fault, by_lasting}
use Rattle.station.proofs.Keeping.{by_memory, by_message, ended_lasts}
use Rattle.station.proofs.Notices.{nobody_noticed}
use Rattle.station.proofs.Quiet.{own_quiet}
use Rattle.station.proofs.Stories.{AreOwnQuiet, IsLiving, passes, speaks}
use Rattle.station.proofs.Turns.{Grows, grows_then, left-grows, outcome-grows}

-- a session that ended so: its text is that of these messages and of what stands last
pub record IsDone (c : Configured) (before : List Row) (had : List ℕ) (all : List Telegram)
    (last : List ℕ) (end : PeerEnd) (b : Book) (x : Session) : Type 0 where
  pub story : List Happening
  pub refusal : List ℕ
  pub late : List Row
  pub rows : b.rows ≡ (before ++ rows_in story) ++ late
  pub told : had ++ x.owed ≡ told_in c before None story ++ refusal
  pub unanswered : List Telegram
  pub messages : all ≡ messages_in story ++ unanswered
  pub answered : is_all_answered (Some end) ≡ true → unanswered ≡ []
  pub unheard : is_unheard (Some end) ≡ true → (messages_in story ≡ []) × (unanswered ≢ [])
  pub refused : refusal ≡ refusal_by (Some end) last unanswered
  pub asked : AreAsked story
  pub quiet : AreOwnQuiet None story
  pub unsaid : List ℕ
  pub text : messages_text last None all (map outcome_given (asked_in story))
      ≡ (said_in None story ++ refusal_in (Some end) refusal) ++ unsaid
  pub unasked : List (Actor × Event)
  pub requests : requests_in None all ≡ map request_asked (asked_in story) ++ unasked
  pub whole : is_whole (Some end) ≡ true → (unsaid ≡ []) × (unasked ≡ [])
  pub signed : is_whole (Some end) ≡ true → x.talk.on ≡ signed_in None story
  pub over : x.end ≡ Some end

-- a session that lasts in these messages, or has ended
abbrev pub Came : Configured → List Row → List ℕ → List Telegram → List Telegram → List ℕ → Book
    → Session → Type 0
Came c before had done all last b x =
    IsLiving c before had done b x
    ⊎ ((end : PeerEnd) × IsDone c before had all last end b x)

-- ---- its ends

-- there was no memory for what comes next
pub stops : (c : Configured) (before : List Row) (had : List ℕ) (done later : List Telegram)
    (last : List ℕ) (b b' : Book) (x x' : Session)
    → IsLiving c before had done b x → Grows b b' → x'.owed ≡ x.owed → x'.end ≡ Some no_memory
    → IsDone c before had (done ++ later) last no_memory b' x'
stops c before had done later last b b' x x' l g owed over = record {
  story = l.story;
  refusal = [];
  late = g.more;
  rows = g.rows ∙ ap (λ rs. rs ++ g.more) l.rows;
  told =
      ap (λ o. had ++ o) owed ∙ l.told ∙ sym (append-nil (told_in c before None l.story));
  unanswered = later;
  messages = ap (λ ms. ms ++ later) (sym l.messages);
  answered = λ is. absurd cc;
  unheard = λ is. absurd cc;
  refused = refl;
  asked = l.asked;
  quiet = l.quiet;
  unasked = requests_in x.talk.peer later;
  requests = l.said.requests later;
  unsaid = messages_text last x.talk.peer later [];
  text =
      ap (messages_text last None (done ++ later))
      (sym (append-nil (map outcome_given (asked_in l.story))))
      ∙ l.said.text last later []
      ∙ ap (λ s. s ++ messages_text last x.talk.peer later [])
      (sym (append-nil (said_in None l.story)));
  whole = λ is. absurd cc;
  signed = λ is. absurd cc;
  over = over;
}

-- all its messages were answered, and what stands last was told
pub closes : (c : Configured) (before : List Row) (had : List ℕ) (done : List Telegram)
    (last : List ℕ) (end : PeerEnd) (b b' : Book) (x x' : Session)
    → IsLiving c before had done b x → Grows b b' → x'.owed ≡ x.owed ++ last → x'.end ≡ Some end
    → last ≡ refusal_by (Some end) last [] → refusal_in (Some end) last ≡ last
    → is_unheard (Some end) ≡ false → x'.talk.on ≡ x.talk.on
    → IsDone c before had done last end b' x'
closes c before had done last end b b' x x' l g owed over refused whole_refusal heard on = record {
  story = l.story;
  refusal = last;
  late = g.more;
  rows = g.rows ∙ ap (λ rs. rs ++ g.more) l.rows;
  told =
      ap (λ o. had ++ o) owed ∙ sym (append_assoc had x.owed last)
      ∙ ap (λ t. t ++ last) l.told;
  unanswered = [];
  messages = sym (append-nil (messages_in l.story) ∙ l.messages);
  answered = λ is. refl;
  unheard = λ is. absurd (false≢true (sym heard ∙ is));
  refused = refused;
  asked = l.asked;
  quiet = l.quiet;
  unasked = [];
  requests = (let all = l.said.requests [] in rw (append-nil done) at all);
  unsaid = [];
  text =
      (let whole = l.said.text last [] [] in
      rw (append-nil done, append-nil (map outcome_given (asked_in l.story))) at whole)
      ∙ ap (λ r. said_in None l.story ++ r) (sym whole_refusal)
      ∙ sym (append-nil (said_in None l.story ++ refusal_in (Some end) last));
  whole = λ is. (refl, refl);
  signed = λ is. on ∙ l.signed;
  over = over;
}

abbrev another_end : PeerEnd
another_end = ends.Talk talk.OriginatorChanged

-- another originator spoke, and was told so
another_closes : (c : Configured) (before : List Row) (had : List ℕ) (done later : List Telegram)
    (m : Telegram) (last : List ℕ) (b b' : Book) (x x' : Session)
    → IsLiving c before had done b x → is_another x.talk.peer m.from ≡ true → Grows b b'
    → x'.owed ≡ x.owed ++ number_text m ORIGINATOR_CHANGED → x'.end ≡ Some another_end
    → x'.talk.on ≡ x.talk.on
    → IsDone c before had (done ++ m ∷ later) last another_end b' x'
another_closes c before had done later m last b b' x x' l other g owed over on =
    let n = number_text m ORIGINATOR_CHANGED in
    let is_over = over_then None x.talk.peer done (m ∷ []) (asked_in l.story) [] (said_in None
    l.story) n l.said (another_over x.talk.peer m other) in
    record {
      story = l.story;
      refusal = n;
      late = g.more;
      rows = g.rows ∙ ap (λ rs. rs ++ g.more) l.rows;
      told =
          ap (λ o. had ++ o) owed ∙ sym (append_assoc had x.owed n)
          ∙ ap (λ t. t ++ n) l.told;
      unanswered = m ∷ later;
      messages = ap (λ ms. ms ++ m ∷ later) (sym l.messages);
      answered = λ is. absurd cc;
      unheard = λ is. absurd cc;
      refused = refl;
      asked = l.asked;
      quiet = l.quiet;
      unasked = [];
      requests =
          (let all = is_over.requests later in
          rw (append_assoc done (m ∷ []) later, append-nil (asked_in l.story)) at all)
          ∙ sym (append-nil (map request_asked (asked_in l.story)));
      unsaid = [];
      text =
          (let whole = is_over.text last later [] in
          rw (
            append_assoc done (m ∷ []) later,
            append-nil (asked_in l.story),
            append-nil (map outcome_given (asked_in l.story)),
          ) at whole)
          ∙ sym (append-nil (said_in None l.story ++ n));
      whole = λ is. (refl, refl);
      signed = λ is. on ∙ l.signed;
      over = over;
    }

-- before anybody has spoken there is no message
served_then : (node : List ℕ) (story : List Happening) → peer_in (Some node) story ≢ None
served_then node [] is = cc
served_then node (Speaks m asked ∷ story) is = served_then node story is
served_then node (Passes r ∷ story) is = served_then node story is

nobody_spoke : (story : List Happening) → peer_in None story ≡ None → messages_in story ≡ []
nobody_spoke [] is = refl
nobody_spoke (Speaks m asked ∷ story) is = absurd (served_then m.from story is)
nobody_spoke (Passes r ∷ story) is = nobody_spoke story is

-- the first message isn't heard, and is told this
unheard_closes : (c : Configured) (before : List Row) (had : List ℕ) (done later : List Telegram)
    (m : Telegram) (last text : List ℕ) (end : PeerEnd) (b b' : Book) (x x' : Session)
    → IsLiving c before had done b x → x.talk.peer ≡ None → Grows b b' → x'.owed ≡ x.owed ++ text
    → x'.end ≡ Some end → is_all_answered (Some end) ≡ false → is_whole (Some end) ≡ false
    → text ≡ refusal_by (Some end) last (m ∷ later) → refusal_in (Some end) text ≡ []
    → IsDone c before had (done ++ m ∷ later) last end b' x'
unheard_closes c before had done later m last text end b b' x x' l nobody g owed over unanswered
    unsaid refused none = record {
      story = l.story;
      refusal = text;
      late = g.more;
      rows = g.rows ∙ ap (λ rs. rs ++ g.more) l.rows;
      told =
          ap (λ o. had ++ o) owed ∙ sym (append_assoc had x.owed text)
          ∙ ap (λ t. t ++ text) l.told;
      unanswered = m ∷ later;
      messages = ap (λ ms. ms ++ m ∷ later) (sym l.messages);
      answered = λ is. absurd (false≢true (sym unanswered ∙ is));
      unheard = λ is. (nobody_spoke l.story (sym l.peer ∙ nobody), λ no. cc);
      refused = refused;
      asked = l.asked;
      quiet = l.quiet;
      unasked = requests_in x.talk.peer (m ∷ later);
      requests = l.said.requests (m ∷ later);
      unsaid = messages_text last x.talk.peer (m ∷ later) [];
      text =
          ap (messages_text last None (done ++ m ∷ later))
          (sym (append-nil (map outcome_given (asked_in l.story))))
          ∙ l.said.text last (m ∷ later) []
          ∙ ap (λ s. s ++ messages_text last x.talk.peer (m ∷ later) [])
          (sym (append-nil (said_in None l.story)))
          ∙ ap (λ r. (said_in None l.story ++ r) ++ messages_text last x.talk.peer (m ∷ later) [])
          (sym none);
      whole = λ is. absurd (false≢true (sym unsaid ∙ is));
      signed = λ is. absurd (false≢true (sym unsaid ∙ is));
      over = over;
    }

-- its originator may not speak there
barred_closes : (c : Configured) (before : List Row) (had : List ℕ) (done later : List Telegram)
    (m : Telegram) (last : List ℕ) (memory : Bool) (t : Turn)
    → IsLiving c before had done t.book t.session → t.session.talk.peer ≡ None
    → (end : PeerEnd) × IsDone c before had (done ++ m ∷ later) last end
    (tell_last memory (number_text m ORIGINATOR_CHANGED) (ends.Barred m.from) t).book
    (tell_last memory (number_text m ORIGINATOR_CHANGED) (ends.Barred m.from) t).session
barred_closes c before had done later m last true t l nobody = (
  ends.Barred m.from,
  unheard_closes c before had done later m last (number_text m ORIGINATOR_CHANGED)
      (ends.Barred m.from) t.book _ t.session _ l nobody (left-grows t.session.talk.on t.book) refl refl
      refl refl refl refl,
)
barred_closes c before had done later m last false t l nobody = (
  no_memory,
  stops c before had done (m ∷ later) last t.book _ t.session _ l
      (left-grows t.session.talk.on t.book) refl refl,
)

-- it has as many sessions as it may
crowded_closes : (c : Configured) (before : List Row) (had : List ℕ) (done later : List Telegram)
    (m : Telegram) (last : List ℕ) (t : Turn) → IsLiving c before had done t.book t.session
    → t.session.talk.peer ≡ None
    → IsDone c before had (done ++ m ∷ later) last (ends.Crowded m.from)
    (end_session (ends.Crowded m.from) t).book (end_session (ends.Crowded m.from) t).session
crowded_closes c before had done later m last t l nobody =
    unheard_closes c before had done later m last [] (ends.Crowded m.from) t.book _ t.session _ l
    nobody (left-grows t.session.talk.on t.book) (sym (append-nil t.session.owed)) refl refl refl refl
    refl

-- ---- a message

another_answered : (c : Configured) (before : List Row) (had : List ℕ) (done later : List Telegram)
    (m : Telegram) (last : List ℕ) (memory : Bool) (t : Turn)
    → IsLiving c before had done t.book t.session → is_another t.session.talk.peer m.from ≡ true
    → (end : PeerEnd) × IsDone c before had (done ++ m ∷ later) last end
    (tell_last memory (number_text m ORIGINATOR_CHANGED) another_end t).book
    (tell_last memory (number_text m ORIGINATOR_CHANGED) another_end t).session
another_answered c before had done later m last true t l other = (
  another_end,
  another_closes c before had done later m last t.book _ t.session _ l other
      (left-grows t.session.talk.on t.book) refl refl refl,
)
another_answered c before had done later m last false t l other = (
  no_memory,
  stops c before had done (m ∷ later) last t.book _ t.session _ l
      (left-grows t.session.talk.on t.book) refl refl,
)

fault_answered : (c : Configured) (before : List Row) (had : List ℕ) (done later : List Telegram)
    (m : Telegram) (last : List ℕ) (f : MapFault) (memory : Bool) (t : Turn)
    → IsLiving c before had done t.book t.session
    → is_another t.session.talk.peer m.from ≡ false → request_at m ≡ Err f
    → Came c before had (done ++ m ∷ []) (done ++ m ∷ later) last
    (tell memory (number_text m (map_number f) ++ opening_text t.session.talk.peer m.from t.book)
    (serve m.from t)).book
    (tell memory (number_text m (map_number f) ++ opening_text t.session.talk.peer m.from t.book)
    (serve m.from t)).session
fault_answered c before had done later m last f true t l same is =
    inl (speaks c before had done t.book t.book t.session _ m [] (number_text m (map_number f)) l
    (refused_on t.session.talk.peer m f same is) refl (sym (append-nil t.book.rows)) refl l.lasts
    refl refl (f, is) refl)
fault_answered c before had done later m last f false t l same is =
    inr (
      no_memory,
      stops c before had done (m ∷ later) last t.book _ t.session _ l
          (left-grows t.session.talk.on t.book) refl refl,
    )

request_answered : (c : Configured) (before : List Row) (had : List ℕ)
    (done later : List Telegram) (m : Telegram) (last : List ℕ) (actor : Actor) (event : Event)
    (row memory : Bool) (t : Turn)
    → IsLiving c before had done t.book t.session
    → is_another t.session.talk.peer m.from ≡ false → request_at m ≡ Ok (actor, event)
    → Came c before had (done ++ m ∷ []) (done ++ m ∷ later) last
    (answer_so memory m actor event (outcome_at row t.book actor event) t.session.talk.peer
    (serve m.from t)).book
    (answer_so memory m actor event (outcome_at row t.book actor event) t.session.talk.peer
    (serve m.from t)).session
request_answered c before had done later m last actor event row true t l same is =
    let outcome = outcome_at row t.book actor event in
    let p = t.session.talk.peer in
    let a : Asked = record { actor = actor; event = event; outcome = outcome } in
    let own = own_quiet row t.book actor event (peer_after p m.from)
    (spoken_by p m actor event same is) in
    let made : rows_made (a ∷ []) ≡ row_made actor event outcome =
    append-nil (row_made actor event outcome) in
    inl (speaks c before had done t.book (with_outcome actor event outcome t.book) t.session _ m
    (a ∷ []) (outcome_text m outcome) l (answered_on p m a same is) refl
    (ap (λ rs. t.book.rows ++ rs) (sym made)) refl l.lasts refl
    (ap (notices_of (peer_after p m.from)) made ∙ own) is refl)
request_answered c before had done later m last actor event row false t l same is =
    let outcome = outcome_at row t.book actor event in
    inr (
      no_memory,
      stops c before had done (m ∷ later) last t.book _ t.session _ l
          (grows_then t.book (with_outcome actor event outcome t.book) _
          (outcome-grows actor event outcome t.book) (left-grows _ _))
          refl refl,
    )

one_answered : (c : Configured) (before : List Row) (had : List ℕ) (done later : List Telegram)
    (m : Telegram) (last : List ℕ) (g : Granted) (t : Turn)
    → IsLiving c before had done t.book t.session
    → Came c before had (done ++ m ∷ []) (done ++ m ∷ later) last (answer g m t).book
    (answer g m t).session
one_answered c before had done later m last g t l =
    by_lasting
    (λ u. Came c before had (done ++ m ∷ []) (done ++ m ∷ later) last u.book u.session) g m t
    (λ lasts. by_meaning (meaning_at t.session.talk.peer m) refl)
    (λ end over. absurd (ended_lasts t.session end over l.lasts))
  where
    by_meaning : (meaning : Meaning) → meaning_at t.session.talk.peer m ≡ meaning
        → Came c before had (done ++ m ∷ []) (done ++ m ∷ later) last
        (answer_meaning g m meaning t).book (answer_meaning g m meaning t).session
    by_meaning meanings.Another is =
        inr (another_answered c before had done later m last g.text t l
        (another_meant t.session.talk.peer m is))
    by_meaning (meanings.Fault f) is =
        let meant = fault_meant t.session.talk.peer m f is in
        fault_answered c before had done later m last f g.text t l meant.0 meant.1
    by_meaning (meanings.Request actor event) is =
        let meant = request_meant t.session.talk.peer m actor event is in
        request_answered c before had done later m last actor event g.row g.text t l meant.0 meant.1

-- ---- messages

-- a session that has these messages to answer still, or has ended
abbrev IsToAnswer : Configured → List Row → List ℕ → List Telegram → List ℕ → List Telegram
    → Turn → Type 0
IsToAnswer c before had all last ms t =
    ((done : List Telegram) × (done ++ ms ≡ all) × IsLiving c before had done t.book t.session)
    ⊎ ((end : PeerEnd) × IsDone c before had all last end t.book t.session)

next_answered : (c : Configured) (before : List Row) (had : List ℕ) (all : List Telegram)
    (last : List ℕ) (g : Granted) (m : Telegram) (ms : List Telegram) (t : Turn)
    → IsToAnswer c before had all last (m ∷ ms) t
    → IsToAnswer c before had all last ms (answer g m t)
next_answered c before had all last g m ms t (inr d) =
    by_lasting (IsToAnswer c before had all last ms) g m t
    (λ lasts. absurd (ended_lasts t.session d.0 d.1.over lasts)) (λ end over. inr d)
next_answered c before had all last g m ms t (inl l) =
    by_came (one_answered c before had l.0 ms m last g t l.2)
  where
    by_came : Came c before had (l.0 ++ m ∷ []) (l.0 ++ m ∷ ms) last (answer g m t).book
        (answer g m t).session → IsToAnswer c before had all last ms (answer g m t)
    by_came (inl on) = inl (l.0 ++ m ∷ [], append_assoc l.0 (m ∷ []) ms ∙ l.1, on)
    by_came (inr d) =
        inr (
          d.0,
          subst (λ ns. IsDone c before had ns last d.0 (answer g m t).book (answer g m t).session)
              l.1 d.1,
        )

all_answered : (c : Configured) (before : List Row) (had : List ℕ) (done : List Telegram)
    (last : List ℕ) (gs : List Granted) (ms : List Telegram) (t : Turn)
    → IsLiving c before had done t.book t.session
    → Came c before had (done ++ ms) (done ++ ms) last (answer_all gs ms t).book
    (answer_all gs ms t).session
all_answered c before had done last gs ms t l =
    by_rest (by_message (IsToAnswer c before had (done ++ ms) last)
    (next_answered c before had (done ++ ms) last) gs ms t (inl (done, refl, l)))
  where
    by_rest : IsToAnswer c before had (done ++ ms) last [] (answer_all gs ms t)
        → Came c before had (done ++ ms) (done ++ ms) last (answer_all gs ms t).book
        (answer_all gs ms t).session
    by_rest (inr d) = inr d
    by_rest (inl on) =
        inl (subst (λ ns. IsLiving c before had ns (answer_all gs ms t).book
        (answer_all gs ms t).session)
        (sym (append-nil on.0) ∙ on.1) on.2)

-- .. the first one if its originator is admitted
all_admitted : (c : Configured) (before : List Row) (had : List ℕ) (done : List Telegram)
    (last : List ℕ) (admits : List ℕ → Admission) (memory : Bool) (gs : List Granted)
    (ms : List Telegram) (t : Turn) → IsLiving c before had done t.book t.session
    → Came c before had (done ++ ms) (done ++ ms) last (admit admits memory gs ms t).book
    (admit admits memory gs ms t).session
all_admitted c before had done last admits memory gs ms t l =
    by_admission (λ u. Came c before had (done ++ ms) (done ++ ms) last u.book u.session) admits
    memory gs ms t (all_answered c before had done last gs ms t l)
    (λ m later is nobody.
    let closed = barred_closes c before had done later m last memory t l nobody in
    inr (closed.0, rw (sym is) at closed.1))
    (λ m later is nobody.
    let closed = crowded_closes c before had done later m last t l nobody in
    inr (ends.Crowded m.from, rw (sym is) at closed))

-- ---- a piece

-- no answer changes what is held of a message to come
still_held : (h : Held) → Keeps (λ t. t.session.held ≡ h)
still_held h = record {
  serves = λ from t lasts is. is;
  asks = λ memory m actor event t lasts asked spoken is. is;
  tells = λ text t lasts is. is;
  ends = λ end t lasts is. is;
}

-- a session that lasts, of which so much was heard
pub record IsHearing (c : Configured) (before : List Row) (had sent : List ℕ) (b : Book)
    (x : Session) : Type 0 where
  pub living : IsLiving c before had (stream_of sent).messages b x
  pub holds : x.held ≡ held_after sent
  pub sound : (stream_of sent).fault ≡ None

abbrev pub IsOverIn : Configured → List Row → List ℕ → List ℕ → Book → Session → Type 0
IsOverIn c before had sent b x =
    (end : PeerEnd) × IsDone c before had (stream_of sent).messages
    (refusal_text (stream_of sent).fault) end b x

-- .. or that has ended
abbrev pub InCourse : Configured → List Row → List ℕ → List ℕ → Book → Session → Type 0
InCourse c before had sent b x = IsHearing c before had sent b x ⊎ IsOverIn c before had sent b x

-- what else a session is doesn't matter to its story
same_living : (c : Configured) (before : List Row) (had : List ℕ) (done : List Telegram) (b : Book)
    (x x' : Session) → IsLiving c before had done b x → x'.talk ≡ x.talk → x'.owed ≡ x.owed
    → x'.end ≡ x.end → IsLiving c before had done b x'
same_living c before had done b x x' l talk owed end = record {
  story = l.story;
  config = l.config;
  rows = l.rows;
  told = ap (λ o. had ++ o) owed ∙ l.told;
  peer = ap (λ (s : TalkState). s.peer) talk ∙ l.peer;
  signed = ap (λ (s : TalkState). s.on) talk ∙ l.signed;
  said = rw talk l.said;
  messages = l.messages;
  asked = l.asked;
  quiet = l.quiet;
  lasts = end ∙ l.lasts;
}

-- the stream of what was heard and a piece
fed_is : (h : Held) (sent piece : List ℕ) → h ≡ held_after sent
    → stream_of (sent ++ piece) ≡ with_messages (stream_of sent).messages (fed_by h piece)
fed_is h sent piece holds =
    any_cut sent piece ∙ ap (λ k. with_messages (stream_of sent).messages (fed_by k piece))
    (sym holds)

fault_told : (c : Configured) (before : List Row) (had : List ℕ) (done : List Telegram)
    (memory : Bool) (text : List ℕ) (end : PeerEnd) (t : Turn)
    → IsLiving c before had done t.book t.session → text ≡ refusal_by (Some end) text []
    → refusal_in (Some end) text ≡ text → is_unheard (Some end) ≡ false
    → (e : PeerEnd) × IsDone c before had done text e (tell_last memory text end t).book
    (tell_last memory text end t).session
fault_told c before had done true text end t l refused whole heard = (
  end,
  closes c before had done text end t.book _ t.session _ l (left-grows t.session.talk.on t.book)
      refl refl refused whole heard refl,
)
fault_told c before had done false text end t l refused whole heard = (
  no_memory,
  (let stopped = stops c before had done [] text t.book (end_session no_memory t).book t.session
      (end_session no_memory t).session l (left-grows t.session.talk.on t.book) refl refl in
      rw (append-nil done) at stopped),
)

-- a fault of the octets is refused
refused : (c : Configured) (before : List Row) (had sent : List ℕ) (memory : Bool)
    (fault : Option StreamFault) (t : Turn) → (stream_of sent).fault ≡ fault
    → t.session.held ≡ held_after sent
    → Came c before had (stream_of sent).messages (stream_of sent).messages (refusal_text fault)
    t.book t.session
    → InCourse c before had sent (refuse_by memory fault t).book
    (refuse_by memory fault t).session
refused c before had sent memory fault t is holds (inl l) =
    by_fault (λ u. InCourse c before had sent u.book u.session) memory fault t
    (λ none. inl (record { living = l; holds = holds; sound = is ∙ none }))
    (λ f some lasts.
    let told = fault_told c before had (stream_of sent).messages memory
    (spelling (fault_message f)) (ends.Talk (talk.Stream f.fault)) t l refl refl refl in
    inr (told.0, rw (is ∙ some) told.1))
    (λ end over. absurd (ended_lasts t.session end over l.lasts))
refused c before had sent memory fault t is holds (inr d) =
    let over : IsOverIn c before had sent t.book t.session = (d.0, rw is d.1) in
    by_fault (λ u. InCourse c before had sent u.book u.session) memory fault t (λ none. inr over)
    (λ f some lasts. absurd (ended_lasts t.session d.0 d.1.over lasts)) (λ end is. inr over)

piece_taken : (c : Configured) (before : List Row) (had sent piece : List ℕ)
    (admits : List ℕ → Admission) (g : Grants) (t : Turn)
    → IsHearing c before had sent t.book t.session
    → InCourse c before had (sent ++ piece)
    (take_messages admits g (fed_by t.session.held piece) t).book
    (take_messages admits g (fed_by t.session.held piece) t).session
piece_taken c before had sent piece admits g t h =
    let fed = fed_by t.session.held piece in
    let is = fed_is t.session.held sent piece h.holds in
    let start : Turn = record t { session = record t.session { held = held_part fed } } in
    let living = same_living c before had (stream_of sent).messages t.book t.session start.session
    h.living refl refl refl in
    let came = all_admitted c before had (stream_of sent).messages (refusal_text fed.fault)
    admits g.first g.messages fed.messages start living in
    let after = admit admits g.first g.messages fed.messages start in
    refused c before had (sent ++ piece) g.refusal fed.fault after
    (ap (λ (s : Stream). s.fault) is)
    (admitted_keeps (still_held start.session.held) admits g.first g.messages fed.messages start
    living.lasts refl
    ∙ sym (ap held_part is))
    (subst (λ all. Came c before had all all (refusal_text fed.fault) after.book after.session)
    (sym (ap (λ (s : Stream). s.messages) is)) came)

piece_lost : (c : Configured) (before : List Row) (had sent piece : List ℕ) (t : Turn)
    → IsHearing c before had sent t.book t.session
    → IsOverIn c before had (sent ++ piece) (end_session no_memory t).book
    (end_session no_memory t).session
piece_lost c before had sent piece t h =
    let fed = fed_by t.session.held piece in (
      no_memory,
      subst (λ (s : Stream). IsDone c before had s.messages (refusal_text s.fault) no_memory
          (end_session no_memory t).book (end_session no_memory t).session)
          (sym (fed_is t.session.held sent piece h.holds))
          (stops c before had (stream_of sent).messages fed.messages (refusal_text fed.fault) t.book
          (end_session no_memory t).book t.session (end_session no_memory t).session h.living
          (left-grows t.session.talk.on t.book) refl refl),
    )

pub hears : (c : Configured) (before : List Row) (had sent piece : List ℕ)
    (admits : List ℕ → Admission) (g : Grants) (t : Turn)
    → IsHearing c before had sent t.book t.session
    → InCourse c before had (sent ++ piece) (hear admits g piece t).book
    (hear admits g piece t).session
hears c before had sent piece admits g t h =
    by_memory (λ u. InCourse c before had (sent ++ piece) u.book u.session) admits g piece t
    (piece_taken c before had sent piece admits g t h)
    (inr (piece_lost c before had sent piece t h))

-- ---- the end of its octets

-- where nothing stands last, and no message is left, nothing is refused
none_refused : (end : PeerEnd) → [] ≡ refusal_by (Some end) [] []
none_refused ends.Well = refl
none_refused ends.Behind = refl
none_refused (ends.Talk talk.OriginatorChanged) = refl
none_refused (ends.Talk (talk.Stream f)) = refl
none_refused (ends.Talk talk.Truncated) = refl
none_refused ends.NoMemory = refl
none_refused (ends.Barred node) = refl
none_refused (ends.Crowded node) = refl

none_whole : (end : PeerEnd) → refusal_in (Some end) [] ≡ []
none_whole (ends.Barred node) = refl
none_whole end = refl

-- a session that lasts closes, and nothing more is told
closed : (c : Configured) (before : List Row) (had sent : List ℕ) (end : PeerEnd) (b b' : Book)
    (x x' : Session) → IsHearing c before had sent b x → Grows b b' → x'.owed ≡ x.owed
    → x'.end ≡ Some end → is_unheard (Some end) ≡ false → x'.talk.on ≡ x.talk.on
    → IsOverIn c before had sent b' x'
closed c before had sent end b b' x x' h g owed over heard on = (
  end,
  rw h.sound
      (closes c before had (stream_of sent).messages [] end b b' x x' h.living g
      (owed ∙ sym (append-nil x.owed)) over (none_refused end) (none_whole end) heard on),
)

-- a session whose octets end has heard its first message, if there was one
ended_heard : (f : Option TalkFault) → is_unheard (Some (end_by f)) ≡ false
ended_heard None = refl
ended_heard (Some f) = refl

pub finishes : (c : Configured) (before : List Row) (had sent : List ℕ) (t : Turn)
    → IsHearing c before had sent t.book t.session
    → IsOverIn c before had sent (finish t).book (finish t).session
finishes c before had sent t h =
    closed c before had sent (end_by (left_over t.session.held.rest)) t.book (finish t).book
    t.session (finish t).session h (left-grows t.session.talk.on t.book) refl refl
    (ended_heard (left_over t.session.held.rest)) refl

-- ---- rows of others

-- a session that has ended forgets nothing
over_forgotten : (off : Option ℕ) (x : Session) (end : PeerEnd) → x.end ≡ Some end
    → forget_till off x ≡ x
over_forgotten None x end over = refl
over_forgotten (Some t) x end over =
    ap (λ e. if is_none e
    then record x { talk = record x.talk { on = without_on t x.talk.on } }
    else x) over

over_unnoticed : (r : Row) (x : Session) (end : PeerEnd) → x.end ≡ Some end → tell_row r x ≡ x
over_unnoticed r x end over =
    ap (λ e. forget_till (row_off r) (tell_notice (row_notice (listener e x.talk.peer) r) x)) over
    ∙ ap (λ n. forget_till (row_off r) (tell_notice n x)) (nobody_noticed r)
    ∙ over_forgotten (row_off r) x end over

-- one that lasts forgets the till that was signed off, and nothing else
record Forgets (off : Option ℕ) (x y : Session) : Type 0 where
  held : y.held ≡ x.held
  peer : y.talk.peer ≡ x.talk.peer
  on : y.talk.on ≡ on_behind off x.talk.on
  owed : y.owed ≡ x.owed
  end : y.end ≡ x.end

lasting_forgets : (off : Option ℕ) (x : Session) → x.end ≡ None
    → Forgets off x (forget_till off x)
lasting_forgets None x lasts =
    record { held = refl; peer = refl; on = refl; owed = refl; end = refl }
lasting_forgets (Some t) x lasts =
    subst (λ b. Forgets (Some t) x (if b
    then record x { talk = record x.talk { on = without_on t x.talk.on } }
    else x)) (sym (ap (λ e. is_none e) lasts))
    (record { held = refl; peer = refl; on = refl; owed = refl; end = refl })

later_rows : (c : Configured) (before : List Row) (had : List ℕ) (all : List Telegram)
    (last : List ℕ) (end : PeerEnd) (b b' : Book) (x : Session)
    → IsDone c before had all last end b x → Grows b b' → IsDone c before had all last end b' x
later_rows c before had all last end b b' x d g = record {
  story = d.story;
  refusal = d.refusal;
  late = d.late ++ g.more;
  rows =
      g.rows ∙ ap (λ rs. rs ++ g.more) d.rows
      ∙ append_assoc (before ++ rows_in d.story) d.late g.more;
  told = d.told;
  unanswered = d.unanswered;
  messages = d.messages;
  answered = d.answered;
  unheard = d.unheard;
  refused = d.refused;
  asked = d.asked;
  quiet = d.quiet;
  unsaid = d.unsaid;
  text = d.text;
  unasked = d.unasked;
  requests = d.requests;
  whole = d.whole;
  signed = d.signed;
  over = d.over;
}

row_passes : (c : Configured) (before : List Row) (had sent : List ℕ) (b : Book) (x : Session)
    (r : Row) → IsHearing c before had sent b x
    → InCourse c before had sent (record b { rows = b.rows ++ r ∷ [] }) (tell_row r x)
row_passes c before had sent b x r h =
    subst (InCourse c before had sent after)
    (sym (ap (λ e. forget_till off (tell_notice (row_notice (listener e x.talk.peer) r) x))
    h.living.lasts))
    (by_notice (row_notice x.talk.peer r) refl)
  where
    after : Book
    after = record b { rows = b.rows ++ r ∷ [] }

    off : Option ℕ
    off = row_off r

    -- told this, and the session lasts
    goes_on : (y : Session) → y.held ≡ x.held → y.talk ≡ x.talk → y.end ≡ None
        → y.owed ≡ x.owed ++ octets_of (row_notice x.talk.peer r)
        → InCourse c before had sent after (forget_till off y)
    goes_on y held talk lasts owed =
        let f = lasting_forgets off y lasts in
        inl (record {
          living = passes c before had (stream_of sent).messages b after x (forget_till off y) r
              h.living refl refl (f.peer ∙ ap (λ (t : TalkState). t.peer) talk)
              (f.on ∙ ap (λ (t : TalkState). on_behind off t.on) talk) (f.end ∙ lasts)
              (f.owed ∙ owed);
          holds = f.held ∙ held ∙ h.holds;
          sound = h.sound;
        })

    by_notice : (n : Option (List ℕ)) → row_notice x.talk.peer r ≡ n
        → InCourse c before had sent after (forget_till off (tell_notice n x))
    by_notice None is =
        goes_on x refl refl h.living.lasts
        (sym (append-nil x.owed) ∙ ap (λ n. x.owed ++ octets_of n) (sym is))
    by_notice (Some octets) is = by_test (nat_lt NOTICE_LIMIT (length x.owed))
      where
        by_test : (behind : Bool)
            → InCourse c before had sent after (forget_till off
            (if behind then record x { end = Some ends.Behind }
            else record x { owed = x.owed ++ octets }))
        by_test true =
            let behind : Session = record x { end = Some ends.Behind } in
            let still = over_forgotten off behind ends.Behind refl in
            inr (closed c before had sent ends.Behind b after x (forget_till off behind) h
            (record { more = r ∷ []; rows = refl; same = refl })
            (ap (λ (y : Session). y.owed) still) (ap (λ (y : Session). y.end) still) refl
            (ap (λ (y : Session). y.talk.on) still))
        by_test false =
            goes_on (record x { owed = x.owed ++ octets }) refl refl h.living.lasts
            (ap (λ n. x.owed ++ octets_of n) (sym is))

row_comes : (c : Configured) (before : List Row) (had sent : List ℕ) (b : Book) (x : Session)
    (r : Row) → InCourse c before had sent b x
    → InCourse c before had sent (record b { rows = b.rows ++ r ∷ [] }) (tell_row r x)
row_comes c before had sent b x r (inl h) = row_passes c before had sent b x r h
row_comes c before had sent b x r (inr d) =
    subst (InCourse c before had sent (record b { rows = b.rows ++ r ∷ [] }))
    (sym (over_unnoticed r x d.0 d.1.over))
    (inr (
      d.0,
      later_rows c before had _ _ d.0 b (record b { rows = b.rows ++ r ∷ [] }) x d.1
          (record { more = r ∷ []; rows = refl; same = refl }),
    ))

-- what a book has forgotten doesn't matter to a session's course
pub same_course : (c : Configured) (before : List Row) (had sent : List ℕ) (b b' : Book)
    (x : Session) → b'.config ≡ b.config → b'.rows ≡ b.rows → InCourse c before had sent b x
    → InCourse c before had sent b' x
same_course c before had sent b b' x same rows (inl h) =
    let l = h.living in
    inl (record {
      living = record {
        story = l.story;
        config = same ∙ l.config;
        rows = rows ∙ l.rows;
        told = l.told;
        peer = l.peer;
        signed = l.signed;
        said = l.said;
        messages = l.messages;
        asked = l.asked;
        quiet = l.quiet;
        lasts = l.lasts;
      };
      holds = h.holds;
      sound = h.sound;
    })
same_course c before had sent b b' x same rows (inr d) =
    inr (
      d.0,
      later_rows c before had _ _ d.0 b b' x d.1
          (record { more = []; rows = rows ∙ sym (append-nil b.rows); same = same }),
    )

pub rows_come : (c : Configured) (before : List Row) (had sent : List ℕ) (more : List Row)
    (b b' : Book) (x : Session) → b'.config ≡ b.config → b'.rows ≡ b.rows ++ more
    → InCourse c before had sent b x → InCourse c before had sent b' (tell_rows more x)
rows_come c before had sent [] b b' x same rows course =
    same_course c before had sent b b' x same (rows ∙ append-nil b.rows) course
rows_come c before had sent (r ∷ more) b b' x same rows course =
    rows_come c before had sent more (record b { rows = b.rows ++ r ∷ [] }) b' (tell_row r x) same
    (rows ∙ sym (append_assoc b.rows (r ∷ []) more)) (row_comes c before had sent b x r course)
