-- Moves, as one peer sees them.
use Rattle.std.proofs.Common.{◌≡◌, ◌≢◌, inl, inr, ℕ, ◌==◌, Bool, true, false, List, [], ◌∷◌}
use Rattle.std.proofs.Common.{◌++◌, Option, Some, None, refl, ap, sym, subst, ◌∙◌, append_assoc}
use Rattle.std.proofs.Common.{append-nil, take, drop, take-append-drop, map}
use Rattle.std.specs.Prelude.{◌&&◌, if◌then◌else◌, is_none, length, nat_lt, option_map}
use Rattle.std.specs.Prelude.{slice_get}
use Rattle.std.proofs.lemmas.Bool.{false≢true}
use Rattle.site_base.specs.declared.row.Row.{Row}
use Rattle.site_base.specs.Configured.{Configured}
use Rattle.app_message.specs.Stream.{stream_of, walk}
use Rattle.device_map.proofs.Results.{equal}
use Rattle.peer_talk.specs.Exchanges.{outcome_given}
use Rattle.peer_talk.specs.Text.{messages_text, refusal_text}
use Rattle.peer_talk.proofs.Courses.{on_none}
use Rattle.site_book.specs.Book.{Book}
use Rattle.site_book.proofs.Books.{forgets_alone}
use Rattle.station.specs.declared.peer_end.PeerEnd.{PeerEnd}
use Rattle.station.specs.declared.sizes.TheConstants.{FREE_PLACES, READ_LIMIT}
use Rattle.station.specs.Places.{is_place_at}
use Rattle.station.specs.Moves.{StationState, finish_at, hear_from, rows_since, take_by}
use Rattle.station.specs.Moves.{admits_at, with_arrival, with_book, with_turn, without_old_rows}
use Rattle.station.specs.Peers.{tell_rows, peer_at, with_peer, with_notices}
use Rattle.station.specs.Runs.{Arrives, EndsRelease, Finishes, Forgets, Leaves, Loses, Move, Says}
use Rattle.station.specs.Runs.{Stays, Takes, after}
use Rattle.station.specs.Runs.{after_move, arrive, give, give_at, heard_of, heard_with, stays_with}
use Rattle.station.specs.Runs.{taken_with, text_to}
use Rattle.station.specs.Reads.{is_read_at, owed_at}
use Rattle.station.specs.Sessions.{Grants, Session, Turn, finish, hear, is_read, opening_session}
use Rattle.station.specs.Stories.{IsTold, asked_in, is_all_answered, is_unheard, is_whole}
use Rattle.station.specs.Stories.{messages_in}
use Rattle.station.specs.Stories.{refusal_by, refusal_in, rows_in, said_in, told_in}
use Rattle.conversation.specs.Books.{outcome_at}
use Rattle.station.proofs.Keeping.{Acts, Leads, after_input, key_of, lost, moved_keeps, own_acts}
use Rattle.station.proofs.Keeping.{release_ended, turn_at}
use Rattle.station.proofs.Lives.{InCourse, finishes, hears, rows_come, same_course}
use Rattle.station.proofs.Peers.{other_key, peer_at-map, peer_at-other, peer_at-same}
use Rattle.station.proofs.Stories.{notices_are_due}
use Rattle.station.proofs.Turns.{Grows, input-grows, left-grows, outcome-grows, since}

-- ---- the peer of a key in its course

pub record IsSeen (c : Configured) (before : List Row) (had sent : List ℕ) (k : ℕ)
    (s : StationState) : Type 0 where
  pub session : Session
  pub there : peer_at s.peers k ≡ Some session
  pub course : InCourse c before had sent s.book session

-- another's turn
other_turn : (c : Configured) (before : List Row) (had sent : List ℕ) (k j : ℕ) (t : Turn)
    (s : StationState) → k ≢ j → Grows s.book t.book → IsSeen c before had sent k s
    → IsSeen c before had sent k (with_turn j t s)
other_turn c before had sent k j t s other g seen =
    let more = rows_since s.book t.book in
    record {
      session = tell_rows more seen.session;
      there =
          peer_at-other j k (Some t.session) (with_notices more s.peers) other
          ∙ peer_at-map (option_map (tell_rows more)) k s.peers refl
          ∙ ap (option_map (tell_rows more)) seen.there;
      course =
          rows_come c before had sent more s.book t.book seen.session g.same
          (g.rows ∙ ap (λ rs. s.book.rows ++ rs) (sym (since s.book t.book g))) seen.course;
    }

-- another peer in another slot
other_slot : (c : Configured) (before : List Row) (had sent : List ℕ) (k j : ℕ)
    (y : Option Session) (s : StationState) → k ≢ j → IsSeen c before had sent k s
    → IsSeen c before had sent k (record s { peers = with_peer j y s.peers })
other_slot c before had sent k j y s other seen = record {
  session = seen.session;
  there = peer_at-other j k y s.peers other ∙ seen.there;
  course = seen.course;
}

-- its own turn
own_turn : (c : Configured) (before : List Row) (had sent : List ℕ) (k : ℕ) (t : Turn)
    (s : StationState) → InCourse c before had sent t.book t.session
    → IsSeen c before had sent k (with_turn k t s)
own_turn c before had sent k t s course = record {
  session = t.session;
  there = peer_at-same k (Some t.session) (with_notices (rows_since s.book t.book) s.peers);
  course = course;
}

-- ---- its moves

not_read : (x : Session) (end : PeerEnd) → x.end ≡ Some end → is_read x ≡ false
not_read x end over = ap (λ e. is_none e && nat_lt (length x.owed) READ_LIMIT) over

own_says : (c : Configured) (before : List Row) (had sent : List ℕ) (k : ℕ) (memory : Grants)
    (octets : List ℕ) (s : StationState) → (seen : IsSeen c before had sent k s)
    → IsSeen c before had (sent ++ (if is_read seen.session then octets else [])) k
    (hear_from memory k octets (Some seen.session) s)
own_says c before had sent k memory octets s seen = by_course seen.course
  where
    by_course : InCourse c before had sent s.book seen.session
        → IsSeen c before had (sent ++ (if is_read seen.session then octets else [])) k
        (hear_from memory k octets (Some seen.session) s)
    by_course (inl h) = by_test (is_read seen.session)
      where
        by_test : (b : Bool)
            → IsSeen c before had (sent ++ (if b then octets else [])) k
            (if b
            then with_turn k (hear (admits_at k seen.session.door s) memory octets (record {
              book = s.book;
              session = seen.session;
            })) s
            else s)
        by_test true =
            let start : Turn = record { book = s.book; session = seen.session } in
            let admits = admits_at k seen.session.door s in
            own_turn c before had (sent ++ octets) k (hear admits memory octets start) s
            (hears c before had sent octets admits memory start h)
        by_test false = rw (append-nil sent) seen
    by_course (inr d) =
        rw (not_read seen.session d.0 d.1.over, append-nil sent) seen

own_ends : (c : Configured) (before : List Row) (had sent : List ℕ) (k : ℕ) (s : StationState)
    → (seen : IsSeen c before had sent k s)
    → IsSeen c before had sent k (finish_at k (Some seen.session) s)
own_ends c before had sent k s seen = by_course seen.course
  where
    by_course : InCourse c before had sent s.book seen.session
        → IsSeen c before had sent k (finish_at k (Some seen.session) s)
    by_course (inl h) =
        let start : Turn = record { book = s.book; session = seen.session } in
        rw h.living.lasts
        (own_turn c before had sent k (finish start) s
        (inr (finishes c before had sent start h)))
    by_course (inr d) = rw d.1.over seen

-- what was taken and what is left is what was owed
all_owed : (had owed : List ℕ) (n : ℕ) → (had ++ take n owed) ++ drop n owed ≡ had ++ owed
all_owed had owed n =
    append_assoc had (take n owed) (drop n owed) ∙ ap (λ o. had ++ o) (take-append-drop n owed)

own_takes : (c : Configured) (before : List Row) (had sent : List ℕ) (k n : ℕ) (s : StationState)
    → (seen : IsSeen c before had sent k s)
    → IsSeen c before (had ++ take n seen.session.owed) sent k
    (take_by k n (Some seen.session) s)
own_takes c before had sent k n s seen = record {
  session = record seen.session { owed = drop n seen.session.owed };
  there = peer_at-same k _ s.peers;
  course = by_course seen.course;
}
  where
    by_course : InCourse c before had sent s.book seen.session
        → InCourse c before (had ++ take n seen.session.owed) sent s.book
        (record seen.session { owed = drop n seen.session.owed })
    by_course (inl h) = inl (record {
      living = record {
        story = h.living.story;
        config = h.living.config;
        rows = h.living.rows;
        told = all_owed had seen.session.owed n ∙ h.living.told;
        peer = h.living.peer;
        signed = h.living.signed;
        said = h.living.said;
        messages = h.living.messages;
        asked = h.living.asked;
        quiet = h.living.quiet;
        lasts = h.living.lasts;
      };
      holds = h.holds;
      sound = h.sound;
    })
    by_course (inr d) = inr (
      d.0,
      record {
        story = d.1.story;
        refusal = d.1.refusal;
        late = d.1.late;
        rows = d.1.rows;
        told = all_owed had seen.session.owed n ∙ d.1.told;
        unanswered = d.1.unanswered;
        messages = d.1.messages;
        answered = d.1.answered;
        unheard = d.1.unheard;
        refused = d.1.refused;
        asked = d.1.asked;
        quiet = d.1.quiet;
        unsaid = d.1.unsaid;
        text = d.1.text;
        unasked = d.1.unasked;
        requests = d.1.requests;
        whole = d.1.whole;
        signed = d.1.signed;
        over = d.1.over;
      },
    )

-- rows are forgotten
rows_forgotten_seen : (c : Configured) (before : List Row) (had sent : List ℕ) (k : ℕ)
    (s : StationState) → IsSeen c before had sent k s
    → IsSeen c before had sent k (without_old_rows s)
rows_forgotten_seen c before had sent k s seen =
    let alone = forgets_alone s.book in
    record {
      session = seen.session;
      there = seen.there;
      course = same_course c before had sent s.book (without_old_rows s).book seen.session
          alone.config alone.rows seen.course;
    }

-- ---- the station itself

-- the book has come so far
booked_seen : (c : Configured) (before : List Row) (had sent : List ℕ) (k : ℕ) (b : Book)
    (s : StationState) → Grows s.book b → IsSeen c before had sent k s
    → IsSeen c before had sent k (with_book b s)
booked_seen c before had sent k b s g seen =
    let more = rows_since s.book b in
    record {
      session = tell_rows more seen.session;
      there =
          peer_at-map (option_map (tell_rows more)) k s.peers refl
          ∙ ap (option_map (tell_rows more)) seen.there;
      course =
          rows_come c before had sent more s.book b seen.session g.same
          (g.rows ∙ ap (λ rs. s.book.rows ++ rs) (sym (since s.book b g))) seen.course;
    }

seen_acts : (c : Configured) (before : List Row) (had sent : List ℕ) (k : ℕ) (s : StationState)
    → IsSeen c before had sent k s → Acts (IsSeen c before had sent k) s
seen_acts c before had sent k s seen =
    own_acts (IsSeen c before had sent k) (record {
      asks = λ memory actor event s own seen.
          booked_seen c before had sent k _ s
          (outcome-grows actor event (outcome_at memory s.book actor event) s.book) seen;
      leaves = λ t s seen. booked_seen c before had sent k _ s (left-grows (Some t) s.book) seen;
    }) s seen

-- ---- any move

-- a move of another key
other_leads : (c : Configured) (before : List Row) (had sent : List ℕ) (k j : ℕ)
    (s : StationState) → k ≢ j → IsSeen c before had sent k s
    → Leads (IsSeen c before had sent k) j s
other_leads c before had sent k j s other seen = record {
  stays = seen;
  comes = λ door none place.
      other_slot c before had sent k j (Some (opening_session door)) s other seen;
  turns = λ input x there lasts.
      let admits = admits_at j x.door s in
      other_turn c before had sent k j (after_input admits input (turn_at s x)) s other
      (input-grows admits input (turn_at s x) lasts) seen;
  takes = λ n x there. other_slot c before had sent k j _ s other seen;
  leaves = λ later x there over still. other_slot c before had sent k j None later other still;
}

-- nothing is heard of a peer with a move of another key, nor taken by it
unheard : (k : ℕ) (m : Move) (s : StationState) → (key_of m == k) ≡ false
    → heard_with k m s ≡ []
unheard k (Says memory j octets) s other =
    ap (λ b. if b then (if is_read_at s k then octets else []) else []) other
unheard k m s other = refl

pub untaken : (k : ℕ) (m : Move) (s : StationState) → (key_of m == k) ≡ false
    → taken_with k m s ≡ []
untaken k (Takes j n) s other = ap (λ b. if b then take n (owed_at s k) else []) other
untaken k m s other = refl

-- nobody else gets the key of a peer
pub key_taken : (k : ℕ) (door : Option ℕ) (s : StationState) (x : Session)
    → peer_at s.peers k ≡ Some x → arrive k door s ≡ s
key_taken k door s x there = by_door door
  where
    given : (is_place : Bool) (at : Option (List ℕ)) (y : Option Session) → y ≡ Some x
        → give is_place k at y s ≡ s
    given true at (Some z) is = refl
    given false at (Some z) is = refl
    given is_place at None is = absurd cc

    at_door : (place : ℕ) (at : Option (List ℕ)) → give_at k place at s ≡ s
    at_door place None = refl
    at_door place (Some its) = given (is_place_at place k) (Some its) (peer_at s.peers k) there

    by_door : (d : Option ℕ) → arrive k d s ≡ s
    by_door None = given (nat_lt k FREE_PLACES) None (peer_at s.peers k) there
    by_door (Some place) = at_door place (slice_get s.gates.doors place)

own_moves : (c : Configured) (before : List Row) (had sent : List ℕ) (k : ℕ) (m : Move)
    (s : StationState) → (key_of m == k) ≡ true → stays_with k m ≡ true
    → IsSeen c before had sent k s
    → IsSeen c before (had ++ taken_with k m s) (sent ++ heard_with k m s) k (after_move m s)
own_moves c before had sent k (Arrives j door) s own stays seen =
    rw (append-nil had, append-nil sent)
    (subst (IsSeen c before had sent k)
    (sym (key_taken j door s seen.session (ap (peer_at s.peers) (equal j k own) ∙ seen.there)))
    seen)
own_moves c before had sent k (Says memory j octets) s own stays seen =
    rw (own, equal j k own, seen.there, append-nil had)
    (own_says c before had sent k memory octets s seen)
own_moves c before had sent k (Takes j n) s own stays seen =
    rw (own, equal j k own, seen.there, append-nil sent) (own_takes c before had sent k n s seen)
own_moves c before had sent k (Finishes j) s own stays seen =
    rw (equal j k own, seen.there, append-nil had, append-nil sent)
    (own_ends c before had sent k s seen)
own_moves c before had sent k (Leaves j) s own stays seen =
    absurd (let no : false ≡ true = sym (ap (λ b. if b then false else true) own) ∙ stays in cc)
own_moves c before had sent k (EndsRelease on off p) s own stays seen =
    rw (append-nil had, append-nil sent)
    (release_ended s seen (seen_acts c before had sent k s seen) on off p s.gates.house refl)
own_moves c before had sent k (Loses memory p) s own stays seen =
    rw (append-nil had, append-nil sent)
    (lost s seen (seen_acts c before had sent k s seen) memory p)
own_moves c before had sent k Forgets s own stays seen =
    rw (append-nil had, append-nil sent) (rows_forgotten_seen c before had sent k s seen)

pub moves : (c : Configured) (before : List Row) (had sent : List ℕ) (k : ℕ) (m : Move)
    (s : StationState) → stays_with k m ≡ true → IsSeen c before had sent k s
    → IsSeen c before (had ++ taken_with k m s) (sent ++ heard_with k m s) k (after_move m s)
moves c before had sent k m s stays seen = by_key (key_of m == k) refl
  where
    by_key : (b : Bool) → (key_of m == k) ≡ b
        → IsSeen c before (had ++ taken_with k m s) (sent ++ heard_with k m s) k (after_move m s)
    by_key true own = own_moves c before had sent k m s own stays seen
    by_key false is =
        let other = other_key (key_of m) k is in
        rw (untaken k m s is, unheard k m s is, append-nil had, append-nil sent)
        (moved_keeps (IsSeen c before had sent k) m s
        (other_leads c before had sent k (key_of m) s other seen) (seen_acts c before had sent k s seen)
        (λ is. rows_forgotten_seen c before had sent k s seen))

-- ---- what it is told

is_told : (c : Configured) (before : List Row) (had sent : List ℕ) (b : Book) (x : Session)
    → InCourse c before had sent b x → IsTold c before b.rows sent (had ++ x.owed)
    x.talk.on x.end
is_told c before had sent b x (inl h) =
    let l = h.living in
    let ms = (stream_of sent).messages in
    record {
      story = l.story;
      unanswered = [];
      messages = sym (append-nil (messages_in l.story) ∙ l.messages);
      answered = λ is. refl;
      unheard = λ is.
          absurd (false≢true (ap is_unheard (sym l.lasts) ∙ is));
      asked = l.asked;
      unasked = [];
      requests = (let all = l.said.requests [] in rw (append-nil ms) at all);
      refusal = [];
      refused =
          ap (λ e. refusal_by e (refusal_text (stream_of sent).fault) []) (sym l.lasts);
      late = [];
      rows = l.rows ∙ sym (append-nil (before ++ rows_in l.story));
      lasts = λ is. refl;
      told = l.told ∙ sym (append-nil (told_in c before None l.story));
      unsaid = [];
      text =
          ap (λ f. messages_text (refusal_text f) None ms (map outcome_given (asked_in l.story)))
          h.sound
          ∙ (let whole = l.said.text [] [] [] in
          rw (append-nil ms, append-nil (map outcome_given (asked_in l.story))) at whole)
          ∙ sym (append-nil (said_in None l.story ++ []))
          ∙ ap (λ e. (said_in None l.story ++ refusal_in e []) ++ []) (sym l.lasts);
      whole = λ is. (refl, refl);
      signed = λ is. l.signed;
      notices = notices_are_due c before l.story l.quiet;
    }
is_told c before had sent b x (inr d) = record {
  story = d.1.story;
  unanswered = d.1.unanswered;
  messages = d.1.messages;
  answered = λ is. d.1.answered (ap is_all_answered (sym d.1.over) ∙ is);
  unheard = λ is. d.1.unheard (ap is_unheard (sym d.1.over) ∙ is);
  asked = d.1.asked;
  unasked = d.1.unasked;
  requests = d.1.requests;
  refusal = d.1.refusal;
  refused =
      d.1.refused
      ∙ ap (λ e. refusal_by e (refusal_text (stream_of sent).fault) d.1.unanswered)
      (sym d.1.over);
  late = d.1.late;
  rows = d.1.rows;
  lasts = λ none. absurd (let no : Some d.0 ≡ None = sym d.1.over ∙ none in cc);
  told = d.1.told;
  unsaid = d.1.unsaid;
  text =
      d.1.text
      ∙ ap (λ e. (said_in None d.1.story ++ refusal_in e d.1.refusal) ++ d.1.unsaid)
      (sym d.1.over);
  whole = λ is. d.1.whole (ap is_whole (sym d.1.over) ∙ is);
  signed = λ is. d.1.signed (ap is_whole (sym d.1.over) ∙ is);
  notices = notices_are_due c before d.1.story d.1.quiet;
}

pub runs : (c : Configured) (before : List Row) (k : ℕ) (ms : List Move) (had sent : List ℕ)
    (s : StationState) → Stays k ms → IsSeen c before had sent k s
    → (x : Session) × (peer_at (after ms s).peers k ≡ Some x)
    × IsTold c before (after ms s).book.rows (sent ++ heard_of k ms s) (had ++ text_to k ms s)
    x.talk.on x.end
runs c before k [] had sent s stays seen = (
  seen.session,
  seen.there,
  rw (seen.there, append-nil sent) (is_told c before had sent s.book seen.session seen.course),
)
runs c before k (m ∷ ms) had sent s stays seen =
    let next = runs c before k ms (had ++ taken_with k m s) (sent ++ heard_with k m s)
    (after_move m s) stays.1 (moves c before had sent k m s stays.0 seen) in (
      next.0,
      next.1,
      subst (λ o. IsTold c before (after (m ∷ ms) s).book.rows
          (sent ++ heard_of k (m ∷ ms) s) o next.0.talk.on next.0.end)
          (append_assoc had (taken_with k m s) (text_to k ms (after_move m s)))
          (subst (λ o. IsTold c before (after (m ∷ ms) s).book.rows o
          ((had ++ taken_with k m s) ++ text_to k ms (after_move m s)) next.0.talk.on next.0.end)
          (append_assoc sent (heard_with k m s) (heard_of k ms (after_move m s))) next.2),
    )

-- a peer that has just arrived
pub arrives : (k : ℕ) (door : Option (List ℕ)) (s : StationState)
    → IsSeen s.book.config s.book.rows [] [] k (with_arrival k door s)
unfolding walk
arrives k door s = record {
  session = opening_session door;
  there = peer_at-same k (Some (opening_session door)) s.peers;
  course = inl (record {
    living = record {
      story = [];
      config = refl;
      rows = sym (append-nil s.book.rows);
      told = refl;
      peer = refl;
      signed = refl;
      said = on_none None;
      messages = refl;
      asked = tt;
      quiet = tt;
      lasts = refl;
    };
    holds = refl;
    sound = refl;
  });
}
