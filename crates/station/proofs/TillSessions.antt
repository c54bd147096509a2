-- Each till that is signed on was signed on by a session that lasts.
use Rattle.std.proofs.Common.{◌≡◌, ◌≢◌, ℕ, ◌==◌, Bool, true, false, List, [], ◌∷◌, ◌++◌, Option}
use Rattle.std.proofs.Common.{Some, None, Result, Ok, Err, ◌⊎◌, inl, inr, drop, refl, ap, sym}
use Rattle.std.proofs.Common.{subst, ◌∙◌, append-nil, arith}
use Rattle.std.specs.Prelude.{if◌then◌else◌, is_none, is_ok, option_map, unwrap_or}
use Rattle.std.proofs.lemmas.Bool.{false≢true}
use Rattle.std.proofs.lemmas.Bool.Decides.{nat_tests}
use Rattle.std.proofs.lemmas.Grind.{common_steps}
use Rattle.site_base.specs.declared.actor.Actor.{Actor}
use Rattle.site_base.specs.declared.actor.Actor.TheVariants.{Dispenser, Till}
use Rattle.site_base.specs.declared.answer.Answer.{Answer}
use Rattle.site_base.specs.declared.event.Event.{Event}
use Rattle.site_base.specs.declared.event.Event.TheVariants.{Offline, SignOff, SignOn, Terminate}
use Rattle.site_base.specs.declared.refusal.NoRow.TheVariants as norow
use Rattle.site_base.specs.declared.refusal.Refusal.{Refusal}
use Rattle.site_base.specs.declared.row.Row.{Row}
use Rattle.site_base.specs.SignChanges.{sign_change}
use Rattle.device_map.proofs.Results.{equal}
use Rattle.written_site.specs.RowWords.{signing_of, signing_said}
use Rattle.written_site.specs.SiteState.{SiteState, is_signed_on, opening}
use Rattle.written_site.proofs.Histories.{site_of_rows-push}
use Rattle.written_site.proofs.SigningLaws.{signed_row}
use Rattle.site_book.specs.Book.{Book, book_reply, is_full, next_row, site_of_book, with_row_of}
use Rattle.site_book.proofs.Books.{forgets_alone}
use Rattle.peer_talk.specs.Exchanges.{Outcome, row_made, signed_with}
use Rattle.peer_talk.specs.Talks.{IsOwn, IsSpokenBy}
use Rattle.station.specs.declared.peer_end.PeerEnd.{PeerEnd}
use Rattle.station.specs.Laws.{HasSession}
use Rattle.station.specs.Gates.{GateState}
use Rattle.station.specs.Moves.{StationState, rows_since, with_book, with_own_row, with_turn}
use Rattle.station.specs.Moves.{admits_at, without_old_rows}
use Rattle.station.specs.Peers.{peer_at, tell_rows, till_off, with_notices}
use Rattle.station.specs.Runs.{Move, after, after_move, opening_station}
use Rattle.conversation.specs.Books.{outcome_at, with_outcome}
use Rattle.station.specs.Sessions.{Session, Turn, ask, end_session, opening_session}
use Rattle.station.specs.Sessions.{without_till}
use Rattle.station.proofs.Keeping.{Acts, Keeps, Leads, after_input, booked_keeps, each_moved}
use Rattle.station.proofs.Keeping.{heard_keeps, key_of, moved_keeps, turn_at, with_slot}
use Rattle.station.proofs.Leaving.{AreOwn, IsOwnSession, NoneOff, each_own, own_at, own_kept}
use Rattle.station.proofs.Leaving.{rows_forget, rows_keep_on, serves_till, signed_off}
use Rattle.station.proofs.Turns.{Grows, grows_none, left-grows, outcome-grows, since, since_then}
use Rattle.station.proofs.Turns.{turns_grow, with_row-grows}
use Rattle.station.proofs.Peers.{other_key, peer_at-map, peer_at-other, peer_at-same}

-- ---- a row

row_signed : (b : Book) (actor : Actor) (event : Event) (u : ℕ)
    → is_signed_on (site_of_book (with_row_of b actor event)) u
    ≡ unwrap_or (signing_of u (next_row b actor event)) (is_signed_on (site_of_book b) u)
row_signed b actor event u =
    ap (λ (s : SiteState). is_signed_on s u)
    (site_of_rows-push (opening b.config) b.rows (next_row b actor event))
    ∙ signed_row u (site_of_book b) (next_row b actor event) refl

-- the sign-off of another till changes nothing of this one
pub still_on : (b : Book) (v u : ℕ) → (v == u) ≡ false
    → is_signed_on (site_of_book (without_till (Some v) b)) u ≡ is_signed_on (site_of_book b) u
still_on b v u other = by_test (is_signed_on (site_of_book b) v)
  where
    unsaid : (ok before : Bool)
        → unwrap_or (if ok then signing_said u (Till v) SignOff else None) before ≡ before
    unsaid true before = rw other refl
    unsaid false before = refl

    by_test : (on : Bool)
        → is_signed_on (site_of_book (if on then with_row_of b (Till v) SignOff else b)) u
        ≡ is_signed_on (site_of_book b) u
    by_test true =
        row_signed b (Till v) SignOff u
        ∙ unsaid (is_ok (next_row b (Till v) SignOff).reply) (is_signed_on (site_of_book b) u)
    by_test false = refl

-- ---- a turn, that began at this book with a session that had signed this till on

-- a till was signed on by the session, which lasts; or it was signed on before, not by it, and none
-- of the rows since signs it off
abbrev IsSignedFor : Book → Option ℕ → Turn → ℕ → Type 0
IsSignedFor b on t u =
    ((t.session.end ≡ None) × (t.session.talk.on ≡ Some u))
    ⊎ ((is_signed_on (site_of_book b) u ≡ true) × (on ≢ Some u)
    × NoneOff u (rows_since b t.book))

abbrev AreSignedFor : Book → Option ℕ → Turn → Type 0
AreSignedFor b on t = (u : ℕ) → is_signed_on (site_of_book t.book) u ≡ true
    → IsSignedFor b on t u

other_till : (v u : ℕ) → (v == u) ≡ false → Some v ≢ Some u
other_till v u other is =
    let same : v ≡ u = cc in
    grind (arith, nat_tests)

-- ---- rows that sign a till off

none_off : (u : ℕ) (b : Book) → NoneOff u (rows_since b b)
none_off u b = subst (NoneOff u) (sym (since b b (grows_none b))) tt

none_off-append : (u : ℕ) (rows more : List Row) → NoneOff u rows → NoneOff u more
    → NoneOff u (rows ++ more)
none_off-append u [] more none later = later
none_off-append u (r ∷ rows) more none later = (none.0, none_off-append u rows more none.1 later)

-- none of one part, and none of the next
none_off-then : (u : ℕ) (a b c : Book) → Grows a b → Grows b c → NoneOff u (rows_since a b)
    → NoneOff u (rows_since b c) → NoneOff u (rows_since a c)
none_off-then u a b c one two first second =
    subst (NoneOff u) (sym (since_then a b c one two))
    (none_off-append u (rows_since a b) (rows_since b c) first second)

-- a row that signs a till off says so
off_says : (actor : Actor) (event : Event) (reply : Result Answer Refusal) (u : ℕ)
    → till_off (sign_change actor event reply) ≡ Some u
    → (if is_ok reply then signing_said u actor event else None) ≡ Some false
off_says actor event reply u is = grind (arith, nat_tests, common_steps)

-- .. so one that says nothing of this till, or that it is signed on, doesn't
made_none : (b : Book) (actor : Actor) (event : Event) (outcome : Outcome) (u : ℕ)
    → ((reply : Result Answer Refusal) → outcome ≡ Ok reply
    → (if is_ok reply then signing_said u actor event else None) ≢ Some false)
    → NoneOff u (rows_since b (with_outcome actor event outcome b))
made_none b actor event outcome u other =
    subst (NoneOff u)
    (sym (since b (with_outcome actor event outcome b) (outcome-grows actor event outcome b)))
    (by_outcome outcome other)
  where
    by_outcome : (o : Outcome)
        → ((reply : Result Answer Refusal) → o ≡ Ok reply
        → (if is_ok reply then signing_said u actor event else None) ≢ Some false)
        → NoneOff u (row_made actor event o)
    by_outcome (Err no_row) other = tt
    by_outcome (Ok reply) other = (λ off. other reply refl (off_says actor event reply u off), tt)

-- nor does the sign-off of another till
left_none : (v u : ℕ) (b : Book) → (v == u) ≡ false
    → NoneOff u (rows_since b (without_till (Some v) b))
left_none v u b other = by_test (is_signed_on (site_of_book b) v)
  where
    row : Row
    row = next_row b (Till v) SignOff

    apart : (reply : Result Answer Refusal) → till_off (sign_change (Till v) SignOff reply) ≢ Some u
    apart (Ok answer) is = other_till v u other is
    apart (Err refusal) is = cc

    by_test : (on : Bool)
        → NoneOff u (rows_since b (if on then with_row_of b (Till v) SignOff else b))
    by_test true =
        subst (NoneOff u)
        (sym (since b (with_row_of b (Till v) SignOff) (with_row-grows b (Till v) SignOff)))
        (apart row.reply, tt)
    by_test false = none_off u b

start_for : (t : Turn) → t.session.end ≡ None → AreSignedFor t.book t.session.talk.on t
start_for t lasts u signed = by_on t.session.talk.on refl
  where
    by_on : (o : Option ℕ) → t.session.talk.on ≡ o → IsSignedFor t.book o t u
    by_on None is = inr (signed, (λ no. cc), none_off u t.book)
    by_on (Some v) is = by_till (v == u) refl
      where
        by_till : (b : Bool) → (v == u) ≡ b → IsSignedFor t.book (Some v) t u
        by_till true at = inl (lasts, is ∙ ap (λ (n : ℕ). Some n) (equal v u at))
        by_till false at = inr (signed, other_till v u at, none_off u t.book)

-- the session ends
ended_for : (b : Book) (on : Option ℕ) (end : PeerEnd) (t : Turn) → Grows b t.book
    → AreSignedFor b on t → AreSignedFor b on (end_session end t)
ended_for b on end t grows all u signed = by_on t.session.talk.on refl signed
  where
    another : t.session.talk.on ≢ Some u
        → NoneOff u (rows_since t.book (end_session end t).book) → IsSignedFor b on t u
        → IsSignedFor b on (end_session end t) u
    another never none (inl its) = absurd (never its.1)
    another never none (inr was) = inr (
      was.0,
      was.1,
      none_off-then u b t.book (end_session end t).book grows
          (left-grows t.session.talk.on t.book) was.2 none,
    )

    by_on : (o : Option ℕ) → t.session.talk.on ≡ o
        → is_signed_on (site_of_book (without_till o t.book)) u ≡ true
        → IsSignedFor b on (end_session end t) u
    by_on None is on_then =
        another (λ its. let no : None ≡ Some u = sym is ∙ its in cc)
        (subst (λ o. NoneOff u (rows_since t.book (without_till o t.book))) (sym is)
        (none_off u t.book))
        (all u on_then)
    by_on (Some v) is on_then = by_till (v == u) refl
      where
        by_till : (same : Bool) → (v == u) ≡ same → IsSignedFor b on (end_session end t) u
        by_till true at =
            absurd (false≢true (sym (signed_off t.book v)
            ∙ ap (λ (n : ℕ). is_signed_on (site_of_book (without_till (Some v) t.book)) n)
            (equal v u at) ∙ on_then))
        by_till false at =
            another (λ its. other_till v u at (sym is ∙ its))
            (subst (λ o. NoneOff u (rows_since t.book (without_till o t.book))) (sym is)
            (left_none v u t.book at))
            (all u (sym (still_on t.book v u at) ∙ on_then))

-- ---- a request

-- a row that signs this till on is one by which the session has signed it on
signs_on : (actor : Actor) (event : Event) (reply : Result Answer Refusal) (on : Option ℕ) (u : ℕ)
    → (if is_ok reply then signing_said u actor event else None) ≡ Some true
    → signed_with (sign_change actor event reply) on ≡ Some u
signs_on actor event reply on u is = grind (arith, nat_tests, common_steps)

-- one that says nothing of it leaves it to the session, which asks for no other
keeps_on : (actor : Actor) (event : Event) (reply : Result Answer Refusal) (on : Option ℕ) (u : ℕ)
    → ((v : ℕ) → actor ≡ Till v → v ≡ u)
    → (if is_ok reply then signing_said u actor event else None) ≡ None → on ≡ Some u
    → signed_with (sign_change actor event reply) on ≡ Some u
keeps_on (Till v) event reply on u own none is =
    let same : v ≡ u = own v refl in
    grind (arith, nat_tests, common_steps)
keeps_on actor event reply on u own none is = is

-- what a request is answered is no row, or the book's reply
abbrev IsOutcome : Book → Actor → Event → Outcome → Type 0
IsOutcome b actor event (Ok reply) = reply ≡ book_reply b actor event
IsOutcome b actor event (Err no_row) = Unit {0}

outcome_is : (memory : Bool) (b : Book) (actor : Actor) (event : Event)
    → IsOutcome b actor event (outcome_at memory b actor event)
outcome_is false b actor event = tt
outcome_is true b actor event = by_full (is_full b)
  where
    by_full : (full : Bool) → IsOutcome b actor event (if full then Err norow.BookFull
        else Ok (book_reply b actor event))
    by_full true = tt
    by_full false = refl

abbrev told_so : Result Answer Refusal → Outcome
told_so reply = Ok reply

ok_same : (a b : Result Answer Refusal) → told_so a ≡ told_so b → a ≡ b
ok_same a b is = cc

one_till : (actor : Actor) (peer : Option (List ℕ)) (u v : ℕ) → IsSpokenBy actor peer
    → IsOwn (Some u) peer → actor ≡ Till v → v ≡ u
one_till actor peer u v spoken own is = by_peer peer (subst (λ a. IsSpokenBy a peer) is spoken) own
  where
    by_peer : (p : Option (List ℕ)) → IsOwn (Some v) p → IsOwn (Some u) p → v ≡ u
    by_peer None its own = absurd its
    by_peer (Some node) its own = sym its.1 ∙ own.1

asked_for : (b : Book) (on : Option ℕ) (memory : Bool) (actor : Actor) (event : Event) (t : Turn)
    → t.session.end ≡ None → IsSpokenBy actor t.session.talk.peer → IsOwnSession t.session
    → Grows b t.book → AreSignedFor b on t
    → AreSignedFor b on (ask actor event (outcome_at memory t.book actor event) t)
asked_for b on memory actor event t lasts spoken own grows all u signed =
    by_outcome (outcome_at memory t.book actor event) (outcome_is memory t.book actor event) signed
  where
    after : Outcome → Turn
    after outcome = ask actor event outcome t

    -- it was signed on before, and the row says nothing of it
    kept_for : (outcome : Outcome) → NoneOff u (rows_since t.book (after outcome).book)
        → (t.session.talk.on ≡ Some u → (after outcome).session.talk.on ≡ Some u)
        → IsSignedFor b on t u → IsSignedFor b on (after outcome) u
    kept_for outcome none stays (inl its) = inl (lasts, stays its.1)
    kept_for outcome none stays (inr was) = inr (
      was.0,
      was.1,
      none_off-then u b t.book (after outcome).book grows
          (outcome-grows actor event outcome t.book) was.2 none,
    )

    by_signing : (reply : Result Answer Refusal) → reply ≡ book_reply t.book actor event
        → (said : Option Bool)
        → (if is_ok reply then signing_said u actor event else None) ≡ said
        → unwrap_or said (is_signed_on (site_of_book t.book) u) ≡ true
        → IsSignedFor b on (after (Ok reply)) u
    by_signing reply row (Some true) is signed =
        inl (lasts, signs_on actor event reply t.session.talk.on u is)
    by_signing reply row (Some false) is signed = absurd (false≢true signed)
    by_signing reply row None is signed =
        kept_for (Ok reply)
        (made_none t.book actor event (Ok reply) u
        (λ given same off. let no : None ≡ Some false = sym is ∙ ap (λ (r : Result Answer Refusal).
        if is_ok r then signing_said u actor event else None) (ok_same reply given same) ∙ off in
        cc))
        (λ its.
        keeps_on actor event reply t.session.talk.on u
        (λ v is. one_till actor t.session.talk.peer u v spoken
        (subst (λ o. IsOwn o t.session.talk.peer) its own) is) is its)
        (all u signed)

    by_outcome : (outcome : Outcome) → IsOutcome t.book actor event outcome
        → is_signed_on (site_of_book (with_outcome actor event outcome t.book)) u ≡ true
        → IsSignedFor b on (after outcome) u
    by_outcome (Err no_row) made signed =
        kept_for (Err no_row) (made_none t.book actor event (Err no_row) u
        (λ reply same. absurd cc))
        (λ its. its)
        (all u (ap (λ (rows : List Row). is_signed_on (site_of_book (record t.book { rows = rows })) u)
        (sym (append-nil t.book.rows)) ∙ signed))
    by_outcome (Ok reply) made signed =
        by_signing reply made (if is_ok reply then signing_said u actor event else None) refl
        (ap (λ (r : Result Answer Refusal). unwrap_or
        (if is_ok r then signing_said u actor event else None)
        (is_signed_on (site_of_book t.book) u)) made
        ∙ sym (row_signed t.book actor event u)
        ∙ ap (λ (r : Result Answer Refusal).
        is_signed_on (site_of_book (with_outcome actor event (Ok r) t.book)) u) (sym made)
        ∙ signed)

-- whatever comes of its peer, each till that is signed on was signed on by it or before
abbrev IsTurnFor : Book → Option ℕ → Turn → Type 0
IsTurnFor b on t = IsOwnSession t.session × Grows b t.book × AreSignedFor b on t

signed_for : (b : Book) (on : Option ℕ) → Keeps (IsTurnFor b on)
signed_for b on = record {
  serves = λ from t lasts all. (own_kept.serves from t lasts all.0, all.1, all.2);
  asks = λ memory m actor event t lasts is spoken all. (
    own_kept.asks memory m actor event t lasts is spoken all.0,
    (turns_grow b).asks memory m actor event t lasts is spoken all.1,
    asked_for b on memory actor event t lasts spoken all.0 all.1 all.2,
  );
  tells = λ text t lasts all. all;
  ends = λ end t lasts all. (
    all.0,
    (turns_grow b).ends end t lasts all.1,
    ended_for b on end t all.1 all.2,
  );
}

-- ---- a move

abbrev TillsHave : StationState → Type 0
TillsHave s = (u : ℕ) → is_signed_on (site_of_book s.book) u ≡ true → HasSession s u

-- one key has one session
one_session : (s : StationState) (k j : ℕ) (x y : Session) → peer_at s.peers k ≡ Some x
    → peer_at s.peers j ≡ Some y → k ≡ j → x ≡ y
one_session s k j x y here there same =
    let both : Some x ≡ Some y = sym here ∙ ap (peer_at s.peers) same ∙ there in
    cc

-- a session stays where another slot changes
elsewhere : (k : ℕ) (y : Option Session) (s : StationState) (u : ℕ) (h : HasSession s u)
    → (k ≡ h.key → HasSession (with_slot k y s) u) → HasSession (with_slot k y s) u
elsewhere k y s u h here = by_key (k == h.key) refl
  where
    by_key : (b : Bool) → (k == h.key) ≡ b → HasSession (with_slot k y s) u
    by_key true same = here (equal k h.key same)
    by_key false same = record {
      key = h.key;
      session = h.session;
      there = peer_at-other k h.key y s.peers (other_key k h.key same) ∙ h.there;
      lasts = h.lasts;
      on = h.on;
    }

-- a session has still signed its till on when it was told of rows that don't sign it off
abbrev has_told : (rows : List Row) (b : Book) (s : StationState) (u : ℕ)
    → AreOwn s → HasSession s u
    → NoneOff u rows
    → HasSession (record s { book = b; peers = with_notices rows s.peers }) u
has_told rows b s u own h none =
    let till = serves_till h.session u h.on (own_at s h.key h.session own h.there) in
    record {
      key = h.key;
      session = tell_rows rows h.session;
      there = peer_at-map (option_map (tell_rows rows)) h.key s.peers refl
          ∙ ap (option_map (tell_rows rows)) h.there;
      lasts = (rows_forget rows h.session till).end ∙ h.lasts;
      on = rows_keep_on rows h.session u till none h.on;
    }

turn_have : (k : ℕ) (t : Turn) (s : StationState) (x : Session) → peer_at s.peers k ≡ Some x
    → AreOwn s → AreSignedFor s.book x.talk.on t → TillsHave s → TillsHave (with_turn k t s)
turn_have k t s x here own its all u signed = by_whom (its u signed)
  where
    rows : List Row
    rows = rows_since s.book t.book

    noticed : StationState
    noticed = record s { book = t.book; peers = with_notices rows s.peers }

    by_whom : IsSignedFor s.book x.talk.on t u → HasSession (with_turn k t s) u
    by_whom (inl its) = record {
      key = k;
      session = t.session;
      there = peer_at-same k (Some t.session) noticed.peers;
      lasts = its.0;
      on = its.1;
    }
    by_whom (inr was) =
        let h = all u was.0 in
        elsewhere k (Some t.session) noticed u
        (has_told rows t.book s u own h was.2)
        (λ same. absurd (was.1 (ap (λ (z : Session). z.talk.on)
        (one_session s k h.key x h.session here h.there same) ∙ h.on)))

have_lead : (k : ℕ) (s : StationState) → AreOwn s → TillsHave s → Leads TillsHave k s
have_lead k s own all = record {
  stays = all;
  comes = λ door none place u signed.
      let h = all u signed in
      elsewhere k (Some (opening_session door)) s u h
      (λ same. absurd (let no : None ≡ Some h.session =
      sym none ∙ ap (peer_at s.peers) same ∙ h.there in cc));
  turns = λ input x there lasts.
      let t = turn_at s x in
      let admits = admits_at k x.door s in
      let start : IsTurnFor s.book x.talk.on t =
      (own_at s k x own there, grows_none s.book, start_for t lasts) in
      let signed =
      heard_keeps (signed_for s.book x.talk.on) admits input t lasts start (λ piece. start) in
      turn_have k (after_input admits input t) s x there own signed.2 all;
  takes = λ n x there u signed.
      let h = all u signed in
      let later : Session = record x { owed = drop n x.owed } in
      elsewhere k (Some later) s u h
      (λ same.
      let one = one_session s k h.key x h.session there h.there same in
      record {
        key = k;
        session = later;
        there = peer_at-same k (Some later) s.peers;
        lasts = ap (λ (z : Session). z.end) one ∙ h.lasts;
        on = ap (λ (z : Session). z.talk.on) one ∙ h.on;
      });
  leaves = λ later x there over still u signed.
      let h = still u signed in
      elsewhere k None later u h
      (λ same.
      let one = one_session later k h.key x h.session there h.there same in
      absurd (false≢true (sym over ∙ ap (λ (z : Session). is_none z.end) one
      ∙ ap (λ e. is_none e) h.lasts)));
}

-- ---- the station itself

-- if this till is signed on, a session has signed it on
abbrev HasOrOff : ℕ → StationState → Type 0
HasOrOff u s = is_signed_on (site_of_book s.book) u ≡ true → HasSession s u

-- a row of the station's own that says nothing of this till
own_has : (memory : Bool) (actor : Actor) (event : Event) (s : StationState) (u : ℕ) → AreOwn s
    → signing_said u actor event ≡ None → HasOrOff u s
    → HasOrOff u (with_own_row memory actor event s)
own_has memory actor event s u own silent has signed =
    by_outcome (outcome_at memory s.book actor event) (outcome_is memory s.book actor event) signed
  where
    unsaid : (reply : Result Answer Refusal)
        → (if is_ok reply then signing_said u actor event else None) ≡ None
    unsaid (Ok answer) = silent
    unsaid (Err refusal) = refl

    none : (outcome : Outcome)
        → NoneOff u (rows_since s.book (with_outcome actor event outcome s.book))
    none outcome =
        made_none s.book actor event outcome u
        (λ reply same off. let no : None ≡ Some false = sym (unsaid reply) ∙ off in cc)

    by_outcome : (outcome : Outcome) → IsOutcome s.book actor event outcome
        → is_signed_on (site_of_book (with_outcome actor event outcome s.book)) u ≡ true
        → HasSession (with_book (with_outcome actor event outcome s.book) s) u
    by_outcome (Err no_row) made signed =
        has_told _ _ s u own (has (ap (λ (rows : List Row).
        is_signed_on (site_of_book (record s.book { rows = rows })) u)
        (sym (append-nil s.book.rows)) ∙ signed)) (none (Err no_row))
    by_outcome (Ok reply) made signed =
        has_told _ _ s u own
        (has (ap (λ (o : Option Bool). unwrap_or o (is_signed_on (site_of_book s.book) u))
        (sym (unsaid (book_reply s.book actor event)))
        ∙ sym (row_signed s.book actor event u)
        ∙ ap (λ (r : Result Answer Refusal).
        is_signed_on (site_of_book (with_outcome actor event (Ok r) s.book)) u) (sym made)
        ∙ signed)) (none (Ok reply))

-- the house till leaves
house_leaves : (t : ℕ) (s : StationState) (u : ℕ) → AreOwn s → ((t == u) ≡ false → HasOrOff u s)
    → HasOrOff u (with_book (without_till (Some t) s.book) s)
house_leaves t s u own has signed = by_till (t == u) refl
  where
    by_till : (same : Bool) → (t == u) ≡ same
        → HasSession (with_book (without_till (Some t) s.book) s) u
    by_till true at =
        absurd (false≢true (sym (signed_off s.book t)
        ∙ ap (λ (n : ℕ). is_signed_on (site_of_book (without_till (Some t) s.book)) n)
        (equal t u at) ∙ signed))
    by_till false at =
        has_told _ _ s u own (has at (sym (still_on s.book t u at) ∙ signed))
        (left_none t u s.book at)

-- a till that signs on says nothing of another
says_no_other : (t u : ℕ) → (t == u) ≡ false → signing_said u (Till t) SignOn ≡ None
says_no_other t u other = rw other refl

have_act : (s : StationState) → AreOwn s → TillsHave s → Acts TillsHave s
have_act s own all = record {
  ends_release = λ on off t p house released u.
      let first = with_own_row on (Till t) SignOn s in
      let second = with_own_row off (Till t) (Terminate p) first in
      let first_own = booked_keeps each_own first.book s own in
      house_leaves t second u (booked_keeps each_own second.book first first_own)
      (λ other.
      own_has off (Till t) (Terminate p) first u first_own refl
      (own_has on (Till t) SignOn s u own (says_no_other t u other) (all u)));
  loses = λ memory p gone u.
      own_has memory (Dispenser p) (Offline p) s u own refl (all u);
}

-- rows that are forgotten sign nobody on
forgets_have : (s : StationState) → TillsHave s → TillsHave (without_old_rows s)
forgets_have s all u signed =
    let h = all u (ap (λ (x : SiteState). is_signed_on x u) (sym (forgets_alone s.book).site)
    ∙ signed) in
    record {
      key = h.key;
      session = h.session;
      there = h.there;
      lasts = h.lasts;
      on = h.on;
    }

moves_have : (ms : List Move) (s : StationState) → AreOwn s → TillsHave s → TillsHave (after ms s)
moves_have [] s own all = all
moves_have (m ∷ ms) s own all =
    moves_have ms (after_move m s) (each_moved each_own m s own)
    (moved_keeps TillsHave m s (have_lead (key_of m) s own all) (have_act s own all)
    (λ is. forgets_have s all))

pub tills_have : (g : GateState) (b : Book) (ms : List Move)
    → ((u : ℕ) → is_signed_on (site_of_book b) u ≡ false)
    → TillsHave (after ms (opening_station g b))
tills_have g b ms off =
    moves_have ms (opening_station g b) (λ k. tt)
    (λ u signed. absurd (false≢true (sym (off u) ∙ signed)))
