-- While no row is added, what is done for one peer leaves what another may be told.
use Rattle.std.proofs.Common.{◌≡◌, ◌≢◌, ℕ, zero, suc, ◌+◌, ◌<◌, ◌≤◌, ◌==◌, Bool, true, false, List}
use Rattle.std.proofs.Common.{[], ◌∷◌, Option, Some, None, refl, ap, sym, subst, ◌∙◌, inl}
use Rattle.std.proofs.Common.{◌++◌, append-nil, append_assoc, inr, length, arith, drop, take, Result, Ok, Err}
use Rattle.std.proofs.lemmas.Bool.Decides.{nat_tests}
use Rattle.std.proofs.lemmas.List.{drop_all, length-append, take_all}
use Rattle.std.specs.Io.KnownBytes.{Appends}
use Rattle.std.specs.Prelude.{◌⊎◌, if◌then◌else◌, is_none, is_some, nat_lt, option_map, slice_get}
use Rattle.std.specs.Prelude.{OnOk}
use Rattle.site_base.specs.declared.row.Row.{Row}
use Rattle.site_book.specs.Book.{Book}
use Rattle.station.specs.Moves.{StationState, admits_at, finish_at, free, rows_since, take_by}
use Rattle.station.specs.Moves.{with_end, with_taken, with_turn, without_peer}
use Rattle.station.specs.declared.peer_end.PeerEnd.TheVariants as ends
use Rattle.station.specs.declared.sizes.TheConstants.{NOTICE_LIMIT}
use Rattle.station.specs.Listening.{listener}
use Rattle.station.specs.Notices.{row_notice}
use Rattle.station.specs.Peers.{forget_till, peer_at, row_off, tell_notice, tell_row, tell_rows}
use Rattle.station.specs.Peers.{with_notices, with_peer}
use Rattle.station.specs.Reads.{owed_at, owed_to}
use Rattle.station.specs.Runs.{Arrives, EndsRelease, Finishes, Forgets, Leaves, Loses, Move, Says}
use Rattle.station.specs.Runs.{Takes, after, after_move}
use Rattle.station.specs.Sessions.{Session, Turn, finish}
use Rattle.devices.proofs.KnownBytes.{Appends-none, Appends-then}
use Rattle.station.proofs.Keeping.{NoMore}
use Rattle.station.proofs.Notices.{with_notices-none}
use Rattle.station.proofs.Peers.{peer_at-map, peer_at-other}
use Rattle.station.proofs.Turns.{Grows, grows_none, grows_then, input-grows}
use Rattle.journal.specs.Stored.{JournalState, StoredState, has_stored, is_all_stored, told_at}
use Rattle.peer_connections.specs.declared.link.Link.{Link}
use Rattle.peer_connections.specs.Allowed.{IsClosing, IsSending}
use Rattle.peer_connections.specs.Due.{is_due}
use Rattle.peer_connections.specs.Links.{ArePaired, OthersStay, has_link}
use Rattle.peer_connections.specs.Reaches.{AreAllowed, ReachesBy}
use Rattle.peer_connections.specs.Sending.{AllAreSentTo, AreSentTo, IsSentTo, StopsAt}
use Rattle.peer_connections.specs.Streams.{AllContinue, Continues, SendsAndFollows, SendsStream}
use Rattle.peer_connections.specs.Streams.{known_at, known_of}
use Rattle.peer_connections.proofs.Known.{was_there}
use Rattle.peer_connections.proofs.Reaching.{reaches_closing}
use Rattle.peer_connections.proofs.Sent.{told_none}

-- ---- what rows add to what a peer is owed

-- these octets, and perhaps more behind them
pub record Extends (old new : List ℕ) : Type 0 where
  pub added : List ℕ
  pub owed : new ≡ old ++ added

extends_same : (old new : List ℕ) → new ≡ old → Extends old new
extends_same old new same = record { added = []; owed = same ∙ sym (append-nil old) }

extends_then : (a b c : List ℕ) → Extends a b → Extends b c → Extends a c
extends_then a b c one two = record {
  added = one.added ++ two.added;
  owed = two.owed ∙ ap (λ (l : List ℕ). l ++ two.added) one.owed
      ∙ append_assoc a one.added two.added;
}

noticed_more : (notice : Option (List ℕ)) (x : Session)
    → Extends x.owed (tell_notice notice x).owed
noticed_more None x = extends_same x.owed x.owed refl
noticed_more (Some octets) x = by_test (nat_lt NOTICE_LIMIT (length x.owed))
  where
    by_test : (b : Bool) → Extends x.owed (if b then record x { end = Some ends.Behind }
        else record x { owed = x.owed ++ octets }).owed
    by_test true = extends_same x.owed x.owed refl
    by_test false = record { added = octets; owed = refl }

forgotten_same : (t : Option ℕ) (x : Session) → (forget_till t x).owed ≡ x.owed
forgotten_same None x = refl
forgotten_same (Some t) x = by_test (is_none x.end) _ refl
  where
    by_test : (b : Bool) (y : Session) → y.owed ≡ x.owed → (if b then y else x).owed ≡ x.owed
    by_test true y same = same
    by_test false y same = refl

told_more : (rows : List Row) (x : Session) → Extends x.owed (tell_rows rows x).owed
told_more [] x = extends_same x.owed x.owed refl
told_more (r ∷ rows) x =
    let noticed = tell_notice (row_notice (listener x.end x.talk.peer) r) x in
    extends_then x.owed (tell_row r x).owed (tell_rows rows (tell_row r x)).owed
    (extends_then x.owed noticed.owed (tell_row r x).owed
    (noticed_more (row_notice (listener x.end x.talk.peer) r) x)
    (extends_same noticed.owed (tell_row r x).owed (forgotten_same (row_off r) noticed)))
    (told_more rows (tell_row r x))

peer_told_more : (rows : List Row) (y : Option Session)
    → Extends (owed_to y) (owed_to (option_map (tell_rows rows) y))
peer_told_more rows None = extends_same [] [] refl
peer_told_more rows (Some x) = told_more rows x

-- ---- moves of one key

-- The book goes on, and what any peer but that of key j is owed stays, and perhaps more comes
-- behind it; where the book has no more rows, it stays as it was.
record Spares (j k : ℕ) (s t : StationState) : Type 0 where
  grows : Grows s.book t.book
  more : k ≢ j → Extends (owed_at s k) (owed_at t k)
  same : k ≢ j → length t.book.rows ≡ length s.book.rows
      → peer_at t.peers k ≡ peer_at s.peers k

-- a peer that stays as it was
owes_same : (k : ℕ) (s t : StationState) → peer_at t.peers k ≡ peer_at s.peers k
    → Extends (owed_at s k) (owed_at t k)
owes_same k s t same = extends_same (owed_at s k) (owed_at t k) (ap owed_to same)

longer : (a b : Book) → Grows a b → length a.rows ≤ length b.rows
longer a b g =
    let long = ap length g.rows ∙ length-append a.rows g.more in omega (arith, long)

spares_same : (j k : ℕ) (s : StationState) → Spares j k s s
spares_same j k s = record {
  grows = grows_none s.book;
  more = λ other. owes_same k s s refl;
  same = λ other few. refl;
}

spares_then : (j k : ℕ) (s t u : StationState) → Spares j k s t → Spares j k t u
    → Spares j k s u
spares_then j k s t u one two = record {
  grows = grows_then s.book t.book u.book one.grows two.grows;
  more = λ other. extends_then (owed_at s k) (owed_at t k) (owed_at u k) (one.more other)
      (two.more other);
  same = λ other few.
      let first = longer s.book t.book one.grows in
      let last = longer t.book u.book two.grows in
      two.same other (omega (arith, first, last, few))
      ∙ one.same other (omega (arith, first, last, few));
}

spares_turn : (j k : ℕ) (x : Session) (s : StationState) → x.end ≡ None
    → Spares j k s (with_turn j (finish (record { book = s.book; session = x })) s)
spares_turn j k x s lasts = record {
  grows = input-grows (admits_at j x.door s) NoMore (record { book = s.book; session = x }) lasts;
  more = λ other.
      let turn : Turn = finish (record { book = s.book; session = x }) in
      let rows : List Row = rows_since s.book turn.book in
      let there : peer_at (with_peer j (Some turn.session) (with_notices rows s.peers)) k
      ≡ option_map (tell_rows rows) (peer_at s.peers k) =
      peer_at-other j k (Some turn.session) (with_notices rows s.peers) other
      ∙ peer_at-map (option_map (tell_rows rows)) k s.peers refl in
      subst (λ (y : Option Session). Extends (owed_at s k) (owed_to y)) (sym there)
      (peer_told_more rows (peer_at s.peers k));
  same = λ other few.
      let turn : Turn = finish (record { book = s.book; session = x }) in
      let none : rows_since s.book turn.book ≡ [] =
      drop_all (length s.book.rows) turn.book.rows (omega (arith, few)) in
      peer_at-other j k (Some turn.session) (with_notices (rows_since s.book turn.book) s.peers)
      other
      ∙ ap (λ (rows : List Row). peer_at (with_notices rows s.peers) k) none
      ∙ ap (λ (peers : List (Option Session)). peer_at peers k) (with_notices-none s.peers);
}

spares_finish : (j k : ℕ) (y : Option Session) (s : StationState)
    → Spares j k s (finish_at j y s)
spares_finish j k None s = spares_same j k s
spares_finish j k (Some x) s = by_test (is_none x.end) refl
  where
    turn : Turn
    turn = finish (record { book = s.book; session = x })

    by_test : (b : Bool) → is_none x.end ≡ b
        → Spares j k s (if b then with_turn j turn s else s)
    by_test true is = spares_turn j k x s (by_end x.end is)
      where
        by_end : {E : Type 0} (e : Option E) → is_none e ≡ true → e ≡ None
        by_end None lasts = refl
        by_end (Some end) lasts = absurd (let never : false ≡ true = lasts in cc)
    by_test false is = spares_same j k s

spares_freed : (j k : ℕ) (y : Option Session) (s : StationState) → Spares j k s (free j y s)
spares_freed j k None s = spares_same j k s
spares_freed j k (Some x) s = record {
  grows = grows_none s.book;
  more = λ other. owes_same k s (free j (Some x) s) (peer_at-other j k None s.peers other);
  same = λ other few. peer_at-other j k None s.peers other;
}

spares_taken : (j k n : ℕ) (y : Option Session) (s : StationState)
    → Spares j k s (take_by j n y s)
spares_taken j k n None s = spares_same j k s
spares_taken j k n (Some x) s = record {
  grows = grows_none s.book;
  more = λ other. owes_same k s (take_by j n (Some x) s)
      (peer_at-other j k (Some (record x { owed = drop n x.owed })) s.peers other);
  same = λ other few.
      peer_at-other j k (Some (record x { owed = drop n x.owed })) s.peers other;
}

spares_move : (j k : ℕ) (m : Move) (s : StationState) → IsClosing j m s
    → Spares j k s (after_move m s)
spares_move j k (Takes i n) s is =
    subst (λ (i : ℕ). Spares j k s (with_taken i n s)) (sym is)
    (spares_taken j k n (peer_at s.peers j) s)
spares_move j k (Finishes i) s is =
    subst (λ (i : ℕ). Spares j k s (with_end i s)) (sym is)
    (spares_finish j k (peer_at s.peers j) s)
spares_move j k (Leaves i) s is =
    let ended = with_end j s in
    subst (λ (i : ℕ). Spares j k s (without_peer i s)) (sym is.0)
    (spares_then j k s ended (without_peer j s) (spares_finish j k (peer_at s.peers j) s)
    (spares_freed j k (peer_at ended.peers j) ended))
spares_move j k (Arrives i door) s is = absurd is
spares_move j k (Says memory i octets) s is = absurd is
spares_move j k (EndsRelease on off p) s is = absurd is
spares_move j k (Loses memory p) s is = absurd is
spares_move j k Forgets s is = absurd is

spares_moves : (j k : ℕ) (ms : List Move) (s : StationState) → AreAllowed (IsClosing j) ms s
    → Spares j k s (after ms s)
spares_moves j k [] s all = spares_same j k s
spares_moves j k (m ∷ ms) s all =
    let next = after_move m s in
    spares_then j k s next (after ms next) (spares_move j k m s all.0)
    (spares_moves j k ms next all.1)

spares : (j k : ℕ) (s t : StoredState) → ReachesBy (IsClosing j) s t
    → Spares j k s.station t.station
spares j k s t by =
    subst (Spares j k s.station) (sym by.lead) (spares_moves j k by.moves s.station by.only)

pub owed_more : (j k : ℕ) (s t : StoredState) → k ≢ j → ReachesBy (IsClosing j) s t
    → Extends (owed_at s.station k) (owed_at t.station k)
owed_more j k s t other by = (spares j k s t by).more other

-- ---- who was sent to

count_rows : StoredState → ℕ
count_rows s = length s.station.book.rows

-- the book has as many rows, or more
pub rows_stay : (j : ℕ) (s t : StoredState) → ReachesBy (IsClosing j) s t
    → length s.station.book.rows ≤ length t.station.book.rows
rows_stay j s t by = longer s.station.book t.station.book (spares j j s t by).grows

told_as : (k : ℕ) (s t : StoredState) → t.journal ≡ s.journal
    → length t.station.book.rows ≡ length s.station.book.rows
    → peer_at t.station.peers k ≡ peer_at s.station.peers k → told_at t k ≡ told_at s k
told_as k s t journal few same =
    ap (λ (j : Option JournalState).
    if has_stored (length t.station.book.rows) j then owed_at t.station k else []) journal
    ∙ ap (λ (n : ℕ). if has_stored n s.journal then owed_at t.station k else []) few
    ∙ ap (λ (y : Option Session). if is_all_stored s then owed_to y else []) same

sent_other : {S : Type 0} (j k : ℕ) (s t : StoredState) (links links' : List (Option (Link S)))
    → k ≢ j → ReachesBy (IsClosing j) s t → t.journal ≡ s.journal
    → length t.station.book.rows ≡ length s.station.book.rows → OthersStay j links links'
    → IsSentTo k s links → IsSentTo k t links'
sent_other j k s t links links' other by journal few stay (inl none) =
    inl (told_as k s t journal few ((spares j k s t by).same other few) ∙ none)
sent_other {S = S} j k s t links links' other by journal few stay (inr stops) =
    inr (subst (λ (l : Option (Link S)). StopsAt l) (sym (stay.1 k other)) stops)

-- one more of those that are due is sent to
due_first : (due : List ℕ) (at key k : ℕ) → slice_get due at ≡ Some key
    → is_due (take (suc at) due) k ≡ true → (key ≡ k) ⊎ (is_due (take at due) k ≡ true)
due_first [] at key k is now = absurd (let never : None ≡ Some key = is in cc)
due_first (j ∷ due) zero key k is now = by_key (j == k) refl now
  where
    by_key : (b : Bool) → (j == k) ≡ b → (if b then true else false) ≡ true
        → (key ≡ k) ⊎ (false ≡ true)
    by_key true same _ =
        let here : j ≡ k = grind (arith, nat_tests) in
        let found : Some j ≡ Some key = is in
        let first : j ≡ key = cc in inl (sym first ∙ here)
    by_key false other later = inr later
due_first (j ∷ due) (suc at) key k is now =
    by_key (j == k) (λ later. due_first due at key k is later) now
  where
    by_key : (b : Bool)
        → (is_due (take (suc at) due) k ≡ true → (key ≡ k) ⊎ (is_due (take at due) k ≡ true))
        → (if b then true else is_due (take (suc at) due) k) ≡ true
        → (key ≡ k) ⊎ ((if b then true else is_due (take at due) k) ≡ true)
    by_key true first _ = inr refl
    by_key false first later = first later

pub sent_up_to : {S : Type 0} (at key : ℕ) (due : List ℕ) (s t : StoredState)
    (links links' : List (Option (Link S))) → slice_get due at ≡ Some key
    → ReachesBy (IsClosing key) s t → t.journal ≡ s.journal
    → length t.station.book.rows ≡ length s.station.book.rows → OthersStay key links links'
    → IsSentTo key t links' → AreSentTo (take at due) s links → AreSentTo (take (at + 1) due) t links'
sent_up_to {S = S} at key due s t links links' is by journal few stay this before k now =
    let next : at + 1 ≡ suc at = omega arith in
    by_first (due_first due at key k is
    (subst (λ (n : ℕ). is_due (take n due) k ≡ true) next now))
  where
    by_key : (b : Bool) → (k == key) ≡ b → is_due (take at due) k ≡ true → IsSentTo k t links'
    by_key true same was =
        subst (λ (j : ℕ). IsSentTo j t links') (grind (arith, nat_tests)) this
    by_key false other was =
        sent_other key k s t links links' (grind (arith, nat_tests)) by journal few stay
        (before k was)

    by_first : (key ≡ k) ⊎ (is_due (take at due) k ≡ true) → IsSentTo k t links'
    by_first (inl same) = subst (λ (j : ℕ). IsSentTo j t links') same this
    by_first (inr was) = by_key (k == key) refl was

-- ---- who is sent to, and no more

taken_book : (j n : ℕ) (y : Option Session) (s : StationState) → (take_by j n y s).book ≡ s.book
taken_book j n None s = refl
taken_book j n (Some x) s = refl

book_sending : (j : ℕ) (m : Move) (s : StationState) → IsSending j m s
    → (after_move m s).book ≡ s.book
book_sending j (Takes i n) s is = taken_book i n (peer_at s.peers i) s
book_sending j (Arrives i door) s is = absurd is
book_sending j (Says memory i octets) s is = absurd is
book_sending j (Finishes i) s is = absurd is
book_sending j (Leaves i) s is = absurd is
book_sending j (EndsRelease on off p) s is = absurd is
book_sending j (Loses memory p) s is = absurd is
book_sending j Forgets s is = absurd is

book_all_sending : (j : ℕ) (ms : List Move) (s : StationState) → AreAllowed (IsSending j) ms s
    → (after ms s).book ≡ s.book
book_all_sending j [] s all = refl
book_all_sending j (m ∷ ms) s all =
    book_all_sending j ms (after_move m s) all.1 ∙ book_sending j m s all.0

book_sent : (j : ℕ) (s t : StoredState) → ReachesBy (IsSending j) s t
    → t.station.book ≡ s.station.book
book_sent j s t by =
    ap (λ (u : StationState). u.book) by.lead ∙ book_all_sending j by.moves s.station by.only

-- each below this key was, and so is that of this key
pub sent_one_more : {S : Type 0} (key : ℕ) (s t : StoredState) (links links' : List (Option (Link S)))
    → ReachesBy (IsSending key) s t → t.journal ≡ s.journal → OthersStay key links links'
    → IsSentTo key t links' → AllAreSentTo key s links → AllAreSentTo (key + 1) t links'
sent_one_more {S = S} key s t links links' by journal stay this before k less =
    by_key (k == key) refl
  where
    by_key : (b : Bool) → (k == key) ≡ b → IsSentTo k t links'
    by_key true same =
        subst (λ (j : ℕ). IsSentTo j t links') (grind (arith, nat_tests)) this
    by_key false other =
        sent_other key k s t links links' (grind (arith, nat_tests)) (reaches_closing key s t by)
        journal (ap (λ (b : Book). length b.rows) (book_sent key s t by)) stay
        (before k (grind (arith, nat_tests)))

-- all of them were
pub all_sent : {S : Type 0} (due : List ℕ) (at : ℕ) (s : StoredState)
    (links : List (Option (Link S))) → length due ≤ at → AreSentTo (take at due) s links
    → AreSentTo due s links
all_sent due at s links all sent =
    subst (λ (l : List ℕ). AreSentTo l s links) (take_all at due all) sent

-- each row was stored all the time
pub sent_stored : {S : Type 0} (due : List ℕ) (s t u : StoredState)
    (links : List (Option (Link S))) → is_all_stored s ≡ true → t.journal ≡ s.journal
    → length t.station.book.rows ≡ length s.station.book.rows → u.station ≡ t.station
    → AreSentTo due t links → AreSentTo due u links
sent_stored due s t u links stored journal few same sent k now = by_sent (sent k now)
  where
    still : is_all_stored t ≡ true
    still =
        ap (λ (j : Option JournalState). has_stored (length t.station.book.rows) j) journal
        ∙ ap (λ (n : ℕ). has_stored n s.journal) few ∙ stored

    by_sent : IsSentTo k t links → IsSentTo k u links
    by_sent (inr stops) = inr stops
    by_sent (inl none) =
        inl (told_none k u
        (ap (λ (v : StationState). owed_at v k) same
        ∙ sym (ap (λ (b : Bool). if b then owed_at t.station k else []) still) ∙ none))

pub sent_by : {S : Type 0} (due : List ℕ) (s : StoredState) (links links' : List (Option (Link S)))
    → links' ≡ links → AreSentTo due s links → AreSentTo due s links'
sent_by {S = S} due s links links' same sent =
    subst (λ (l : List (Option (Link S))). AreSentTo due s l) (sym same) sent

pub on_ok : {T E : Type 0} (r : Result T E) (P : Type 0) → P → OnOk r P
on_ok (Ok a) P p = p
on_ok (Err e) P p = tt

-- ---- what connections got

-- nothing yet
pub continue_none : {S : Type 0} (got : S → Option (List ℕ)) (links : List (Option (Link S)))
    (s : StoredState) → AllContinue got links links (λ k. told_at s k) s
continue_none got links s k there = record {
  sent = [];
  written = Appends-none (known_at got links k);
  rest = refl;
}

-- something is done for one of them, and it got so much
continue_by : {S : Type 0} (got : S → Option (List ℕ)) (j : ℕ) (might : ℕ → List ℕ)
    (links a b : List (Option (Link S))) (s t : StoredState) → ReachesBy (IsClosing j) s t
    → t.journal ≡ s.journal → length t.station.book.rows ≡ length s.station.book.rows
    → OthersStay j a b → AllContinue got links a might s
    → (has_link b j ≡ true → Continues got j links b (might j) (told_at t j))
    → AllContinue got links b might t
continue_by {S = S} got j might links a b s t by journal few stay before this k there =
    by_key (k == j) refl
  where
    another : k ≢ j → Continues got k links b (might k) (told_at t k)
    another other =
        let kept = stay.1 k other in
        let was = before k (sym (ap is_some kept) ∙ there) in record {
          sent = was.sent;
          written = subst (λ (u : Option (List ℕ)). Appends (known_at got links k) u was.sent)
              (sym (ap (known_of got) kept)) was.written;
          rest = was.rest ∙ ap (λ (l : List ℕ). was.sent ++ l)
              (sym (told_as k s t journal few ((spares j k s t by).same other few)));
        }

    by_key : (e : Bool) → (k == j) ≡ e → Continues got k links b (might k) (told_at t k)
    by_key true is =
        let at : k ≡ j = grind (arith, nat_tests) in
        subst (λ (i : ℕ). Continues got i links b (might i) (told_at t i)) (sym at)
        (this (subst (λ (i : ℕ). has_link b i ≡ true) at there))
    by_key false is = another (grind (arith, nat_tests))

-- it got this more
continue_more : {S : Type 0} (got : S → Option (List ℕ)) (j : ℕ) (might : List ℕ)
    (links a b : List (Option (Link S))) (s t : StoredState)
    → Continues got j links a might (told_at s j) → (sent : List ℕ)
    → Appends (known_at got a j) (known_at got b j) sent
    → told_at s j ≡ sent ++ told_at t j → Continues got j links b might (told_at t j)
continue_more got j might links a b s t was sent written rest = record {
  sent = was.sent ++ sent;
  written = Appends-then (known_at got links j) (known_at got a j) (known_at got b j) was.sent sent
      was.written written;
  rest = was.rest ∙ ap (λ (l : List ℕ). was.sent ++ l) rest
      ∙ sym (append_assoc was.sent sent (told_at t j));
}

-- one of them is sent to, and follows its session
pub continue_to : {S : Type 0} (got : S → Option (List ℕ)) (j : ℕ) (might : ℕ → List ℕ)
    (links a b : List (Option (Link S))) (s t : StoredState) → SendsAndFollows got j a b s t
    → ReachesBy (IsClosing j) s t → t.journal ≡ s.journal
    → length t.station.book.rows ≡ length s.station.book.rows → OthersStay j a b
    → AllContinue got links a might s → AllContinue got links b might t
continue_to {S = S} got j might links a b s t sends by journal few stay before =
    continue_by got j might links a b s t by journal few stay before (λ is.
    continue_more got j (might j) links a b s t (before j (sends.there is)) sends.sends.sent
    (subst (λ (u : Option (List ℕ)). Appends (known_at got a j) u sends.sends.sent)
    (sym (sends.no_more is).1) sends.sends.written)
    (sends.sends.rest ∙ ap (λ (u : StoredState). sends.sends.sent ++ told_at u j)
    (sym (sends.stays is))))

-- .. or is sent to alone
pub continue_sent : {S : Type 0} (got : S → Option (List ℕ)) (j : ℕ) (might : ℕ → List ℕ)
    (links a b : List (Option (Link S))) (s t : StoredState) → ArePaired a s.station.peers
    → ArePaired b t.station.peers → SendsStream j (known_at got a j) (known_at got b j) s t
    → t.journal ≡ s.journal → OthersStay j a b → AllContinue got links a might s
    → AllContinue got links b might t
continue_sent got j might links a b s t paired paired' sends journal stay before =
    continue_by got j might links a b s t (reaches_closing j s t sends.moves) journal
    (ap (λ (c : Book). length c.rows) (book_sent j s t sends.moves)) stay before (λ is.
    continue_more got j (might j) links a b s t
    (before j (was_there j (known_at got a j) (known_at got b j) a b s t paired paired' sends is))
    sends.sent sends.written sends.rest)

-- each row was stored before
pub continue_from : {S : Type 0} (got : S → Option (List ℕ)) (r s t : StoredState)
    (a b c : List (Option (Link S))) → s.station ≡ r.station → is_all_stored s ≡ true → b ≡ a
    → AllContinue got b c (λ k. told_at s k) t → AllContinue got a c (λ k. owed_at r.station k) t
continue_from {S = S} got r s t a b c first stored ab each k there =
    let was : Continues got k b c (told_at s k) (told_at t k) = each k there in record {
      sent = was.sent;
      written = subst (λ (l : List (Option (Link S))). Appends (known_at got l k)
          (known_at got c k) was.sent) ab was.written;
      rest = ap (λ (v : StationState). owed_at v k) (sym first)
          ∙ sym (ap (λ (e : Bool). if e then owed_at s.station k else []) stored) ∙ was.rest;
    }

-- each row was stored before, and is
pub continue_stored : {S : Type 0} (got : S → Option (List ℕ)) (r s t u : StoredState)
    (a b c d : List (Option (Link S))) → s.station ≡ r.station → is_all_stored s ≡ true → b ≡ a
    → t.journal ≡ s.journal → length t.station.book.rows ≡ length s.station.book.rows
    → u.station ≡ t.station → is_all_stored u ≡ true → d ≡ c
    → AllContinue got b c (λ k. told_at s k) t
    → AllContinue got a d (λ k. owed_at r.station k) u
continue_stored {S = S} got r s t u a b c d first stored ab journal few last all cd each k there =
    record {
      sent = was.sent;
      written = subst (λ (l : List (Option (Link S))). Appends (known_at got l k)
          (known_at got d k) was.sent) ab
          (subst (λ (l : List (Option (Link S))). Appends (known_at got b k) (known_at got l k)
          was.sent) (sym cd) was.written);
      rest = ap (λ (v : StationState). owed_at v k) (sym first)
          ∙ sym (ap (λ (e : Bool). if e then owed_at s.station k else []) stored)
          ∙ was.rest ∙ ap (λ (l : List ℕ). was.sent ++ l) still;
    }
  where
    was : Continues got k b c (told_at s k) (told_at t k)
    was = each k (subst (λ (l : List (Option (Link S))). has_link l k ≡ true) cd there)

    stays : is_all_stored t ≡ true
    stays =
        ap (λ (j : Option JournalState). has_stored (length t.station.book.rows) j) journal
        ∙ ap (λ (n : ℕ). has_stored n s.journal) few ∙ stored

    still : told_at t k ≡ told_at u k
    still =
        ap (λ (e : Bool). if e then owed_at t.station k else []) stays
        ∙ sym (ap (λ (v : StationState). owed_at v k) last)
        ∙ sym (ap (λ (e : Bool). if e then owed_at u.station k else []) all)

pub on_ok_then : {T E : Type 0} (r : Result T E) (Q P : Type 0) → (Q → P) → OnOk r Q → OnOk r P
on_ok_then (Ok a) Q P leads q = leads q
on_ok_then (Err e) Q P leads q = tt
