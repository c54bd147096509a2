-- A peer is heard, and sent to, call after call.
use Rattle.std.proofs.Common.{◌≡◌, ℕ, List, [], ◌∷◌, ◌++◌, Bool, true, false, drop, length, take}
use Rattle.std.proofs.Common.{Option, Some, None, refl, sym, ap, subst, ◌∙◌, append_assoc}
use Rattle.std.proofs.Common.{arith, suc, take-append-drop, zero, ◌≤◌}
use Rattle.std.specs.Prelude.{if◌then◌else◌}
use Rattle.std.specs.Io.KnownBytes.{Appends, Consumes}
use Rattle.site_book.specs.Book.{Book}
use Rattle.devices.proofs.KnownBytes.{Appends-none, Appends-then, Consumes-none}
use Rattle.devices.proofs.KnownBytes.{Consumes-then}
use Rattle.station.specs.Moves.{StationState, take_by, with_taken}
use Rattle.station.specs.Peers.{peer_at}
use Rattle.station.specs.Reads.{is_read_at, owed_at, owed_to}
use Rattle.station.specs.Runs.{Move}
use Rattle.station.specs.Sessions.{Session}
use Rattle.station.proofs.Peers.{peer_at-same}
use Rattle.journal.specs.Memory.{HasRoomToHear, IsSameOrForgets}
use Rattle.journal.specs.Stored.{JournalGoesOn, StoredState, has_stored, is_all_stored, told_at}
use Rattle.journal.specs.Stored.{with_station}
use Rattle.connection_calls.specs.declared.call.Call.{Call}
use Rattle.connection_calls.specs.declared.call.Call.TheVariants.{Ended, Failed, Interrupted}
use Rattle.connection_calls.specs.declared.call.Call.TheVariants.{Passed, Waits}
use Rattle.peer_connections.specs.Allowed.{IsHearing, IsSending}
use Rattle.peer_connections.specs.Calls.{HearsCall, HearsWithRoom, SendsCall}
use Rattle.peer_connections.specs.Reaches.{ReachesBy}
use Rattle.peer_connections.specs.Streams.{HearsStream, SendsStream, said_in, said_with}
use Rattle.peer_connections.proofs.Linking.{others_same, others_set}
use Rattle.peer_connections.proofs.Reaching.{goes_same, moves_of_both, moves_of_same, reaches_any}
use Rattle.peer_connections.proofs.Reaching.{reaches_kept, reaches_read, reaches_ready}
use Rattle.peer_connections.proofs.Reaching.{reaches_same, reaches_then, reaches_written, said_read}
use Rattle.peer_connections.proofs.Reaching.{said_ready}

-- ---- what is heard

-- octets that come with moves, and with more
said_both : (ms more : List Move) → said_in (ms ++ more) ≡ said_in ms ++ said_in more
said_both [] more = refl
said_both (m ∷ ms) more =
    ap (λ (s : List ℕ). said_with m ++ s) (said_both ms more)
    ∙ sym (append_assoc (said_with m) (said_in ms) (said_in more))

-- nothing was read, and nothing is done
pub heard_none : (key : ℕ) (left left' : Option (List ℕ)) (s t : StoredState) → left' ≡ left
    → t ≡ s → HearsStream key left left' s t
heard_none key left left' s t same stays = record {
  moves = reaches_same (IsHearing key) s t stays;
  read = subst (λ (ms : List Move). Consumes left left' (said_in ms))
      (sym (moves_of_same (IsHearing key) s t stays))
      (subst (λ (u : Option (List ℕ)). Consumes left u []) (sym same) (Consumes-none left));
}

-- one call, and then more
pub heard_then : (key : ℕ) (a b c : Option (List ℕ)) (s t u : StoredState)
    → HearsStream key a b s t → HearsStream key b c t u → HearsStream key a c s u
heard_then key a b c s t u one two = record {
  moves = reaches_then (IsHearing key) s t u one.moves two.moves;
  read = subst (λ (ms : List Move). Consumes a c (said_in ms))
      (sym (moves_of_both (IsHearing key) s t u one.moves two.moves))
      (subst (Consumes a c) (sym (said_both one.moves.moves two.moves.moves))
      (Consumes-then a b c (said_in one.moves.moves) (said_in two.moves.moves) one.read
      two.read));
}

-- .. of the same connection
pub heard_as : (key : ℕ) (a b c : Option (List ℕ)) (s t : StoredState) → c ≡ b
    → HearsStream key a b s t → HearsStream key a c s t
heard_as key a b c s t same heard =
    subst (λ (u : Option (List ℕ)). HearsStream key a u s t) (sym same) heard

-- nothing is read while the station makes room
pub heard_ready : (key : ℕ) (left left' : Option (List ℕ)) (s t : StoredState) → left' ≡ left
    → IsSameOrForgets s.station t.station → JournalGoesOn s.journal t.journal
    → HearsStream key left left' s t
heard_ready key left left' s t same made goes = record {
  moves = reaches_ready key s t made goes;
  read = subst (Consumes left left') (sym (said_ready key s t made goes))
      (subst (λ (u : Option (List ℕ)). Consumes left u []) (sym same) (Consumes-none left));
}

-- one read
heard_read : (call : Call) (key : ℕ) (left left' : Option (List ℕ)) (s t : StoredState)
    → HasRoomToHear s.station.book → is_read_at s.station key ≡ true
    → HearsCall call key left left' s.station t.station
    → JournalGoesOn s.journal t.journal → HearsStream key left left' s t
heard_read call key left left' s t room read hears goes = record {
  moves = reaches_read call key left left' s t room read hears goes;
  read = said_read call key left left' s t room read hears goes;
}

-- .. for which room was made
pub heard_with_room : (call : Call) (key : ℕ) (left left' : Option (List ℕ)) (s t : StoredState)
    → HearsWithRoom call key left left' s.station t.station → JournalGoesOn s.journal t.journal
    → HearsStream key left left' s t
heard_with_room call key left left' s t hears goes =
    let ready = with_station hears.ready s in
    heard_then key left left left' s ready t
    (heard_ready key left left s ready refl hears.makes (goes_same s.journal s.journal refl))
    (heard_read call key left left' ready t hears.room hears.of_read hears.hears goes)

-- ---- what is sent

-- behind nothing there is nothing
none_behind : (m : ℕ) → [] ≡ drop {A = ℕ} m []
none_behind zero = refl
none_behind (suc m) = refl

-- what is owed behind what was taken
owed_behind : (k n : ℕ) (s : StationState) (peer : Option Session) → peer_at s.peers k ≡ peer
    → owed_at (take_by k n peer s) k ≡ drop n (owed_to peer)
owed_behind k n s None is = ap owed_to is ∙ none_behind n
owed_behind k n s (Some x) is =
    ap owed_to (peer_at-same k (Some (record x { owed = drop n x.owed })) s.peers)

-- its book stays
book_behind : (k n : ℕ) (s : StationState) (peer : Option Session)
    → (take_by k n peer s).book ≡ s.book
book_behind k n s None = refl
book_behind k n s (Some x) = refl

-- what may be told behind it
told_behind : (k n : ℕ) (s : StoredState)
    → told_at (with_station (with_taken k n s.station) s) k ≡ drop n (told_at s k)
told_behind k n s =
    ap (λ (b : Book). if has_stored (length b.rows) s.journal
    then owed_at (with_taken k n s.station) k else [])
    (book_behind k n s.station (peer_at s.station.peers k))
    ∙ where_stored (is_all_stored s)
    (owed_behind k n s.station (peer_at s.station.peers k) refl)
  where
    where_stored : (all : Bool)
        → owed_at (with_taken k n s.station) k ≡ drop n (owed_at s.station k)
        → (if all then owed_at (with_taken k n s.station) k else [])
        ≡ drop n (if all then owed_at s.station k else [])
    where_stored true is = is
    where_stored false is = none_behind n

-- where each row is stored, what is owed may be told
told_stored : (k : ℕ) (s : StoredState) → is_all_stored s ≡ true
    → told_at s k ≡ owed_at s.station k
told_stored k s all = ap (λ (b : Bool). if b then owed_at s.station k else []) all

-- .. and where something may be told, each row is
pub stored_by_told : (k n : ℕ) (s : StoredState) → n ≤ length (told_at s k) → (n ≡ 0 → ⊥)
    → is_all_stored s ≡ true
stored_by_told k n s within some = by_test (is_all_stored s) refl
  where
    by_test : (b : Bool) → is_all_stored s ≡ b → b ≡ true
    by_test true is = refl
    by_test false is =
        let none : told_at s k ≡ [] =
        ap (λ (c : Bool). if c then owed_at s.station k else []) is in
        let few : n ≤ 0 = subst (λ (l : List ℕ). n ≤ length l) none within in
        absurd (some (omega (arith, few)))

-- nothing is sent
pub sent_none : (key : ℕ) (got got' : Option (List ℕ)) (s t : StoredState) → got' ≡ got → t ≡ s
    → SendsStream key got got' s t
sent_none key got got' s t same stays = record {
  moves = reaches_same (IsSending key) s t stays;
  sent = [];
  written = subst (λ (u : Option (List ℕ)). Appends got u []) (sym same) (Appends-none got);
  rest = ap (λ (x : StoredState). told_at x key) (sym stays);
  owed = ap (λ (x : StoredState). owed_at x.station key) (sym stays);
}

-- one write, and then more
pub sent_then : (key : ℕ) (a b c : Option (List ℕ)) (s t u : StoredState)
    → SendsStream key a b s t → SendsStream key b c t u → SendsStream key a c s u
sent_then key a b c s t u one two = record {
  moves = reaches_then (IsSending key) s t u one.moves two.moves;
  sent = one.sent ++ two.sent;
  written = Appends-then a b c one.sent two.sent one.written two.written;
  rest = one.rest ∙ ap (λ (rest : List ℕ). one.sent ++ rest) two.rest
      ∙ sym (append_assoc one.sent two.sent (told_at u key));
  owed = one.owed ∙ ap (λ (rest : List ℕ). one.sent ++ rest) two.owed
      ∙ sym (append_assoc one.sent two.sent (owed_at u.station key));
}

-- .. of the same connection
pub sent_as : (key : ℕ) (a b c : Option (List ℕ)) (s t : StoredState) → c ≡ b
    → SendsStream key a b s t → SendsStream key a c s t
sent_as key a b c s t same sent =
    subst (λ (u : Option (List ℕ)). SendsStream key a u s t) (sym same) sent

-- one write
pub sent_written : (call : Call) (key : ℕ) (got got' : Option (List ℕ)) (s t : StoredState)
    → SendsCall call key got got' s t → SendsStream key got got' s t
sent_written (Passed n) key got got' s t sends = record {
  moves = reaches_written (Passed n) key got got' s t sends;
  sent = take n (told_at s key);
  written = sends.0;
  rest = sym (take-append-drop n (told_at s key))
      ∙ ap (λ (rest : List ℕ). take n (told_at s key) ++ rest)
      (sym (ap (λ (x : StoredState). told_at x key) sends.1 ∙ told_behind key n s));
  owed = sym (take-append-drop n (owed_at s.station key))
      ∙ ap (λ (o : List ℕ). take n o ++ drop n (owed_at s.station key))
      (sym (told_stored key s sends.2))
      ∙ ap (λ (rest : List ℕ). take n (told_at s key) ++ rest)
      (sym (ap (λ (x : StoredState). owed_at x.station key) sends.1
      ∙ owed_behind key n s.station (peer_at s.station.peers key) refl));
}
sent_written Ended key got got' s t sends = absurd sends
sent_written Interrupted key got got' s t sends = record {
  moves = reaches_written Interrupted key got got' s t sends;
  sent = [];
  written = sends.0;
  rest = ap (λ (x : StoredState). told_at x key) (sym sends.1);
  owed = ap (λ (x : StoredState). owed_at x.station key) (sym sends.1);
}
sent_written Waits key got got' s t sends = record {
  moves = reaches_written Waits key got got' s t sends;
  sent = [];
  written = sends.0;
  rest = ap (λ (x : StoredState). told_at x key) (sym sends.1);
  owed = ap (λ (x : StoredState). owed_at x.station key) (sym sends.1);
}
sent_written Failed key got got' s t sends = record {
  moves = reaches_written Failed key got got' s t sends;
  sent = [];
  written = sends.0;
  rest = ap (λ (x : StoredState). told_at x key) (sym sends.1);
  owed = ap (λ (x : StoredState). owed_at x.station key) (sym sends.1);
}

-- ---- the moves

pub heard_moves : (key : ℕ) (left left' : Option (List ℕ)) (s t : StoredState)
    → HearsStream key left left' s t → ReachesBy (IsHearing key) s t
heard_moves key left left' s t heard = heard.moves

pub sent_moves : (key : ℕ) (got got' : Option (List ℕ)) (s t : StoredState)
    → SendsStream key got got' s t → ReachesBy (IsSending key) s t
sent_moves key got got' s t sent = sent.moves

-- ---- what each function of a connection is made of

-- it is heard
pub ruleset heard = (
  goes_same,
  reaches_same,
  reaches_then,
  reaches_kept,
  reaches_any,
  others_same,
  others_set,
  heard_moves,
)

-- .. and sent to
pub ruleset sent = (
  goes_same,
  reaches_same,
  reaches_then,
  reaches_kept,
  reaches_any,
  others_same,
  others_set,
  sent_moves,
)
