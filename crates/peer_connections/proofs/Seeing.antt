-- No row is forgotten before it is looked at: which rows were, as the station moves.
use Rattle.std.proofs.Common.{◌≡◌, ◌≤◌, ℕ, Bool, true, false, List, [], ◌∷◌, Option, Some, None}
use Rattle.std.proofs.Common.{ap, append-nil, append_assoc, arith, inl, inr, length, refl, subst}
use Rattle.std.proofs.Common.{suc, sym, zero, ◌++◌, ◌<◌, ◌∙◌}
use Rattle.std.proofs.lemmas.Bool.Decides.{nat_tests}
use Rattle.std.proofs.lemmas.List.{length-append}
use Rattle.std.specs.Prelude.{if◌then◌else◌, nat_lt, slice_get}
use Rattle.site_base.specs.declared.row.Row.{Row}
use Rattle.site_book.specs.Book.{Book, with_rows_forgotten}
use Rattle.station.specs.Moves.{StationState, end_release, lose, with_end}
use Rattle.station.specs.Moves.{without_peer}
use Rattle.station.specs.Reads.{Arrives as GetsKey, ArrivesAt, arrives_at}
use Rattle.station.specs.Runs.{Arrives, EndsRelease, Finishes, Forgets, Leaves, Loses, Move, Says}
use Rattle.station.specs.Runs.{Takes, after, after_move}
use Rattle.journal.specs.Memory.{IsSameOrForgets}
use Rattle.journal.specs.Stored.{StoredState, with_station}
use Rattle.journal.proofs.Made.{Adds}
use Rattle.journal.proofs.Moves.{move_adds}
use Rattle.connection_calls.specs.declared.call.Call.{Call}
use Rattle.connection_calls.specs.declared.call.Call.TheVariants.{Ended, Failed, Interrupted}
use Rattle.connection_calls.specs.declared.call.Call.TheVariants.{Passed, Waits}
use Rattle.peer_connections.specs.declared.change_watch.ChangeWatch.{ChangeWatch}
use Rattle.peer_connections.specs.Allowed.{IsHearing, IsSameOrLeft, IsSending}
use Rattle.peer_connections.specs.Calls.{HearsCall, HearsWithRoom}
use Rattle.peer_connections.specs.Reaches.{AreAllowed, ReachesBy}
use Rattle.peer_connections.specs.Sending.{GoesOn, HasChange, HasSeen, KeepsChanges}
use Rattle.peer_connections.specs.Streams.{HearsStream, SendsStream}

-- a move that forgets nothing
seen_move : (n : ℕ) (m : Move) (s : StationState) → (m ≡ Forgets → ⊥) → HasSeen n s.book
    → HasSeen n (after_move m s).book
seen_move n m s other seen =
    let adds : Adds s.book (after_move m s).book = move_adds m s other in
    let long = ap length adds.rows ∙ length-append s.book.rows adds.later in
    record { each = omega (arith, seen.each, adds.memory); those = omega (arith, seen.those, long) }

-- .. where the station comes to that
seen_moved : (n : ℕ) (m : Move) (s t : StationState) → (m ≡ Forgets → ⊥) → t ≡ after_move m s
    → HasSeen n s.book → HasSeen n t.book
seen_moved n m s t other is seen =
    subst (λ (u : StationState). HasSeen n u.book) (sym is) (seen_move n m s other seen)

-- .. with its journal
seen_by : (n : ℕ) (m : Move) (s t : StoredState) → (m ≡ Forgets → ⊥)
    → t ≡ with_station (after_move m s.station) s → HasSeen n s.station.book
    → HasSeen n t.station.book
seen_by n m s t other is seen =
    seen_moved n m s.station t.station other (ap (λ (u : StoredState). u.station) is) seen

pub seen_ended : (n k : ℕ) (s t : StoredState) → t ≡ with_station (with_end k s.station) s
    → HasSeen n s.station.book → HasSeen n t.station.book
seen_ended n k s t end seen = seen_by n (Finishes k) s t other end seen
  where
    other : Finishes k ≡ Forgets → ⊥
    other is = cc

pub seen_left : (n k : ℕ) (s t : StoredState) → t ≡ with_station (without_peer k s.station) s
    → HasSeen n s.station.book → HasSeen n t.station.book
seen_left n k s t left seen = seen_by n (Leaves k) s t other left seen
  where
    other : Leaves k ≡ Forgets → ⊥
    other is = cc

pub seen_released : (n : ℕ) (on off : Bool) (p : ℕ) (s t : StationState)
    → t ≡ end_release on off p s → HasSeen n s.book → HasSeen n t.book
seen_released n on off p s t ended seen = seen_moved n (EndsRelease on off p) s t other ended seen
  where
    other : EndsRelease on off p ≡ Forgets → ⊥
    other is = cc

pub seen_lost : (n : ℕ) (memory : Bool) (p : ℕ) (s t : StationState) → t ≡ lose memory p s
    → HasSeen n s.book → HasSeen n t.book
seen_lost n memory p s t lost seen = seen_moved n (Loses memory p) s t other lost seen
  where
    other : Loses memory p ≡ Forgets → ⊥
    other is = cc

-- the peer of a key is sent to
seen_sending : (n k : ℕ) (m : Move) (s : StationState) → IsSending k m s → HasSeen n s.book
    → HasSeen n (after_move m s).book
seen_sending n k (Takes j o) s is seen = seen_move n (Takes j o) s other seen
  where
    other : Takes j o ≡ Forgets → ⊥
    other is = cc
seen_sending n k (Arrives j door) s is seen = absurd is
seen_sending n k (Says memory j octets) s is seen = absurd is
seen_sending n k (Finishes j) s is seen = absurd is
seen_sending n k (Leaves j) s is seen = absurd is
seen_sending n k (EndsRelease on off p) s is seen = absurd is
seen_sending n k (Loses memory p) s is seen = absurd is
seen_sending n k Forgets s is seen = absurd is

seen_all_sending : (n k : ℕ) (ms : List Move) (s : StationState) → AreAllowed (IsSending k) ms s
    → HasSeen n s.book → HasSeen n (after ms s).book
seen_all_sending n k [] s all seen = seen
seen_all_sending n k (m ∷ ms) s all seen =
    seen_all_sending n k ms (after_move m s) all.1 (seen_sending n k m s all.0 seen)

pub seen_sent : (n k : ℕ) (got got' : Option (List ℕ)) (s t : StoredState)
    → SendsStream k got got' s t → HasSeen n s.station.book → HasSeen n t.station.book
seen_sent n k got got' s t sent seen =
    subst (λ (u : StationState). HasSeen n u.book) (sym sent.moves.lead)
    (seen_all_sending n k sent.moves.moves s.station sent.moves.only seen)

-- ---- a peer comes: the book stays

pub came_book : (key : Option ℕ) (s t : StationState) → GetsKey key s t → t.book ≡ s.book
came_book None s t gets = ap (λ (u : StationState). u.book) gets.0
came_book (Some k) s t gets = ap (λ (u : StationState). u.book) gets.3

pub came_book_at : (door : ℕ) (key : Option ℕ) (s t : StationState) → ArrivesAt door key s t
    → t.book ≡ s.book
came_book_at door key s t = by_node (slice_get s.gates.doors door) key
  where
    by_node : (node : Option (List ℕ)) (key : Option ℕ) → arrives_at node door key s t
        → t.book ≡ s.book
    by_node None None gets = ap (λ (u : StationState). u.book) gets.1
    by_node None (Some k) gets = absurd (let never : Some k ≡ None = gets.0 in cc)
    by_node (Some node) None gets = ap (λ (u : StationState). u.book) gets.0
    by_node (Some node) (Some k) gets = ap (λ (u : StationState). u.book) gets.3

pub seen_book : (n : ℕ) (b c : Book) → c ≡ b → HasSeen n b → HasSeen n c
seen_book n b c same seen = subst (HasSeen n) (sym same) seen

-- .. and it may leave at once
pub seen_linked : (n k : ℕ) (s t : StoredState) → IsSameOrLeft k s t → HasSeen n s.station.book
    → HasSeen n t.station.book
seen_linked n k s t (inl same) seen =
    subst (λ (u : StoredState). HasSeen n u.station.book) (sym same) seen
seen_linked n k s t (inr left) seen = seen_left n k s t left seen

-- ---- room is made for what is heard

-- each row was looked at, and then all are forgotten
seen_forgotten : (n : ℕ) (b : Book) → n ≡ length b.rows → b.forgotten ≤ n
    → HasSeen n (with_rows_forgotten b)
seen_forgotten n b all behind = by_count _
  where
    by_count : (few : Bool)
        → HasSeen n (if few then record b { forgotten = length b.rows } else b)
    by_count true = record { each = omega (arith, all); those = omega (arith, all) }
    by_count false = record { each = behind; those = omega (arith, all) }

pub seen_room : (n : ℕ) (s t : StationState) → IsSameOrForgets s t → n ≡ length s.book.rows
    → s.book.forgotten ≤ n → HasSeen n t.book
seen_room n s t (inl same) all behind =
    subst (λ (u : StationState). HasSeen n u.book) (sym same)
    (record { each = behind; those = omega (arith, all) })
seen_room n s t (inr forgets) all behind =
    subst (λ (u : StationState). HasSeen n u.book) (sym forgets)
    (seen_forgotten n s.book all behind)

-- each row was looked at, while the book stays
pub seen_all : (n m : ℕ) (s t : StationState) → t ≡ s → n ≡ length t.book.rows → HasSeen m s.book
    → HasSeen n t.book
seen_all n m s t same all seen =
    subst (λ (u : StationState). n ≡ length u.book.rows → HasSeen n u.book) (sym same)
    (λ all. record {
      each = omega (arith, all, seen.each, seen.those);
      those = omega (arith, all);
    }) all

-- .. and it is read
pub seen_read : (n : ℕ) (call : Call) (k : ℕ) (left left' : Option (List ℕ)) (s t : StationState)
    → HearsCall call k left left' s t → HasSeen n s.book → HasSeen n t.book
seen_read n (Passed o) k left left' s t hears seen =
    seen_moved n (Says hears.memory k hears.octets) s t other hears.heard seen
  where
    other : Says hears.memory k hears.octets ≡ Forgets → ⊥
    other is = cc
seen_read n Ended k left left' s t hears seen =
    seen_moved n (Finishes k) s t other hears.1 seen
  where
    other : Finishes k ≡ Forgets → ⊥
    other is = cc
seen_read n Failed k left left' s t hears seen =
    seen_moved n (Finishes k) s t other hears.1 seen
  where
    other : Finishes k ≡ Forgets → ⊥
    other is = cc
seen_read n Interrupted k left left' s t hears seen =
    subst (λ (u : StationState). HasSeen n u.book) (sym hears.1) seen
seen_read n Waits k left left' s t hears seen =
    subst (λ (u : StationState). HasSeen n u.book) (sym hears.1) seen

-- ---- which changes are noted

pub on_same : (b : Book) → GoesOn b b
on_same b = record { more = []; rows = sym (append-nil b.rows) }

forgotten_on : (b : Book) → GoesOn b (with_rows_forgotten b)
forgotten_on b = by_count _
  where
    by_count : (few : Bool)
        → GoesOn b (if few then record b { forgotten = length b.rows } else b)
    by_count true = record { more = []; rows = sym (append-nil b.rows) }
    by_count false = on_same b

-- a move only adds rows to a book
moved_on : (m : Move) (s : StationState) → GoesOn s.book (after_move m s).book
moved_on m s = by_move m s
  where
    adds_on : (m : Move) (s : StationState) → (m ≡ Forgets → ⊥)
        → GoesOn s.book (after_move m s).book
    adds_on m s other =
        let adds : Adds s.book (after_move m s).book = move_adds m s other in
        record { more = adds.later; rows = adds.rows }

    by_move : (m : Move) (s : StationState) → GoesOn s.book (after_move m s).book
    by_move Forgets s = forgotten_on s.book
    by_move (Arrives j door) s = adds_on (Arrives j door) s (λ is. cc)
    by_move (Says memory j octets) s = adds_on (Says memory j octets) s (λ is. cc)
    by_move (Takes j n) s = adds_on (Takes j n) s (λ is. cc)
    by_move (Finishes j) s = adds_on (Finishes j) s (λ is. cc)
    by_move (Leaves j) s = adds_on (Leaves j) s (λ is. cc)
    by_move (EndsRelease on off p) s = adds_on (EndsRelease on off p) s (λ is. cc)
    by_move (Loses memory p) s = adds_on (Loses memory p) s (λ is. cc)

on_then : (a b c : Book) → GoesOn a b → GoesOn b c → GoesOn a c
on_then a b c one two = record {
  more = one.more ++ two.more;
  rows = two.rows ∙ ap (λ (r : List Row). r ++ two.more) one.rows
      ∙ append_assoc a.rows one.more two.more;
}

moves_on : (ms : List Move) (s : StationState) → GoesOn s.book (after ms s).book
moves_on [] s = on_same s.book
moves_on (m ∷ ms) s =
    on_then s.book (after_move m s).book (after ms (after_move m s)).book (moved_on m s)
    (moves_on ms (after_move m s))

-- a station that stays
pub kept_on : (s t : StationState) → t ≡ s → GoesOn s.book t.book
kept_on s t same =
    subst (λ (u : StationState). GoesOn s.book u.book) (sym same) (on_same s.book)

-- .. and so do those that lead from one station to another
pub reached_on : (allowed : Move → StationState → Type 0) (s t : StoredState)
    → ReachesBy allowed s t → GoesOn s.station.book t.station.book
reached_on allowed s t by =
    subst (λ (u : StationState). GoesOn s.station.book u.book) (sym by.lead)
    (moves_on by.moves s.station)

-- .. while a peer is heard
heard_on : (key : ℕ) (left left' : Option (List ℕ)) (s t : StoredState)
    → HearsStream key left left' s t → GoesOn s.station.book t.station.book
heard_on key left left' s t heard = reached_on (IsHearing key) s t heard.moves

-- .. and while room is made, and it is read once
pub made_on : (s t : StationState) → IsSameOrForgets s t → GoesOn s.book t.book
made_on s t (inl same) =
    subst (λ (u : StationState). GoesOn s.book u.book) (sym same) (on_same s.book)
made_on s t (inr forgets) =
    subst (λ (u : StationState). GoesOn s.book u.book) (sym forgets) (forgotten_on s.book)

pub read_on : (call : Call) (k : ℕ) (left left' : Option (List ℕ)) (s t : StationState)
    → HearsCall call k left left' s t → GoesOn s.book t.book
read_on (Passed o) k left left' s t hears =
    subst (λ (u : StationState). GoesOn s.book u.book) (sym hears.heard)
    (moved_on (Says hears.memory k hears.octets) s)
read_on Ended k left left' s t hears =
    subst (λ (u : StationState). GoesOn s.book u.book) (sym hears.1) (moved_on (Finishes k) s)
read_on Failed k left left' s t hears =
    subst (λ (u : StationState). GoesOn s.book u.book) (sym hears.1) (moved_on (Finishes k) s)
read_on Interrupted k left left' s t hears =
    subst (λ (u : StationState). GoesOn s.book u.book) (sym hears.1) (on_same s.book)
read_on Waits k left left' s t hears =
    subst (λ (u : StationState). GoesOn s.book u.book) (sym hears.1) (on_same s.book)

pub room_and_read_on : (call : Call) (k : ℕ) (left left' : Option (List ℕ))
    (s ready t : StationState) → IsSameOrForgets s ready → HearsCall call k left left' ready t
    → GoesOn s.book t.book
room_and_read_on call k left left' s ready t made hears =
    on_then s.book ready.book t.book (made_on s ready made)
    (read_on call k left left' ready t hears)

-- .. as it is read with room
pub with_room_on : (call : Call) (k : ℕ) (left left' : Option (List ℕ)) (s t : StationState)
    → HearsWithRoom call k left left' s t → GoesOn s.book t.book
with_room_on call k left left' s t hears =
    room_and_read_on call k left left' s hears.ready t hears.makes hears.hears

-- a row that a book has stays in its place
there_still : (rows more : List Row) (at : ℕ) (row : Row) → at < length rows
    → slice_get (rows ++ more) at ≡ Some row → slice_get rows at ≡ Some row
there_still [] more at row below is = absurd (let no : suc at ≤ 0 = below in omega (arith, no))
there_still (x ∷ rows) more zero row below is = is
there_still (x ∷ rows) more (suc at) row below is =
    there_still rows more at row (omega (arith, below)) is

-- each row of a book was looked at: a change that is noted isn't passed over, nor one behind them
pub keeps_looked : (watch watch' : ChangeWatch) (b c : Book) → GoesOn b c
    → watch'.rows_seen ≡ length b.rows
    → (HasChange watch b → watch'.has_changes ≡ true) → KeepsChanges watch watch' c
keeps_looked watch watch' b c on all noted later more (inl had) = inl (noted (inl had))
keeps_looked watch watch' b c on all noted later more (inr from) =
    by_place (nat_lt from.at (length b.rows)) refl
  where
    behind : GoesOn b later
    behind = on_then b c later on more

    by_place : (is_before : Bool) → nat_lt from.at (length b.rows) ≡ is_before
        → HasChange watch' later
    by_place true before = inl (noted (inr (record {
      at = from.at;
      row = from.row;
      since = from.since;
      there = there_still b.rows behind.more from.at from.row
          (let below : from.at < length b.rows = grind (arith, nat_tests) in below)
          (sym (ap (λ (r : List Row). slice_get r from.at) behind.rows) ∙ from.there);
      changing = from.changing;
    })))
    by_place false behind_all = inr (record {
      at = from.at;
      row = from.row;
      since = let above : length b.rows ≤ from.at = grind (arith, nat_tests) in
          omega (arith, all, above);
      there = from.there;
      changing = from.changing;
    })

-- nothing was looked at
pub keeps_same : (watch watch' : ChangeWatch) (b : Book) → watch' ≡ watch
    → KeepsChanges watch watch' b
keeps_same watch watch' b same later more has =
    subst (λ (w : ChangeWatch). HasChange w later) (sym same) has

-- .. and what is noted is so still
pub keeps_alike : (watch watch' : ChangeWatch) (b : Book) → watch'.has_changes ≡ watch.has_changes
    → watch'.rows_seen ≡ watch.rows_seen → KeepsChanges watch watch' b
keeps_alike watch watch' b noted seen later more (inl had) = inl (noted ∙ had)
keeps_alike watch watch' b noted seen later more (inr from) = inr (record {
  at = from.at;
  row = from.row;
  since = let far = from.since in omega (arith, seen, far);
  there = from.there;
  changing = from.changing;
})

-- one thing after another
pub keeps_then : (a b c : ChangeWatch) (s t : Book) → GoesOn s t → KeepsChanges a b s
    → KeepsChanges b c t → KeepsChanges a c t
keeps_then a b c s t on one two later more has =
    two later more (one later (on_then s t later on more) has)

-- ---- the same

pub seen_same : (n o : ℕ) (s t : StationState) → t ≡ s → o ≡ n → HasSeen n s.book
    → HasSeen o t.book
seen_same n o s t same is seen =
    subst (λ (u : StationState). HasSeen o u.book) (sym same)
    (subst (λ (i : ℕ). HasSeen i s.book) (sym is) seen)

-- a change is noted, or still isn't looked at
pub ruleset kept = (
  keeps_same,
  keeps_alike,
  keeps_then,
)

pub ruleset seen = (
  seen_ended,
  seen_left,
  seen_released,
  seen_lost,
  seen_sent,
  seen_room,
  seen_read,
  seen_same,
  seen_all,
)
