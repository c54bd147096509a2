-- Moves of a station, one after another.
use Rattle.std.proofs.Common.{◌≡◌, ℕ, List, [], ◌∷◌, ◌++◌, Option, Some, None, refl, sym, ap, ◌∙◌}
use Rattle.std.proofs.Common.{◌+◌, ◌*◌, ◌<◌, ◌≤◌, Bool, arith, false, inl, inr, subst, true}
use Rattle.std.proofs.Common.{append-nil}
use Rattle.std.specs.Io.KnownBytes.{Consumes, Keeps}
use Rattle.devices.proofs.KnownBytes.{Consumes-kept, Consumes-none}
use Rattle.std.specs.Prelude.{IfSome, ◌&&◌, ◌⊎◌, is_none, nat_lt, slice_get, if◌then◌else◌}
use Rattle.std.proofs.lemmas.Bool.Decides.{nat_tests}
use Rattle.station.specs.declared.peer_end.PeerEnd.{PeerEnd}
use Rattle.station.specs.declared.sizes.TheConstants.{FREE_PLACES, NODE_SESSIONS}
use Rattle.station.specs.Moves.{StationState, end_release, finish_at, lose, rows_since}
use Rattle.station.specs.Moves.{with_arrival}
use Rattle.station.specs.Moves.{with_end, with_turn, without_peer}
use Rattle.station.specs.Peers.{peer_at, with_notices}
use Rattle.station.specs.Places.{first_place, is_place_at}
use Rattle.station.specs.Reads.{Arrives as GetsKey, ArrivesAt, arrives_at, end_at, is_read_at}
use Rattle.station.specs.Reads.{end_of, node_of}
use Rattle.station.specs.Runs.{Arrives, EndsRelease, Finishes, Forgets, Leaves, Loses, Move, Says}
use Rattle.station.specs.Runs.{Takes, after}
use Rattle.station.specs.Runs.{after_move, give, give_at}
use Rattle.station.specs.Sessions.{Session, Turn, finish, opening_session}
use Rattle.station.proofs.Peers.{peer_at-same}
use Rattle.journal.specs.Memory.{HasRoomToHear, IsSameOrForgets}
use Rattle.journal.specs.Stored.{JournalGoesOn, JournalState, StoredState, with_station}
use Rattle.journal.proofs.Fronts.{files_same, files_then}
use Rattle.connection_calls.specs.declared.call.Call.{Call}
use Rattle.connection_calls.specs.declared.call.Call.TheVariants.{Ended, Failed, Interrupted}
use Rattle.connection_calls.specs.declared.call.Call.TheVariants.{Passed, Waits}
use Rattle.peer_connections.specs.Allowed.{IsClosing, IsDismissal, IsEnding, IsFollowing}
use Rattle.peer_connections.specs.Allowed.{IsHeard, IsHearing, IsLate, IsOwn, IsPassing}
use Rattle.peer_connections.specs.Allowed.{IsArrival, IsFinishing, IsSameOrLeft, IsTaking}
use Rattle.peer_connections.specs.Allowed.{IsSending, IsWelcome, is_known, is_place_of}
use Rattle.peer_connections.specs.Allowed.{is_served_at, lasts, lasts_at}
use Rattle.peer_connections.specs.Calls.{HearsCall, HearsWithRoom, SendsCall}
use Rattle.peer_connections.specs.Reaches.{AreAllowed, FindRoom, FindsRoom, IsAny, Reaches}
use Rattle.peer_connections.specs.Reaches.{ReachesBy}
use Rattle.peer_connections.specs.Streams.{said_in}

-- moves, and then more
after_both : (ms more : List Move) (s : StationState)
    → after (ms ++ more) s ≡ after more (after ms s)
after_both [] more s = refl
after_both (m ∷ ms) more s = after_both ms more (after_move m s)

-- .. and each read finds room
room_both : (ms more : List Move) (s : StationState) → FindRoom ms s → FindRoom more (after ms s)
    → FindRoom (ms ++ more) s
room_both [] more s first last = last
room_both (m ∷ ms) more s first last =
    (first.0, room_both ms more (after_move m s) first.1 last)

-- .. and each is allowed
allowed_both : (allowed : Move → StationState → Type 0) (ms more : List Move) (s : StationState)
    → AreAllowed allowed ms s → AreAllowed allowed more (after ms s)
    → AreAllowed allowed (ms ++ more) s
allowed_both allowed [] more s first last = last
allowed_both allowed (m ∷ ms) more s first last =
    (first.0, allowed_both allowed ms more (after_move m s) first.1 last)

-- what is allowed may be allowed elsewhere, too
allowed_too : (a b : Move → StationState → Type 0)
    (wider : (m : Move) (s : StationState) → a m s → b m s)
    (ms : List Move) (s : StationState) → AreAllowed a ms s → AreAllowed b ms s
allowed_too a b wider [] s all = tt
allowed_too a b wider (m ∷ ms) s all =
    (wider m s all.0, allowed_too a b wider ms (after_move m s) all.1)

-- ---- the journal

pub goes_same : (a b : Option JournalState) → b ≡ a → JournalGoesOn a b
goes_same None b is = subst (λ (x : Option JournalState). JournalGoesOn None x) (sym is) tt
goes_same (Some a) b is =
    subst (λ (x : Option JournalState). JournalGoesOn (Some a) x) (sym is)
    (refl, files_same a.file a.file refl)

pub goes_then : (a b c : Option JournalState) → JournalGoesOn a b → JournalGoesOn b c
    → JournalGoesOn a c
goes_then None None None one two = tt
goes_then (Some a) (Some b) (Some c) one two =
    (two.0 ∙ one.0, files_then a.file b.file c.file one.1 two.1)
goes_then None None (Some c) one two = absurd two
goes_then None (Some b) c one two = absurd one
goes_then (Some a) None c one two = absurd one
goes_then (Some a) (Some b) None one two = absurd two

-- ---- moves that are allowed

-- the station stays, and its journal goes on
pub reaches_kept : (allowed : Move → StationState → Type 0) (s t : StoredState)
    → t.station ≡ s.station → JournalGoesOn s.journal t.journal → ReachesBy allowed s t
reaches_kept allowed s t same goes =
    record { moves = []; lead = same; room = tt; only = tt; journal = goes }

-- nothing was done
pub reaches_same : (allowed : Move → StationState → Type 0) (s t : StoredState) → t ≡ s
    → ReachesBy allowed s t
reaches_same allowed s t same =
    reaches_kept allowed s t (ap (λ (x : StoredState). x.station) same)
    (goes_same s.journal t.journal (ap (λ (x : StoredState). x.journal) same))

-- one thing after another
pub reaches_then : (allowed : Move → StationState → Type 0) (s t u : StoredState)
    → ReachesBy allowed s t → ReachesBy allowed t u → ReachesBy allowed s u
reaches_then allowed s t u first last = record {
  moves = first.moves ++ last.moves;
  lead = last.lead ∙ ap (after last.moves) first.lead
      ∙ sym (after_both first.moves last.moves s.station);
  room = room_both first.moves last.moves s.station first.room
      (subst (FindRoom last.moves) first.lead last.room);
  only = allowed_both allowed first.moves last.moves s.station first.only
      (subst (AreAllowed allowed last.moves) first.lead last.only);
  journal = goes_then s.journal t.journal u.journal first.journal last.journal;
}

reaches_wider : (a b : Move → StationState → Type 0)
    (wider : (m : Move) (s : StationState) → a m s → b m s) (s t : StoredState)
    → ReachesBy a s t → ReachesBy b s t
reaches_wider a b wider s t by = record {
  moves = by.moves;
  lead = by.lead;
  room = by.room;
  only = allowed_too a b wider by.moves s.station by.only;
  journal = by.journal;
}

-- whatever was allowed, these are moves
pub reaches_any : (allowed : Move → StationState → Type 0) (s t : StoredState)
    → ReachesBy allowed s t → Reaches s t
reaches_any allowed s t by = reaches_wider allowed IsAny (λ m u is. tt) s t by

-- whoever is heard is one of those that are
pub reaches_heard : (k : ℕ) (s t : StoredState) → ReachesBy (IsHearing k) s t
    → ReachesBy IsHeard s t
reaches_heard k s t by = reaches_wider (IsHearing k) IsHeard wider s t by
  where
    wider : (m : Move) (u : StationState) → IsHearing k m u → IsHeard m u
    wider (Says memory j octets) u is = is.1
    wider (Finishes j) u is = is.1
    wider Forgets u is = tt
    wider (Arrives j door) u is = absurd is
    wider (Takes j n) u is = absurd is
    wider (Leaves j) u is = absurd is
    wider (EndsRelease on off p) u is = absurd is
    wider (Loses memory p) u is = absurd is

-- whoever is sent to may close
pub reaches_closing : (k : ℕ) (s t : StoredState) → ReachesBy (IsSending k) s t
    → ReachesBy (IsClosing k) s t
reaches_closing k s t by = reaches_wider (IsSending k) (IsClosing k) wider s t by
  where
    wider : (m : Move) (u : StationState) → IsSending k m u → IsClosing k m u
    wider (Takes j n) u is = is
    wider (Arrives j door) u is = absurd is
    wider (Says memory j octets) u is = absurd is
    wider (Finishes j) u is = absurd is
    wider (Leaves j) u is = absurd is
    wider (EndsRelease on off p) u is = absurd is
    wider (Loses memory p) u is = absurd is
    wider Forgets u is = absurd is

-- whoever leaves may do so for a peer that comes at the same door
pub reaches_welcome : (door : Option ℕ) (s t : StoredState) → ReachesBy (IsDismissal door) s t
    → ReachesBy (IsWelcome door) s t
reaches_welcome door s t by = reaches_wider (IsDismissal door) (IsWelcome door) wider s t by
  where
    wider : (m : Move) (u : StationState) → IsDismissal door m u → IsWelcome door m u
    wider (Leaves j) u is = (inl is.0, is.1)
    wider (Takes j n) u is = absurd is
    wider (Arrives j at) u is = absurd is
    wider (Says memory j octets) u is = absurd is
    wider (Finishes j) u is = absurd is
    wider (EndsRelease on off p) u is = absurd is
    wider (Loses memory p) u is = absurd is
    wider Forgets u is = absurd is

-- .. and whoever leaves over TCP for one at any door
pub reaches_arriving : (door : Option ℕ) (s t : StoredState) → ReachesBy (IsArrival door) s t
    → ReachesBy (IsWelcome door) s t
reaches_arriving door s t by = reaches_wider (IsArrival door) (IsWelcome door) wider s t by
  where
    wider : (m : Move) (u : StationState) → IsArrival door m u → IsWelcome door m u
    wider (Arrives key at) u is = is
    wider (Leaves j) u is = absurd is
    wider (Takes j n) u is = absurd is
    wider (Finishes j) u is = absurd is
    wider (Says memory j octets) u is = absurd is
    wider (EndsRelease on off p) u is = absurd is
    wider (Loses memory p) u is = absurd is
    wider Forgets u is = absurd is

pub reaches_way : (door : Option ℕ) (s t : StoredState) → ReachesBy (IsDismissal None) s t
    → ReachesBy (IsWelcome door) s t
reaches_way door s t by = reaches_wider (IsDismissal None) (IsWelcome door) wider s t by
  where
    wider : (m : Move) (u : StationState) → IsDismissal None m u → IsWelcome door m u
    wider (Leaves j) u is = (inr is.0, is.1)
    wider (Takes j n) u is = absurd is
    wider (Arrives j at) u is = absurd is
    wider (Says memory j octets) u is = absurd is
    wider (Finishes j) u is = absurd is
    wider (EndsRelease on off p) u is = absurd is
    wider (Loses memory p) u is = absurd is
    wider Forgets u is = absurd is

-- whoever closes follows its session
pub reaches_following : (k : ℕ) (s t : StoredState) → ReachesBy (IsClosing k) s t
    → ReachesBy IsFollowing s t
reaches_following k s t by = reaches_wider (IsClosing k) IsFollowing wider s t by
  where
    wider : (m : Move) (u : StationState) → IsClosing k m u → IsFollowing m u
    wider (Takes j n) u is = tt
    wider (Finishes j) u is = tt
    wider (Leaves j) u is = is.1
    wider (Arrives j door) u is = absurd is
    wider (Says memory j octets) u is = absurd is
    wider (EndsRelease on off p) u is = absurd is
    wider (Loses memory p) u is = absurd is
    wider Forgets u is = absurd is

-- .. may be sent to at the day's end
pub reaches_taking : (k : ℕ) (s t : StoredState) → ReachesBy (IsSending k) s t
    → ReachesBy IsTaking s t
reaches_taking k s t by = reaches_wider (IsSending k) IsTaking wider s t by
  where
    wider : (m : Move) (u : StationState) → IsSending k m u → IsTaking m u
    wider (Takes j n) u is = tt
    wider (Arrives j door) u is = absurd is
    wider (Says memory j octets) u is = absurd is
    wider (Finishes j) u is = absurd is
    wider (Leaves j) u is = absurd is
    wider (EndsRelease on off p) u is = absurd is
    wider (Loses memory p) u is = absurd is
    wider Forgets u is = absurd is

pub reaches_taken : (s t : StoredState) → ReachesBy IsTaking s t → ReachesBy IsEnding s t
reaches_taken s t by = reaches_wider IsTaking IsEnding wider s t by
  where
    wider : (m : Move) (u : StationState) → IsTaking m u → IsEnding m u
    wider (Takes j n) u is = tt
    wider (Arrives j door) u is = absurd is
    wider (Says memory j octets) u is = absurd is
    wider (Finishes j) u is = absurd is
    wider (Leaves j) u is = absurd is
    wider (EndsRelease on off p) u is = absurd is
    wider (Loses memory p) u is = absurd is
    wider Forgets u is = absurd is

pub reaches_over : (s t : StoredState) → ReachesBy IsFinishing s t → ReachesBy IsEnding s t
reaches_over s t by = reaches_wider IsFinishing IsEnding wider s t by
  where
    wider : (m : Move) (u : StationState) → IsFinishing m u → IsEnding m u
    wider (Finishes j) u is = tt
    wider (Arrives j door) u is = absurd is
    wider (Says memory j octets) u is = absurd is
    wider (Takes j n) u is = absurd is
    wider (Leaves j) u is = absurd is
    wider (EndsRelease on off p) u is = absurd is
    wider (Loses memory p) u is = absurd is
    wider Forgets u is = absurd is

-- what is done as time passes: whoever is late leaves
pub reaches_passing_late : (k : ℕ) (s t : StoredState) → ReachesBy (IsLate k) s t
    → ReachesBy IsPassing s t
reaches_passing_late k s t by = reaches_wider (IsLate k) IsPassing wider s t by
  where
    wider : (m : Move) (u : StationState) → IsLate k m u → IsPassing m u
    wider (Finishes j) u is = tt
    wider (Leaves j) u is = is.1
    wider (Takes j n) u is = absurd is
    wider (Arrives j door) u is = absurd is
    wider (Says memory j octets) u is = absurd is
    wider (EndsRelease on off p) u is = absurd is
    wider (Loses memory p) u is = absurd is
    wider Forgets u is = absurd is

-- .. and the station acts by itself
pub reaches_passing_own : (s t : StoredState) → ReachesBy IsOwn s t → ReachesBy IsPassing s t
reaches_passing_own s t by = reaches_wider IsOwn IsPassing wider s t by
  where
    wider : (m : Move) (u : StationState) → IsOwn m u → IsPassing m u
    wider (EndsRelease on off p) u is = tt
    wider (Loses memory p) u is = tt
    wider Forgets u is = tt
    wider (Takes j n) u is = absurd is
    wider (Finishes j) u is = absurd is
    wider (Leaves j) u is = absurd is
    wider (Arrives j door) u is = absurd is
    wider (Says memory j octets) u is = absurd is

-- one move
reaches_by : (allowed : Move → StationState → Type 0) (m : Move) (s t : StoredState)
    → FindsRoom m s.station → allowed m s.station → t.station ≡ after_move m s.station
    → JournalGoesOn s.journal t.journal → ReachesBy allowed s t
reaches_by allowed m s t room is moved goes = record {
  moves = m ∷ [];
  lead = moved;
  room = (room, tt);
  only = (is, tt);
  journal = goes;
}

-- .. of the station alone
reaches_moved : (allowed : Move → StationState → Type 0) (m : Move) (s t : StoredState)
    → FindsRoom m s.station → allowed m s.station
    → t ≡ with_station (after_move m s.station) s → ReachesBy allowed s t
reaches_moved allowed m s t room is moved =
    reaches_by allowed m s t room is (ap (λ (x : StoredState). x.station) moved)
    (goes_same s.journal t.journal (ap (λ (x : StoredState). x.journal) moved))

-- ---- a peer's session ends, and it leaves

pub reaches_finished : (k : ℕ) (s t : StoredState) → t ≡ with_station (with_end k s.station) s
    → ReachesBy (IsClosing k) s t
reaches_finished k s t end = reaches_moved (IsClosing k) (Finishes k) s t tt refl end

pub reaches_gone : (k : ℕ) (s t : StoredState) → lasts_at s.station k ≡ false
    → t ≡ with_station (without_peer k s.station) s → ReachesBy (IsClosing k) s t
reaches_gone k s t ended left = reaches_moved (IsClosing k) (Leaves k) s t tt (refl, ended) left

pub reaches_late_end : (k : ℕ) (s t : StoredState) → t ≡ with_station (with_end k s.station) s
    → ReachesBy (IsLate k) s t
reaches_late_end k s t end = reaches_moved (IsLate k) (Finishes k) s t tt refl end

pub reaches_late : (k : ℕ) (s t : StoredState) → is_served_at s.station k ≡ false
    → t ≡ with_station (without_peer k s.station) s → ReachesBy (IsLate k) s t
reaches_late k s t unserved left =
    reaches_moved (IsLate k) (Leaves k) s t tt (refl, unserved) left

-- .. at the day's end
pub reaches_ended : (k : ℕ) (s t : StoredState) → t ≡ with_station (with_end k s.station) s
    → ReachesBy IsFinishing s t
reaches_ended k s t end = reaches_moved IsFinishing (Finishes k) s t tt tt end

pub reaches_left : (k : ℕ) (s t : StoredState) → t ≡ with_station (without_peer k s.station) s
    → ReachesBy IsEnding s t
reaches_left k s t left = reaches_moved IsEnding (Leaves k) s t tt tt left

-- .. for another one
pub reaches_dismissed : (door : Option ℕ) (k : ℕ) (s t : StoredState)
    → is_place_of door k ≡ true → is_served_at s.station k ≡ false
    → t ≡ with_station (without_peer k s.station) s → ReachesBy (IsDismissal door) s t
reaches_dismissed door k s t place unserved left =
    reaches_moved (IsDismissal door) (Leaves k) s t tt (place, unserved) left

-- .. since it got no connection
pub reaches_unlinked : (door : Option ℕ) (k : ℕ) (s t : StoredState)
    → is_place_of door k ≡ true → is_served_at s.station k ≡ false → IsSameOrLeft k s t
    → ReachesBy (IsWelcome door) s t
reaches_unlinked door k s t place unserved (inl same) = reaches_same (IsWelcome door) s t same
reaches_unlinked door k s t place unserved (inr left) =
    reaches_moved (IsWelcome door) (Leaves k) s t tt (inl place, unserved) left

-- where its end is known, its session doesn't last
pub ended_at : (k : ℕ) (s : StationState) (end : PeerEnd) → end_at s k ≡ Some end
    → lasts_at s k ≡ false
ended_at k s end is = by_peer (peer_at s.peers k) is
  where
    by_peer : (o : Option Session) → end_of o ≡ Some end → lasts o ≡ false
    by_peer None known = refl
    by_peer (Some x) known = ap is_none known

-- nor does it behind its end
pub finished_at : (k : ℕ) (s : StationState) → lasts_at (with_end k s) k ≡ false
finished_at k s = by_peer (peer_at s.peers k) refl
  where
    by_peer : (o : Option Session) → peer_at s.peers k ≡ o
        → lasts_at (finish_at k o s) k ≡ false
    by_peer None there = ap lasts there
    by_peer (Some x) there = by_test (is_none x.end) refl
      where
        turn : Turn
        turn = finish (record { book = s.book; session = x })

        by_test : (b : Bool) → is_none x.end ≡ b
            → lasts_at (if b then with_turn k turn s else s) k ≡ false
        by_test true is =
            ap lasts (peer_at-same k (Some turn.session)
            (with_notices (rows_since s.book turn.book) s.peers))
        by_test false is = ap lasts there ∙ is

-- .. where the station came to that
pub over_at : (k : ℕ) (s t : StoredState) → t ≡ with_station (with_end k s.station) s
    → lasts_at t.station k ≡ false
over_at k s t end =
    ap (λ (u : StoredState). lasts_at u.station k) end ∙ finished_at k s.station

-- ---- a peer comes

-- a key that is a place there, and that nobody has, is given
given_is : (is_place : Bool) (k : ℕ) (door : Option (List ℕ)) (y : Option Session)
    (s : StationState)
    → is_place ≡ true → y ≡ None → give is_place k door y s ≡ with_arrival k door s
given_is true k door None s place none = refl
given_is true k door (Some x) s place none = absurd cc
given_is false k door y s place none = absurd cc

free_place : (k : ℕ) → k < FREE_PLACES → nat_lt k FREE_PLACES ≡ true
free_place k below = grind (arith, nat_tests)

place_at : (door k : ℕ) → first_place door ≤ k → k < first_place (door + 1)
    → is_place_at door k ≡ true
place_at door k low high = grind (arith, nat_tests)

-- whoever has just come isn't served yet
arrived_unserved : (k : ℕ) (door : Option (List ℕ)) (s t : StationState)
    → t ≡ with_arrival k door s → is_served_at t k ≡ false
arrived_unserved k door s t came =
    ap (λ (u : StationState). is_served_at u k) came
    ∙ ap (λ (o : Option Session). is_none (end_of o) && is_known (node_of o))
    (peer_at-same k (Some (opening_session door)) s.peers)

pub came_unserved : (key : Option ℕ) (s t : StationState) → GetsKey key s t
    → IfSome key (λ k. is_served_at t k ≡ false)
came_unserved None s t gets = tt
came_unserved (Some k) s t gets = arrived_unserved k None s t gets.3

pub came_unserved_at : (door : ℕ) (key : Option ℕ) (s t : StationState) → ArrivesAt door key s t
    → IfSome key (λ k. is_served_at t k ≡ false)
came_unserved_at door key s t = by_node (slice_get s.gates.doors door) key
  where
    by_node : (node : Option (List ℕ)) (key : Option ℕ) → arrives_at node door key s t
        → IfSome key (λ k. is_served_at t k ≡ false)
    by_node None None gets = tt
    by_node None (Some k) gets = absurd (let never : Some k ≡ None = gets.0 in cc)
    by_node (Some node) None gets = tt
    by_node (Some node) (Some k) gets = arrived_unserved k (Some node) s t gets.3

-- it came to a place there
pub came_to_place : (key : Option ℕ) (s t : StationState) → GetsKey key s t
    → IfSome key (λ k. is_place_of None k ≡ true)
came_to_place None s t gets = tt
came_to_place (Some k) s t gets = free_place k gets.1

pub came_to_place_at : (door : ℕ) (key : Option ℕ) (s t : StationState) → ArrivesAt door key s t
    → IfSome key (λ k. is_place_of (Some door) k ≡ true)
came_to_place_at door key s t = by_node (slice_get s.gates.doors door) key
  where
    by_node : (node : Option (List ℕ)) (key : Option ℕ) → arrives_at node door key s t
        → IfSome key (λ k. is_place_of (Some door) k ≡ true)
    by_node None None gets = tt
    by_node None (Some k) gets = absurd (let never : Some k ≡ None = gets.0 in cc)
    by_node (Some node) None gets = tt
    by_node (Some node) (Some k) gets = place_at door k gets.0 gets.1

-- the keys from a door's first place on, as far as they go, are its places
pub of_key : (door first last k : ℕ) → first ≡ FREE_PLACES + NODE_SESSIONS * door
    → last ≤ first + NODE_SESSIONS → first ≤ k → k < last → is_place_at door k ≡ true
of_key door first last k is few low high =
    place_at door k (omega (arith, is, low)) (omega (arith, is, few, high))

-- a peer came, if there was a key for it
pub reaches_arrival : (key : Option ℕ) (s t : StoredState) → GetsKey key s.station t.station
    → t.journal ≡ s.journal → ReachesBy (IsArrival None) s t
reaches_arrival None s t gets same =
    reaches_kept (IsArrival None) s t gets.0 (goes_same s.journal t.journal same)
reaches_arrival (Some k) s t gets same =
    reaches_by (IsArrival None) (Arrives k None) s t tt refl
    (gets.3 ∙ sym (given_is (nat_lt k FREE_PLACES) k None (peer_at s.station.peers k) s.station
    (free_place k gets.1) gets.2))
    (goes_same s.journal t.journal same)

-- .. at a door
pub reaches_door : (door : ℕ) (key : Option ℕ) (s t : StoredState)
    → ArrivesAt door key s.station t.station → t.journal ≡ s.journal
    → ReachesBy (IsArrival (Some door)) s t
reaches_door door key s t gets same =
    by_node (slice_get s.station.gates.doors door) refl key gets
  where
    goes : JournalGoesOn s.journal t.journal
    goes = goes_same s.journal t.journal same

    by_node : (node : Option (List ℕ)) → slice_get s.station.gates.doors door ≡ node
        → (key : Option ℕ)
        → arrives_at node door key s.station t.station → ReachesBy (IsArrival (Some door)) s t
    by_node None is key gets = reaches_kept (IsArrival (Some door)) s t gets.1 goes
    by_node (Some node) is None gets = reaches_kept (IsArrival (Some door)) s t gets.0 goes
    by_node (Some node) is (Some k) gets =
        reaches_by (IsArrival (Some door)) (Arrives k (Some door)) s t tt refl
        (gets.3 ∙ sym (ap (λ n. give_at k door n s.station) is
        ∙ given_is (is_place_at door k) k (Some node) (peer_at s.station.peers k) s.station
        (place_at door k gets.0 gets.1) gets.2))
        goes

-- ---- the station itself acts

pub reaches_released : (on off : Bool) (p : ℕ) (s t : StoredState)
    → t.station ≡ end_release on off p s.station → t.journal ≡ s.journal → ReachesBy IsOwn s t
reaches_released on off p s t is same =
    reaches_by IsOwn (EndsRelease on off p) s t tt tt is (goes_same s.journal t.journal same)

pub reaches_lost : (memory : Bool) (p : ℕ) (s t : StoredState)
    → t.station ≡ lose memory p s.station → t.journal ≡ s.journal → ReachesBy IsOwn s t
reaches_lost memory p s t is same =
    reaches_by IsOwn (Loses memory p) s t tt tt is (goes_same s.journal t.journal same)

-- room was made for it
pub reaches_room : (s t : StoredState) → IsSameOrForgets s.station t.station
    → JournalGoesOn s.journal t.journal → ReachesBy IsOwn s t
reaches_room s t (inl same) goes = reaches_kept IsOwn s t same goes
reaches_room s t (inr forgets) goes = reaches_by IsOwn Forgets s t tt tt forgets goes

-- ---- a call at a connection

-- who was read from still is
pub still_read : (k : ℕ) (s t : StationState) → IsSameOrForgets s t → is_read_at s k ≡ true
    → is_read_at t k ≡ true
still_read k s t (inl same) read = ap (λ (x : StationState). is_read_at x k) same ∙ read
still_read k s t (inr forgets) read = ap (λ (x : StationState). is_read_at x k) forgets ∙ read

-- what is read, where there is room, once the journal went on so far
pub reaches_read : (call : Call) (k : ℕ) (left left' : Option (List ℕ)) (s t : StoredState)
    → HasRoomToHear s.station.book → is_read_at s.station k ≡ true
    → HearsCall call k left left' s.station t.station
    → JournalGoesOn s.journal t.journal → ReachesBy (IsHearing k) s t
reaches_read (Passed n) k left left' s t room read hears goes =
    reaches_by (IsHearing k) (Says hears.memory k hears.octets) s t
    (omega (arith, hears.size, hears.few), room) (refl, read) hears.heard goes
reaches_read Ended k left left' s t room read hears goes =
    reaches_by (IsHearing k) (Finishes k) s t tt (refl, read) hears.1 goes
reaches_read Interrupted k left left' s t room read hears goes =
    reaches_kept (IsHearing k) s t hears.1 goes
reaches_read Waits k left left' s t room read hears goes =
    reaches_kept (IsHearing k) s t hears.1 goes
reaches_read Failed k left left' s t room read hears goes =
    reaches_by (IsHearing k) (Finishes k) s t tt (refl, read) hears.1 goes

-- room was made for what is read of this peer
pub reaches_ready : (k : ℕ) (s t : StoredState) → IsSameOrForgets s.station t.station
    → JournalGoesOn s.journal t.journal → ReachesBy (IsHearing k) s t
reaches_ready k s t (inl same) goes = reaches_kept (IsHearing k) s t same goes
reaches_ready k s t (inr forgets) goes =
    reaches_by (IsHearing k) Forgets s t tt tt forgets goes

-- .. and it was read
pub reaches_heard_with_room : (call : Call) (k : ℕ) (left left' : Option (List ℕ))
    (s t : StoredState) → HearsWithRoom call k left left' s.station t.station
    → JournalGoesOn s.journal t.journal → ReachesBy (IsHearing k) s t
reaches_heard_with_room call k left left' s t hears goes =
    let ready = with_station hears.ready s in
    reaches_then (IsHearing k) s ready t
    (reaches_ready k s ready hears.makes (goes_same s.journal s.journal refl))
    (reaches_read call k left left' ready t hears.room hears.of_read hears.hears goes)

pub reaches_written : (call : Call) (k : ℕ) (got got' : Option (List ℕ)) (s t : StoredState)
    → SendsCall call k got got' s t → ReachesBy (IsSending k) s t
reaches_written (Passed n) k got got' s t sends =
    reaches_moved (IsSending k) (Takes k n) s t tt refl sends.1
reaches_written Ended k got got' s t sends = absurd sends
reaches_written Interrupted k got got' s t sends = reaches_same (IsSending k) s t sends.1
reaches_written Waits k got got' s t sends = reaches_same (IsSending k) s t sends.1
reaches_written Failed k got got' s t sends = reaches_same (IsSending k) s t sends.1

-- no known octet was read
consumed_none : (left left' : Option (List ℕ)) → Keeps left left' → Consumes left left' []
consumed_none left left' keeps = Consumes-kept left left left' [] (Consumes-none left) keeps

-- ---- the moves of what was done

pub moves_of_same : (allowed : Move → StationState → Type 0) (s t : StoredState) (same : t ≡ s)
    → (reaches_same allowed s t same).moves ≡ []
unfolding reaches_same reaches_kept
moves_of_same allowed s t same = refl

pub moves_of_both : (allowed : Move → StationState → Type 0) (s t u : StoredState)
    (first : ReachesBy allowed s t) (last : ReachesBy allowed t u)
    → (reaches_then allowed s t u first last).moves ≡ first.moves ++ last.moves
unfolding reaches_then
moves_of_both allowed s t u first last = refl

pub moves_of_dismissed : (door : Option ℕ) (k : ℕ) (s t : StoredState)
    (place : is_place_of door k ≡ true) (unserved : is_served_at s.station k ≡ false)
    (left : t ≡ with_station (without_peer k s.station) s)
    → (reaches_dismissed door k s t place unserved left).moves ≡ Leaves k ∷ []
unfolding reaches_dismissed reaches_moved reaches_by
moves_of_dismissed door k s t place unserved left = refl

pub moves_of_unlinked : (door : Option ℕ) (k : ℕ) (s t : StoredState)
    (place : is_place_of door k ≡ true) (unserved : is_served_at s.station k ≡ false)
    (left : IsSameOrLeft k s t)
    → ((reaches_unlinked door k s t place unserved left).moves ≡ [])
    ⊎ ((reaches_unlinked door k s t place unserved left).moves ≡ Leaves k ∷ [])
unfolding reaches_unlinked reaches_same reaches_kept reaches_moved reaches_by
moves_of_unlinked door k s t place unserved (inl same) = inl refl
moves_of_unlinked door k s t place unserved (inr left) = inr refl

pub moves_of_arriving : (door : Option ℕ) (s t : StoredState) (by : ReachesBy (IsArrival door) s t)
    → (reaches_arriving door s t by).moves ≡ by.moves
unfolding reaches_arriving reaches_wider
moves_of_arriving door s t by = refl

pub moves_of_welcome : (door : Option ℕ) (s t : StoredState)
    (by : ReachesBy (IsDismissal door) s t) → (reaches_welcome door s t by).moves ≡ by.moves
unfolding reaches_welcome reaches_wider
moves_of_welcome door s t by = refl

pub moves_of_way : (door : Option ℕ) (s t : StoredState) (by : ReachesBy (IsDismissal None) s t)
    → (reaches_way door s t by).moves ≡ by.moves
unfolding reaches_way reaches_wider
moves_of_way door s t by = refl

-- what was said while room was made, and in a read
pub said_ready : (k : ℕ) (s t : StoredState) (made : IsSameOrForgets s.station t.station)
    (goes : JournalGoesOn s.journal t.journal) → said_in (reaches_ready k s t made goes).moves ≡ []
unfolding reaches_ready reaches_kept reaches_by
said_ready k s t (inl same) goes = refl
said_ready k s t (inr forgets) goes = refl

pub said_read : (call : Call) (k : ℕ) (left left' : Option (List ℕ)) (s t : StoredState)
    (room : HasRoomToHear s.station.book) (read : is_read_at s.station k ≡ true)
    (hears : HearsCall call k left left' s.station t.station)
    (goes : JournalGoesOn s.journal t.journal)
    → Consumes left left' (said_in (reaches_read call k left left' s t room read hears goes).moves)
unfolding reaches_read reaches_kept reaches_by
said_read (Passed n) k left left' s t room read hears goes =
    subst (Consumes left left') (sym (append-nil hears.octets)) hears.read
said_read Ended k left left' s t room read hears goes = hears.0
said_read Interrupted k left left' s t room read hears goes = consumed_none left left' hears.0
said_read Waits k left left' s t room read hears goes = consumed_none left left' hears.0
said_read Failed k left left' s t room read hears goes = consumed_none left left' hears.0

-- ---- what each function is made of

-- a round
pub ruleset moved = (
  goes_same,
  reaches_same,
  reaches_then,
  reaches_kept,
  reaches_any,
)

-- .. a peer that comes, and those that leave for it
pub ruleset welcomed = (
  goes_same,
  came_unserved,
  came_unserved_at,
  came_to_place,
  came_to_place_at,
  reaches_same,
  reaches_then,
  reaches_kept,
  reaches_welcome,
  reaches_way,
  reaches_dismissed,
  reaches_unlinked,
  reaches_arrival,
  reaches_arriving,
  reaches_door,
)

-- .. connections that follow their sessions
pub ruleset followed = (
  goes_same,
  reaches_same,
  reaches_then,
  reaches_kept,
  reaches_following,
)

-- .. the end of a day
pub ruleset ended = (
  goes_same,
  reaches_same,
  reaches_then,
  reaches_kept,
  reaches_taking,
  reaches_taken,
  reaches_over,
  reaches_ended,
  reaches_left,
)

-- .. time that passes
pub ruleset passed = (
  goes_same,
  reaches_same,
  reaches_then,
  reaches_kept,
  reaches_passing_late,
  reaches_passing_own,
)

-- .. a connection that closes
pub ruleset closed = (
  ended_at,
  reaches_same,
  reaches_then,
  reaches_finished,
  reaches_gone,
)

-- .. a peer that is late
pub ruleset left_late = (
  reaches_same,
  reaches_then,
  reaches_late_end,
  reaches_late,
)

-- .. what the station does by itself
pub ruleset done_alone = (
  goes_same,
  reaches_same,
  reaches_then,
  reaches_kept,
  reaches_released,
  reaches_lost,
  reaches_room,
)
