-- Connections stay paired with peers: who is there after a move, and who has a connection.
use Rattle.std.proofs.Common.{◌≡◌, ◌≢◌, ℕ, zero, suc, ◌<◌, ◌≤◌, ◌==◌, Bool, true, false, List}
use Rattle.std.proofs.Common.{[], ◌∷◌, ◌++◌, length, Option, Some, None, get_or, arith, refl, sym}
use Rattle.std.proofs.Common.{ap, subst, ◌∙◌, inl, inr}
use Rattle.std.proofs.Math.ListN.{set}
use Rattle.std.proofs.lemmas.Bool.Decides.{nat_tests}
use Rattle.std.proofs.lemmas.List.{get_or-set_other, get_or-set_same}
use Rattle.std.specs.Prelude.{drop, if◌then◌else◌, is_none, is_some, option_map}
use Rattle.std.specs.Prelude.{slice_get, ⊤}
use Rattle.site_base.specs.declared.actor.Actor.{Actor}
use Rattle.site_base.specs.declared.actor.Actor.TheVariants.{Dispenser, Till}
use Rattle.site_base.specs.declared.event.Event.{Event}
use Rattle.site_base.specs.declared.event.Event.TheVariants.{Offline, SignOn, Terminate}
use Rattle.site_base.specs.declared.row.Row.{Row}
use Rattle.site_book.specs.Book.{Book}
use Rattle.device_map.specs.declared.ids.TheConstants.{DISPENSER_SUBNET}
use Rattle.station.specs.Gates.{count_at}
use Rattle.station.specs.Moves.{StationState, admits_at, end_release, end_release_by, finish_at}
use Rattle.station.specs.Moves.{free, hear_from, is_released_at, lose, rows_since, take_by}
use Rattle.station.specs.Moves.{with_arrival, with_book, with_end, with_own_row}
use Rattle.station.specs.Moves.{with_release_ended, with_turn, without_peer}
use Rattle.station.specs.Peers.{peer_at, tell_rows, with_notices, with_peer}
use Rattle.station.specs.Reads.{Arrives as GetsKey, ArrivesAt, arrives_at}
use Rattle.station.specs.Runs.{Arrives, EndsRelease, Finishes, Forgets, Leaves, Loses, Move, Says}
use Rattle.station.specs.Runs.{Takes, after, after_move, opening_station}
use Rattle.station.specs.Sessions.{Grants, Session, Turn, finish, hear, is_read, opening_session}
use Rattle.station.proofs.Peers.{at_slot, peer_at-map, peer_at-other, peer_at-same}
use Rattle.journal.specs.Memory.{IsSameOrForgets}
use Rattle.journal.specs.Stored.{StoredState, with_station}
use Rattle.peer_connections.specs.Allowed.{IsHearing, IsSending}
use Rattle.peer_connections.specs.Links.{ArePaired, AwaitsLink, ComesTo, SameAreThere, has_link}
use Rattle.peer_connections.specs.Links.{has_peer}
use Rattle.peer_connections.specs.Reaches.{AreAllowed, ReachesBy}
use Rattle.peer_connections.specs.Streams.{HearsStream, SendsStream}
use Rattle.peer_connections.proofs.Linking.{others_same, others_set}
use Rattle.peer_connections.proofs.Seeing.{came_book, came_book_at, seen_all, seen_book, seen_ended}
use Rattle.peer_connections.proofs.Seeing.{seen_left, seen_linked, seen_room, seen_same, seen_sent}

-- ---- the same are there

same_then : (a b c : List (Option Session)) → SameAreThere a b → SameAreThere b c
    → SameAreThere a c
same_then a b c one two k = two k ∙ one k

is_mapped : (f : Session → Session) (y : Option Session)
    → is_some (option_map f y) ≡ is_some y
is_mapped f None = refl
is_mapped f (Some x) = refl

-- after all are told of rows
told_same : (rows : List Row) (peers : List (Option Session))
    → SameAreThere peers (with_notices rows peers)
told_same rows peers k =
    ap is_some (peer_at-map (option_map (tell_rows rows)) k peers refl)
    ∙ is_mapped (tell_rows rows) (peer_at peers k)

-- .. after the session of one that is there goes on
put_same : (k : ℕ) (x : Session) (peers : List (Option Session)) → has_peer peers k ≡ true
    → SameAreThere peers (with_peer k (Some x) peers)
put_same k x peers there j =
    at_slot (λ (y : Option Session). is_some y ≡ has_peer peers j) k j (Some x) peers
    (λ same. sym (subst (λ (i : ℕ). has_peer peers i ≡ true) same there))
    (λ other. refl)

turn_same : (k : ℕ) (t : Turn) (s : StationState) → has_peer s.peers k ≡ true
    → SameAreThere s.peers (with_turn k t s).peers
turn_same k t s there =
    let rows = rows_since s.book t.book in
    let told = told_same rows s.peers in
    same_then s.peers (with_notices rows s.peers) (with_turn k t s).peers told
    (put_same k t.session (with_notices rows s.peers) (told k ∙ there))

heard_same : (g : Grants) (k : ℕ) (piece : List ℕ) (y : Option Session) (s : StationState)
    → peer_at s.peers k ≡ y → SameAreThere s.peers (hear_from g k piece y s).peers
heard_same g k piece None s is = λ j. refl
heard_same g k piece (Some x) s is = by_test (is_read x)
  where
    turn : Turn
    turn = hear (admits_at k x.door s) g piece (record { book = s.book; session = x })

    by_test : (b : Bool) → SameAreThere s.peers (if b then with_turn k turn s else s).peers
    by_test true = turn_same k turn s (ap is_some is)
    by_test false = λ j. refl

finished_same : (k : ℕ) (y : Option Session) (s : StationState) → peer_at s.peers k ≡ y
    → SameAreThere s.peers (finish_at k y s).peers
finished_same k None s is = λ j. refl
finished_same k (Some x) s is = by_test (is_none x.end)
  where
    turn : Turn
    turn = finish (record { book = s.book; session = x })

    by_test : (b : Bool) → SameAreThere s.peers (if b then with_turn k turn s else s).peers
    by_test true = turn_same k turn s (ap is_some is)
    by_test false = λ j. refl

ended_same : (k : ℕ) (s : StationState) → SameAreThere s.peers (with_end k s).peers
ended_same k s = finished_same k (peer_at s.peers k) s refl

taken_by : (k n : ℕ) (y : Option Session) (s : StationState) → peer_at s.peers k ≡ y
    → SameAreThere s.peers (take_by k n y s).peers
taken_by k n None s is = λ j. refl
taken_by k n (Some x) s is =
    put_same k (record x { owed = drop n x.owed }) s.peers (ap is_some is)

-- .. after the station acts by itself
booked_same : (b : Book) (s : StationState) → SameAreThere s.peers (with_book b s).peers
booked_same b s = told_same (rows_since s.book b) s.peers

own_same : (memory : Bool) (actor : Actor) (event : Event) (s : StationState)
    → SameAreThere s.peers (with_own_row memory actor event s).peers
own_same memory actor event s =
    booked_same (with_own_row memory actor event s).book s

released_same : (on off : Bool) (t p : ℕ) (s : StationState)
    → SameAreThere s.peers (with_release_ended on off t p s).peers
released_same on off t p s =
    let signed = with_own_row on (Till t) SignOn s in
    let ended = with_own_row off (Till t) (Terminate p) signed in
    same_then s.peers signed.peers (with_release_ended on off t p s).peers
    (own_same on (Till t) SignOn s)
    (same_then signed.peers ended.peers (with_release_ended on off t p s).peers
    (own_same off (Till t) (Terminate p) signed)
    (booked_same (with_release_ended on off t p s).book ended))

released_by : (on off : Bool) (p : ℕ) (house : Option ℕ) (s : StationState)
    → SameAreThere s.peers (end_release_by on off p house s).peers
released_by on off p None s = λ j. refl
released_by on off p (Some t) s = by_test (is_released_at s.book p)
  where
    by_test : (b : Bool)
        → SameAreThere s.peers (if b then with_release_ended on off t p s else s).peers
    by_test true = released_same on off t p s
    by_test false = λ j. refl

lost_same : (memory : Bool) (p : ℕ) (s : StationState)
    → SameAreThere s.peers (lose memory p s).peers
lost_same memory p s = by_test (count_at (DISPENSER_SUBNET ∷ p ∷ []) s.peers == 0)
  where
    by_test : (b : Bool) → SameAreThere s.peers
        (if b then with_own_row memory (Dispenser p) (Offline p) s else s).peers
    by_test true = own_same memory (Dispenser p) (Offline p) s
    by_test false = λ j. refl

-- ---- .. after moves with which nobody comes or leaves

abbrev IsStill : Move → Type 0
IsStill (Arrives k door) = ⊥
IsStill (Leaves k) = ⊥
IsStill m = ⊤

move_same : (m : Move) (s : StationState) → IsStill m
    → SameAreThere s.peers (after_move m s).peers
move_same (Arrives k door) s still = absurd still
move_same (Leaves k) s still = absurd still
move_same (Says memory k octets) s still =
    heard_same memory k octets (peer_at s.peers k) s refl
move_same (Takes k n) s still = taken_by k n (peer_at s.peers k) s refl
move_same (Finishes k) s still = ended_same k s
move_same (EndsRelease on off p) s still = released_by on off p s.gates.house s
move_same (Loses memory p) s still = lost_same memory p s
move_same Forgets s still = λ j. refl

moves_same : (allowed : Move → StationState → Type 0)
    (still : (m : Move) (s : StationState) → allowed m s → IsStill m) (ms : List Move)
    (s : StationState) → AreAllowed allowed ms s → SameAreThere s.peers (after ms s).peers
moves_same allowed still [] s all = λ j. refl
moves_same allowed still (m ∷ ms) s all =
    let next = after_move m s in
    same_then s.peers next.peers (after ms next).peers (move_same m s (still m s all.0))
    (moves_same allowed still ms next all.1)

pub reach_same : (allowed : Move → StationState → Type 0)
    (still : (m : Move) (s : StationState) → allowed m s → IsStill m) (s t : StoredState)
    → ReachesBy allowed s t → SameAreThere s.station.peers t.station.peers
reach_same allowed still s t by k =
    ap (λ (u : StationState). has_peer u.peers k) by.lead
    ∙ moves_same allowed still by.moves s.station by.only k

hearing_still : (k : ℕ) (m : Move) (s : StationState) → IsHearing k m s → IsStill m
hearing_still k (Says memory j octets) s is = tt
hearing_still k (Finishes j) s is = tt
hearing_still k Forgets s is = tt
hearing_still k (Arrives j door) s is = absurd is
hearing_still k (Takes j n) s is = absurd is
hearing_still k (Leaves j) s is = absurd is
hearing_still k (EndsRelease on off p) s is = absurd is
hearing_still k (Loses memory p) s is = absurd is

pub sending_still : (k : ℕ) (m : Move) (s : StationState) → IsSending k m s → IsStill m
sending_still k (Takes j n) s is = tt
sending_still k (Says memory j octets) s is = absurd is
sending_still k (Finishes j) s is = absurd is
sending_still k Forgets s is = absurd is
sending_still k (Arrives j door) s is = absurd is
sending_still k (Leaves j) s is = absurd is
sending_still k (EndsRelease on off p) s is = absurd is
sending_still k (Loses memory p) s is = absurd is

-- ---- one leaves

freed_peer : (k j : ℕ) (y : Option Session) (s : StationState) → peer_at s.peers k ≡ y
    → has_peer (free k y s).peers j ≡ (if k == j then false else has_peer s.peers j)
freed_peer k j None s is = by_key (k == j) refl
  where
    by_key : (b : Bool) → (k == j) ≡ b
        → has_peer s.peers j ≡ (if b then false else has_peer s.peers j)
    by_key true same = ap (λ (i : ℕ). has_peer s.peers i) (grind (arith, nat_tests)) ∙ ap is_some is
    by_key false other = refl
freed_peer k j (Some x) s is = by_key (k == j) refl
  where
    by_key : (b : Bool) → (k == j) ≡ b
        → has_peer (with_peer k None s.peers) j ≡ (if b then false else has_peer s.peers j)
    by_key true same =
        ap (λ (i : ℕ). has_peer (with_peer k None s.peers) i) (grind (arith, nat_tests))
        ∙ ap is_some (peer_at-same k None s.peers)
    by_key false other =
        let apart : j ≢ k = grind (arith, nat_tests) in
        ap is_some (peer_at-other k j None s.peers apart)

left_peer : (k j : ℕ) (s : StationState)
    → has_peer (without_peer k s).peers j ≡ (if k == j then false else has_peer s.peers j)
left_peer k j s =
    let after = with_end k s in
    freed_peer k j (peer_at after.peers k) after refl
    ∙ ap (λ (there : Bool). if k == j then false else there) (ended_same k s j)

-- ---- connections stay paired

paired_with : {L : Type 0} (links : List (Option L)) (old new : List (Option Session))
    → SameAreThere old new → ArePaired links old → ArePaired links new
paired_with links old new same paired k = paired k ∙ sym (same k)

-- the station stays
pub paired_same : {L : Type 0} (links : List (Option L)) (s t : StoredState)
    → t.station ≡ s.station → ArePaired links s.station.peers → ArePaired links t.station.peers
paired_same links s t same paired =
    subst (λ (u : StationState). ArePaired links u.peers) (sym same) paired

-- .. or rows in memory are forgotten
pub paired_room : {L : Type 0} (links : List (Option L)) (s t : StoredState)
    → IsSameOrForgets s.station t.station → ArePaired links s.station.peers
    → ArePaired links t.station.peers
paired_room links s t (inl same) paired = paired_same links s t same paired
paired_room links s t (inr forgets) paired = λ k.
    paired k ∙ ap (λ (u : StationState). has_peer u.peers k) (sym forgets)

-- a peer is heard
pub paired_heard : {L : Type 0} (key : ℕ) (left left' : Option (List ℕ)) (links : List (Option L))
    (s t : StoredState) → HearsStream key left left' s t → ArePaired links s.station.peers
    → ArePaired links t.station.peers
paired_heard key left left' links s t heard paired =
    paired_with links s.station.peers t.station.peers
    (reach_same (IsHearing key) (hearing_still key) s t heard.moves) paired

-- .. or sent to
pub paired_sent : {L : Type 0} (key : ℕ) (got got' : Option (List ℕ)) (links : List (Option L))
    (s t : StoredState) → SendsStream key got got' s t → ArePaired links s.station.peers
    → ArePaired links t.station.peers
paired_sent key got got' links s t sent paired =
    paired_with links s.station.peers t.station.peers
    (reach_same (IsSending key) (sending_still key) s t sent.moves) paired

-- .. or its session ends
pub paired_ended : {L : Type 0} (key : ℕ) (links : List (Option L)) (s t : StoredState)
    → t ≡ with_station (with_end key s.station) s → ArePaired links s.station.peers
    → ArePaired links t.station.peers
paired_ended key links s t ended paired k =
    paired k ∙ sym (ended_same key s.station k)
    ∙ ap (λ (u : StoredState). has_peer u.station.peers k) (sym ended)

-- a release ends
pub paired_released : {L : Type 0} (on off : Bool) (p : ℕ) (links : List (Option L))
    (s t : StationState) → t ≡ end_release on off p s → ArePaired links s.peers
    → ArePaired links t.peers
paired_released on off p links s t ended paired k =
    paired k ∙ sym (released_by on off p s.gates.house s k)
    ∙ ap (λ (u : StationState). has_peer u.peers k) (sym ended)

-- a dispenser is lost
pub paired_lost : {L : Type 0} (memory : Bool) (p : ℕ) (links : List (Option L))
    (s t : StationState) → t ≡ lose memory p s → ArePaired links s.peers
    → ArePaired links t.peers
paired_lost memory p links s t lost paired k =
    paired k ∙ sym (lost_same memory p s k)
    ∙ ap (λ (u : StationState). has_peer u.peers k) (sym lost)

-- a connection is another one
set_link : {L : Type 0} (key k : ℕ) (links : List (Option L)) (old link : L)
    → get_or links key None ≡ Some old
    → has_link (set links key (Some link)) k ≡ has_link links k
set_link key k [] old link is = refl
set_link zero zero (y ∷ links) old link is = sym (ap is_some is)
set_link zero (suc k) (y ∷ links) old link is = refl
set_link (suc key) zero (y ∷ links) old link is = refl
set_link (suc key) (suc k) (y ∷ links) old link is = set_link key k links old link is

pub paired_set : {L : Type 0} (key : ℕ) (links : List (Option L)) (old link : L)
    (peers : List (Option Session)) → get_or links key None ≡ Some old → ArePaired links peers
    → ArePaired (set links key (Some link)) peers
paired_set key links old link peers is paired k = set_link key k links old link is ∙ paired k

-- a connection is closed, and its peer leaves
pub gone_link : {L : Type 0} (key : ℕ) (links : List (Option L))
    → get_or (set links key None) key None ≡ None
gone_link key [] = refl
gone_link zero (y ∷ links) = refl
gone_link (suc key) (y ∷ links) = gone_link key links

no_link : {L : Type 0} (key k : ℕ) (links : List (Option L))
    → has_link (set links key None) k ≡ (if key == k then false else has_link links k)
no_link key k links = by_key (key == k) refl
  where
    by_key : (b : Bool) → (key == k) ≡ b
        → has_link (set links key None) k ≡ (if b then false else has_link links k)
    by_key true same =
        let is : key ≡ k = grind (arith, nat_tests) in
        subst (λ (i : ℕ). has_link (set links key None) i ≡ false) is
        (ap is_some (gone_link key links))
    by_key false other =
        let apart : k ≢ key = grind (arith, nat_tests) in
        ap is_some (get_or-set_other links key k None None apart)

pub paired_left : {L : Type 0} (key : ℕ) (links : List (Option L)) (s : StationState)
    → ArePaired links s.peers → ArePaired (set links key None) (without_peer key s).peers
paired_left key links s paired k =
    no_link key k links
    ∙ ap (λ (there : Bool). if key == k then false else there) (paired k)
    ∙ sym (left_peer key k s)

-- .. of a station with its journal
pub paired_gone : {L : Type 0} (key : ℕ) (links : List (Option L)) (s t : StoredState)
    → t ≡ with_station (without_peer key s.station) s → ArePaired links s.station.peers
    → ArePaired (set links key None) t.station.peers
paired_gone key links s t left paired =
    subst (λ (u : StoredState). ArePaired (set links key None) u.station.peers) (sym left)
    (paired_left key links s.station paired)

-- .. where there is none
set_beyond : {L : Type 0} (key : ℕ) (links : List (Option L)) → length links ≤ key
    → set links key None ≡ links
set_beyond key [] above = refl
set_beyond zero (y ∷ links) above =
    absurd (let none : suc (length links) ≤ 0 = above in omega (arith, none))
set_beyond (suc key) (y ∷ links) above =
    ap (λ (rest : List (Option _)). y ∷ rest) (set_beyond key links (omega (arith, above)))

pub paired_left_beyond : {L : Type 0} (key : ℕ) (links : List (Option L)) (s : StationState)
    → length links ≤ key → ArePaired links s.peers → ArePaired links (without_peer key s).peers
paired_left_beyond key links s above paired =
    subst (λ (ls : List (Option _)). ArePaired ls (without_peer key s).peers)
    (set_beyond key links above) (paired_left key links s paired)

-- nobody has a connection yet
pub no_link_behind : {L : Type 0} (links : List (Option L))
    → ((k : ℕ) → has_link links k ≡ false) → (k : ℕ) → has_link (links ++ None ∷ []) k ≡ false
no_link_behind [] none zero = refl
no_link_behind [] none (suc k) = refl
no_link_behind (y ∷ links) none zero = none zero
no_link_behind (y ∷ links) none (suc k) = no_link_behind links (λ j. none (suc j)) k

pub paired_open : {L : Type 0} (links : List (Option L)) (s : StationState)
    → s ≡ opening_station s.gates s.book → ((k : ℕ) → has_link links k ≡ false)
    → ArePaired links s.peers
paired_open links s alone none k =
    none k ∙ sym (ap (λ (u : StationState). has_peer u.peers k) alone)

-- ---- a peer comes

came_peers : (key : ℕ) (door : Option (List ℕ)) (s t : StationState)
    → peer_at s.peers key ≡ None → t ≡ with_arrival key door s
    → ComesTo (Some key) s.peers t.peers
came_peers key door s t none came = (
  ap is_some none,
  ap (λ (u : StationState). has_peer u.peers key) came
      ∙ ap is_some (peer_at-same key (Some (opening_session door)) s.peers),
  λ k other.
      ap (λ (u : StationState). has_peer u.peers k) came
      ∙ ap is_some (peer_at-other key k (Some (opening_session door)) s.peers other),
)

same_peers : (s t : StationState) → t ≡ s → ComesTo None s.peers t.peers
same_peers s t same k = ap (λ (u : StationState). has_peer u.peers k) same

pub comes : (key : Option ℕ) (s t : StationState) → GetsKey key s t
    → ComesTo key s.peers t.peers
comes None s t gets = same_peers s t gets.0
comes (Some k) s t gets = came_peers k None s t gets.2 gets.3

pub comes_at : (door : ℕ) (key : Option ℕ) (s t : StationState) → ArrivesAt door key s t
    → ComesTo key s.peers t.peers
comes_at door key s t = by_node (slice_get s.gates.doors door) key
  where
    by_node : (node : Option (List ℕ)) (key : Option ℕ) → arrives_at node door key s t
        → ComesTo key s.peers t.peers
    by_node None None gets = same_peers s t gets.1
    by_node None (Some k) gets = absurd (let never : Some k ≡ None = gets.0 in cc)
    by_node (Some node) None gets = same_peers s t gets.0
    by_node (Some node) (Some k) gets = came_peers k (Some node) s t gets.2 gets.3

-- it has no connection yet
pub awaits : {L : Type 0} (key : ℕ) (links : List (Option L)) (old new : List (Option Session))
    → ArePaired links old → ComesTo (Some key) old new → AwaitsLink key links new
awaits key links old new paired came = record {
  there = came.1;
  none = paired key ∙ came.0;
  others = λ k other. paired k ∙ sym (came.2 k other);
}

-- nobody has come
pub paired_none : {L : Type 0} (found : Option ℕ) (links : List (Option L))
    (old new : List (Option Session)) → found ≡ None → ArePaired links old
    → ComesTo found old new → ArePaired links new
paired_none None links old new is paired none = paired_with links old new none paired
paired_none (Some k) links old new is paired came =
    absurd (let never : Some k ≡ None = is in cc)

-- it gets one
pub paired_linked : {L : Type 0} (key : ℕ) (links : List (Option L)) (link : L)
    (peers : List (Option Session)) → key < length links → AwaitsLink key links peers
    → ArePaired (set links key (Some link)) peers
paired_linked key links link peers within waits k = by_key (key == k) refl
  where
    by_key : (b : Bool) → (key == k) ≡ b
        → has_link (set links key (Some link)) k ≡ has_peer peers k
    by_key true same =
        let is : key ≡ k = grind (arith, nat_tests) in
        subst (λ (i : ℕ). has_link (set links key (Some link)) i ≡ has_peer peers i) is
        (ap is_some (get_or-set_same links key (Some link) None within) ∙ sym waits.there)
    by_key false other =
        let apart : k ≢ key = grind (arith, nat_tests) in
        ap is_some (get_or-set_other links key k (Some link) None apart) ∙ waits.others k apart

-- .. or leaves
pub paired_unlinked : {L : Type 0} (key : ℕ) (links : List (Option L)) (s : StationState)
    → AwaitsLink key links s.peers → ArePaired links (without_peer key s).peers
paired_unlinked key links s waits k = by_key (key == k) refl ∙ sym (left_peer key k s)
  where
    by_key : (b : Bool) → (key == k) ≡ b
        → has_link links k ≡ (if b then false else has_peer s.peers k)
    by_key true same = ap (has_link links) (grind (arith, nat_tests)) ∙ waits.none
    by_key false other =
        let apart : k ≢ key = grind (arith, nat_tests) in
        waits.others k apart

-- ---- what each function is made of

pub ruleset paired = (
  seen_all,
  others_same,
  others_set,
  paired_same,
  paired_room,
  paired_heard,
  paired_sent,
  paired_ended,
  paired_set,
  paired_left,
  paired_left_beyond,
  awaits,
  seen_same,
  seen_room,
  seen_sent,
  seen_ended,
  seen_left,
  seen_book,
  seen_linked,
)

-- a peer comes
pub ruleset arrived = (
  comes,
  comes_at,
  came_book,
  came_book_at,
)

-- .. and has a connection
pub ruleset linked = (
  others_same,
  others_set,
  paired_linked,
  paired_unlinked,
)
