-- The laws among neighbours, over every list of moves: through which door rows come, what the
-- station makes alone, what requests cost, and who has a place.
use Rattle.std.specs.Prelude.{◌≡◌, ◌⊎◌, ◌≤◌, ◌*◌, ℕ, Bool, true, false, List, [], ◌++◌}
use Rattle.std.specs.Prelude.{◌∷◌, length, map, nat_lt, Option, Some, None, IsSome, count_by}
use Rattle.std.specs.Prelude.{slice_get}
use Rattle.std.specs.List.{AllByRecursion}
use Rattle.site_base.specs.declared.actor.Actor.{Actor}
use Rattle.site_base.specs.declared.actor.Actor.TheVariants.{Dispenser, Till}
use Rattle.site_base.specs.declared.event.Event.{Event}
use Rattle.site_base.specs.declared.event.Event.TheVariants.{Offline, SignOn, Terminate}
use Rattle.site_base.specs.declared.row.Row.{Row}
use Rattle.app_message.specs.Stream.{fed_by, stream_of}
use Rattle.device_map.specs.declared.ids.TheConstants.{DISPENSER_SUBNET, TILL_SUBNET}
use Rattle.site_book.specs.Book.{Book}
use Rattle.peer_talk.specs.Exchanges.{Asked, request_asked, rows_made, sign_off_row}
use Rattle.peer_talk.specs.Text.{requests_in, session_requests}
use Rattle.station.specs.declared.sizes.TheConstants.{NODE_SESSIONS}
use Rattle.station.specs.Adding.{AddsSignOff}
use Rattle.station.specs.Gates.{GateState, count_at, has_door}
use Rattle.station.specs.Listening.{is_at}
use Rattle.station.specs.Moves.{StationState, is_released_at, rows_since, with_arrival, with_end}
use Rattle.station.specs.Moves.{without_peer}
use Rattle.station.specs.Peers.{peer_at}
use Rattle.station.specs.Reads.{ArrivesAt}
use Rattle.station.specs.Runs.{EndsRelease, Finishes, Leaves, Loses, Move, Says, Stays, after}
use Rattle.station.specs.Runs.{after_move, heard_of, opening_station}
use Rattle.station.specs.Sessions.{Session}
use Rattle.station.specs.Stories.{AreAsked, Happening, messages_in, rows_in, signed_in}

-- ---- doors

-- the node from which an actor speaks
abbrev pub node_of_actor : Actor → List ℕ
node_of_actor (Till t) = TILL_SUBNET ∷ t ∷ []
node_of_actor (Dispenser p) = DISPENSER_SUBNET ∷ p ∷ []

-- a peer that came at a door of this node
abbrev pub is_peer_at : List ℕ → Option Session → Bool
is_peer_at node None = false
is_peer_at node (Some x) = is_at x.door node

-- with this move an actor was heard at its own door, or its session there ended; or the station
-- itself acted
abbrev pub IsThroughDoor : Move → StationState → Actor → Type 0
IsThroughDoor (Says memory k octets) s actor =
    is_peer_at (node_of_actor actor) (peer_at s.peers k) ≡ true
IsThroughDoor (Finishes k) s actor =
    is_peer_at (node_of_actor actor) (peer_at s.peers k) ≡ true
IsThroughDoor (Leaves k) s actor = is_peer_at (node_of_actor actor) (peer_at s.peers k) ≡ true
IsThroughDoor (EndsRelease on off p) s actor = Unit {0}
IsThroughDoor (Loses memory p) s actor = Unit {0}
IsThroughDoor m s actor = ⊥

-- .. where the actor's node has a door
abbrev pub IsThroughItsDoor : Move → StationState → Row → Type 0
IsThroughItsDoor m s r =
    has_door s.gates (node_of_actor r.actor) ≡ true → IsThroughDoor m s r.actor

-- Each row of a node that has a door came through it: it was heard on a session of that door, or it
-- is the sign-off of one; or it is one of the station's own.
abbrev pub RowsComeThroughTheirDoor : Type 0
RowsComeThroughTheirDoor = (g : GateState) (b : Book) (ms : List Move) (m : Move)
    → let s = after ms (opening_station g b) in
    AllByRecursion (IsThroughItsDoor m s) (rows_since s.book (after_move m s).book)

-- ---- what the station makes alone

-- the house till signs on to end the release of a point, or ends it
abbrev pub IsReleaseEnd : ℕ → Event → Type 0
IsReleaseEnd p event = (event ≡ SignOn) ⊎ (event ≡ Terminate p)

-- the house till's row at a point that is released
pub record IsHouseRow (s : StationState) (r : Row) : Type 0 where
  pub till : ℕ
  pub point : ℕ
  pub house : s.gates.house ≡ Some till
  pub released : is_released_at s.book point ≡ true
  pub actor : r.actor ≡ Till till
  pub event : IsReleaseEnd point r.event

-- the row of a dispenser that has no session
pub record IsLostRow (s : StationState) (r : Row) : Type 0 where
  pub point : ℕ
  pub gone : count_at (DISPENSER_SUBNET ∷ point ∷ []) s.peers ≡ 0
  pub actor : r.actor ≡ Dispenser point
  pub event : r.event ≡ Offline point

-- a till's sign-off, or one of the house till's or of a lost dispenser
abbrev pub IsMadeAlone : StationState → Row → Type 0
IsMadeAlone s r = ((t : ℕ) × (r ≡ sign_off_row t)) ⊎ IsHouseRow s r ⊎ IsLostRow s r

-- these requests were heard with a move, and maybe more that weren't asked
abbrev pub AreHeardOf : Option Session → List ℕ → List Asked → Type 0
AreHeardOf None octets asked = asked ≡ []
AreHeardOf (Some x) octets asked = (unasked : List (Actor × Event))
    × (requests_in x.talk.peer (fed_by x.held octets).messages
    ≡ map request_asked asked ++ unasked)

abbrev pub AreHeardWith : Move → StationState → List Asked → Type 0
AreHeardWith (Says memory k octets) s asked = AreHeardOf (peer_at s.peers k) octets asked
AreHeardWith m s asked = asked ≡ []

-- The rows of a move are those of requests that were heard with it, in their order, and behind them
-- rows that no session asked for.
pub record ActsAlone (m : Move) (s : StationState) : Type 0 where
  pub asked : List Asked
  pub heard : AreHeardWith m s asked
  pub alone : List Row
  pub rows : (after_move m s).book.rows ≡ (s.book.rows ++ rows_made asked) ++ alone
  pub each : AllByRecursion (IsMadeAlone s) alone

-- What no session asked for are sign-offs, SignOn and Terminate of the house till at a point that
-- is released, and Offline of a dispenser without a session.
abbrev pub TheStationActsAloneSo : Type 0
TheStationActsAloneSo = (m : Move) (s : StationState) → ActsAlone m s

-- ---- what requests cost

-- The requests of any stream are at most a tenth of its octets.
abbrev pub RequestsCostOctets : Type 0
RequestsCostOctets = (octets : List ℕ)
    → length (session_requests (stream_of octets)) * 10 ≤ length octets

-- ---- places at doors

-- At a door with fewer than four peers an arrival has a place, whatever moves came before.
abbrev pub DoorsStayOpen : Type 0
DoorsStayOpen = (g : GateState) (b : Book) (ms : List Move) (door : ℕ) (node : List ℕ)
    (key : Option ℕ) (later : StationState)
    → let s = after ms (opening_station g b) in
    slice_get g.doors door ≡ Some node
    → nat_lt (count_by (is_peer_at node) s.peers) NODE_SESSIONS ≡ true
    → ArrivesAt door key s later → IsSome key

-- ---- take-overs

-- The session of a peer that lasts has a story since it arrived: its own messages, and each row
-- since that it didn't ask for. Where the session ends, or the peer leaves, at most the till is
-- signed off that it signed on in that story, and that nobody has signed off behind that.
pub record EndsItsOwn (before : List Row) (heard : List ℕ) (k : ℕ) (later : StationState) :
    Type 0 where
  pub story : List Happening
  pub messages : (stream_of heard).messages ≡ messages_in story
  pub asked : AreAsked story
  pub rows : later.book.rows ≡ before ++ rows_in story
  pub ends : AddsSignOff (signed_in None story) later.book (with_end k later).book
  pub leaves : AddsSignOff (signed_in None story) later.book (without_peer k later).book

abbrev pub EndsSpareTillsOfOthers : Type 0
EndsSpareTillsOfOthers = (s : StationState) (k : ℕ) (door : Option (List ℕ)) (ms : List Move)
    (x : Session)
    → peer_at s.peers k ≡ None → Stays k ms
    → let start = with_arrival k door s in
    peer_at (after ms start).peers k ≡ Some x → x.end ≡ None
    → EndsItsOwn s.book.rows (heard_of k ms start) k (after ms start)
