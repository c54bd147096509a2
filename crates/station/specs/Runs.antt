-- Lists of moves, from an opening station on: who sent what, and what was told.
use Rattle.std.specs.Prelude.{◌≡◌, ℕ, ◌==◌, Bool, true, false, nat_lt, List, [], ◌∷◌, ◌++◌, take}
use Rattle.std.specs.Prelude.{Option, Some, None, if◌then◌else◌, slice_get, ⊤}
use Rattle.site_book.specs.Book.{Book}
use Rattle.station.specs.declared.sizes.TheConstants.{FREE_PLACES}
use Rattle.station.specs.Moves.{StationState, with_arrival, with_end, with_octets, with_taken}
use Rattle.station.specs.Gates.{GateState}
use Rattle.station.specs.Moves.{end_release, lose, without_old_rows, without_peer}
use Rattle.station.specs.Peers.{peer_at}
use Rattle.station.specs.Places.{is_place_at}
use Rattle.station.specs.Reads.{is_read_at, owed_at}
use Rattle.station.specs.Sessions.{Grants, Session}

-- What may come next. A peer arrives at a door, by its place among the doors, or without one. Where
-- memory is wanting while octets are heard, or for a row of the station's own, the move says it.
pub data Move : Type 0 where
  Arrives : (key : ℕ) (door : Option ℕ) → Move
  Says : (memory : Grants) (key : ℕ) (octets : List ℕ) → Move
  Takes : (key : ℕ) (n : ℕ) → Move
  Finishes : (key : ℕ) → Move
  Leaves : (key : ℕ) → Move
  EndsRelease : (on off : Bool) (p : ℕ) → Move
  Loses : (memory : Bool) (p : ℕ) → Move
  Forgets : Move

-- a key is given that nobody has, if it is a place there
abbrev pub give : Bool → ℕ → Option (List ℕ) → Option Session → StationState → StationState
give true k door None s = with_arrival k door s
give is_place k door peer s = s

-- .. of this door, if it is there
abbrev pub give_at : ℕ → ℕ → Option (List ℕ) → StationState → StationState
give_at k door None s = s
give_at k door (Some node) s = give (is_place_at door k) k (Some node) (peer_at s.peers k) s

-- a peer comes at a door, or without one
abbrev pub arrive : ℕ → Option ℕ → StationState → StationState
arrive k None s = give (nat_lt k FREE_PLACES) k None (peer_at s.peers k) s
arrive k (Some door) s = give_at k door (slice_get s.gates.doors door) s

-- the station after a move
abbrev pub after_move : Move → StationState → StationState
after_move (Arrives k door) s = arrive k door s
after_move (Says memory k octets) s = with_octets memory k octets s
after_move (Takes k n) s = with_taken k n s
after_move (Finishes k) s = with_end k s
after_move (Leaves k) s = without_peer k s
after_move (EndsRelease on off p) s = end_release on off p s
after_move (Loses memory p) s = lose memory p s
after_move Forgets s = without_old_rows s

-- .. and after moves, one after another
abbrev pub after : List Move → StationState → StationState
after [] s = s
after (m ∷ ms) s = after ms (after_move m s)

-- this holds of the octets that come with each of these moves
abbrev pub AllSay : (List ℕ → Type 0) → List Move → Type 0
AllSay P [] = ⊤
AllSay P (Says memory k octets ∷ ms) = P octets × AllSay P ms
AllSay P (m ∷ ms) = AllSay P ms

-- a station with these gates at this book, without peers
abbrev pub opening_station : GateState → Book → StationState
opening_station g b = record { gates = g; book = b; peers = [] }

-- ---- one peer, until it leaves

-- the octets that were heard of key k with a move
abbrev pub heard_with : ℕ → Move → StationState → List ℕ
heard_with k (Says memory j octets) s =
    if j == k then (if is_read_at s k then octets else []) else []
heard_with k m s = []

-- .. and with moves
abbrev pub heard_of : ℕ → List Move → StationState → List ℕ
heard_of k [] s = []
heard_of k (m ∷ ms) s = heard_with k m s ++ heard_of k ms (after_move m s)

-- the octets that the peer of key k took with a move
abbrev pub taken_with : ℕ → Move → StationState → List ℕ
taken_with k (Takes j n) s = if j == k then take n (owed_at s k) else []
taken_with k m s = []

-- what the peer of key k is told: what it takes, and what it is owed in the end
abbrev pub text_to : ℕ → List Move → StationState → List ℕ
text_to k [] s = owed_at s k
text_to k (m ∷ ms) s = taken_with k m s ++ text_to k ms (after_move m s)

-- with this move the peer of key k doesn't leave, and nobody comes in its place
abbrev pub stays_with : ℕ → Move → Bool
stays_with k (Leaves j) = if j == k then false else true
stays_with k m = true

-- .. and with none of these
abbrev pub Stays : ℕ → List Move → Type 0
Stays k [] = Unit {0}
Stays k (m ∷ ms) = (stays_with k m ≡ true) × Stays k ms
