-- What the station shows of a peer.
use Rattle.std.specs.Prelude.{◌≡◌, ◌≢◌, ◌<◌, ◌≤◌, ℕ, Bool, false, List, [], Option}
use Rattle.std.specs.Prelude.{Some, None, IsSome, ◌+◌, slice_get}
use Rattle.station.specs.declared.peer_end.PeerEnd.{PeerEnd}
use Rattle.station.specs.declared.sizes.TheConstants.{FREE_PLACES, PEERS}
use Rattle.station.specs.Moves.{StationState, with_arrival}
use Rattle.station.specs.Listening.{listener, speaker}
use Rattle.station.specs.Peers.{peer_at}
use Rattle.station.specs.Places.{first_place}
use Rattle.station.specs.Sessions.{Session, is_read}

abbrev pub owed_to : Option Session → List ℕ
owed_to None = []
owed_to (Some x) = x.owed

-- the octets that a key's peer is owed
abbrev pub owed_at : StationState → ℕ → List ℕ
owed_at s k = owed_to (peer_at s.peers k)

-- from this key on the peer of this one is the first that is owed octets
pub record IsNextOwed (from key : ℕ) (s : StationState) : Type 0 where
  pub from_there : from ≤ key
  pub within : key < PEERS
  pub owed : owed_at s key ≢ []
  pub first : (k : ℕ) → from ≤ k → k < key → owed_at s k ≡ []

-- from this key on no peer is owed octets
abbrev pub NoneIsOwed : ℕ → StationState → Type 0
NoneIsOwed from s = (k : ℕ) → from ≤ k → owed_at s k ≡ []

-- nobody is there
abbrev pub HasNoPeer : StationState → Type 0
HasNoPeer s = (k : ℕ) → peer_at s.peers k ≡ None

abbrev pub is_read_of : Option Session → Bool
is_read_of None = false
is_read_of (Some x) = is_read x

-- a key's peer is read from
abbrev pub is_read_at : StationState → ℕ → Bool
is_read_at s k = is_read_of (peer_at s.peers k)

abbrev pub end_of : Option Session → Option PeerEnd
end_of None = None
end_of (Some x) = x.end

-- how the session of a key's peer ended
abbrev pub end_at : StationState → ℕ → Option PeerEnd
end_at s k = end_of (peer_at s.peers k)

abbrev pub node_of : Option Session → Option (List ℕ)
node_of None = None
node_of (Some x) = x.talk.peer

-- the originator of its first message
abbrev pub node_at : StationState → ℕ → Option (List ℕ)
node_at s k = node_of (peer_at s.peers k)

abbrev pub speaker_of : Option Session → Option (List ℕ)
speaker_of None = None
speaker_of (Some x) = listener x.end (speaker x.door x.talk.peer)

-- whom its session is of, while it lasts
abbrev pub speaker_at : StationState → ℕ → Option (List ℕ)
speaker_at s k = speaker_of (peer_at s.peers k)

-- A peer arrived at this door, or at none, and got a key of these places, from the first one and
-- before the last, which nobody had; or nothing changed, since each of them is taken.
abbrev pub ArrivesAmong : ℕ → ℕ → Option (List ℕ) → Option ℕ → StationState → StationState → Type 0
ArrivesAmong first last door (Some key) old new =
    (first ≤ key) × (key < last) × (peer_at old.peers key ≡ None)
    × (new ≡ with_arrival key door old)
ArrivesAmong first last door None old new =
    (new ≡ old) × ((k : ℕ) → first ≤ k → k < last → IsSome (peer_at old.peers k))

-- .. without a door
abbrev pub Arrives : Option ℕ → StationState → StationState → Type 0
Arrives key old new = ArrivesAmong 0 FREE_PLACES None key old new

-- .. at a door, where the station has so many
abbrev pub arrives_at : Option (List ℕ) → ℕ → Option ℕ → StationState → StationState → Type 0
arrives_at None door key old new = (key ≡ None) × (new ≡ old)
arrives_at (Some node) door key old new =
    ArrivesAmong (first_place door) (first_place (door + 1)) (Some node) key old new

abbrev pub ArrivesAt : ℕ → Option ℕ → StationState → StationState → Type 0
ArrivesAt door key old new = arrives_at (slice_get old.gates.doors door) door key old new
