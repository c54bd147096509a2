-- Which moves belong to what is done for a peer, or by the station itself.
use Rattle.std.specs.Prelude.{◌≡◌, ℕ, Bool, true, false, ◌&&◌, ◌||◌, ◌==◌, ◌⊎◌, List, Option, Some}
use Rattle.std.specs.Prelude.{None}
use Rattle.std.specs.Prelude.{is_none, nat_lt, slice_index, ⊤}
use Rattle.site_base.specs.declared.limits.TheConstants.{POINTS, TILLS}
use Rattle.site_base.specs.Ranges.{is_between}
use Rattle.device_map.specs.declared.ids.TheConstants.{DISPENSER_SUBNET, TILL_SUBNET}
use Rattle.station.specs.declared.sizes.TheConstants.{FREE_PLACES}
use Rattle.station.specs.Moves.{StationState, without_peer}
use Rattle.station.specs.Peers.{peer_at}
use Rattle.station.specs.Places.{is_place_at}
use Rattle.station.specs.Reads.{end_at, is_read_at, node_at}
use Rattle.station.specs.Runs.{Arrives, EndsRelease, Finishes, Forgets, Leaves, Loses, Move, Says}
use Rattle.station.specs.Runs.{Takes}
use Rattle.station.specs.Sessions.{Session}
use Rattle.journal.specs.Stored.{StoredState, with_station}

-- ---- who may leave

abbrev pub lasts : Option Session → Bool
lasts None = false
lasts (Some x) = is_none x.end

-- a key's peer has a session that lasts
abbrev pub lasts_at : StationState → ℕ → Bool
lasts_at s k = lasts (peer_at s.peers k)

-- the node of a till, and of a dispenser
abbrev pub is_till_node : List ℕ → Bool
is_till_node node =
    slice_index node 0 == TILL_SUBNET && is_between 1 TILLS (slice_index node 1)

abbrev pub is_dispenser_node : List ℕ → Bool
is_dispenser_node node =
    slice_index node 0 == DISPENSER_SUBNET && is_between 1 POINTS (slice_index node 1)

-- whoever sent the first message, if there was one, may be a peer of a site
abbrev pub is_known : Option (List ℕ) → Bool
is_known None = false
is_known (Some node) = is_till_node node || is_dispenser_node node

-- a key's peer has a session that lasts, and has brought a message of a site's node
abbrev pub is_served_at : StationState → ℕ → Bool
is_served_at s k = is_none (end_at s k) && is_known (node_at s k)

-- a key is a place of this door, or, without a door, of those who come over TCP
abbrev pub is_place_of : Option ℕ → ℕ → Bool
is_place_of None key = nat_lt key FREE_PLACES
is_place_of (Some door) key = is_place_at door key

-- ---- what is done

-- The peer of this key, which is read from, is heard: its octets are, or that they have ended. For
-- room the rows in memory may be forgotten.
abbrev pub IsHearing : ℕ → Move → StationState → Type 0
IsHearing k (Says memory j octets) s = (j ≡ k) × (is_read_at s j ≡ true)
IsHearing k (Finishes j) s = (j ≡ k) × (is_read_at s j ≡ true)
IsHearing k Forgets s = ⊤
IsHearing k m s = ⊥

-- .. it is sent to: it takes what it is owed
abbrev pub IsSending : ℕ → Move → StationState → Type 0
IsSending k (Takes j n) s = j ≡ k
IsSending k m s = ⊥

-- .. its connection follows its session: it takes what it is owed, its session ends, and it leaves
-- once that has ended
abbrev pub IsClosing : ℕ → Move → StationState → Type 0
IsClosing k (Takes j n) s = j ≡ k
IsClosing k (Finishes j) s = j ≡ k
IsClosing k (Leaves j) s = (j ≡ k) × (lasts_at s j ≡ false)
IsClosing k m s = ⊥

-- .. it was waited for too long: its session ends, or, if it isn't served, it leaves
abbrev pub IsLate : ℕ → Move → StationState → Type 0
IsLate k (Finishes j) s = j ≡ k
IsLate k (Leaves j) s = (j ≡ k) × (is_served_at s j ≡ false)
IsLate k m s = ⊥

-- a peer of this door, or over TCP, leaves that isn't served
abbrev pub IsDismissal : Option ℕ → Move → StationState → Type 0
IsDismissal door (Leaves j) s = (is_place_of door j ≡ true) × (is_served_at s j ≡ false)
IsDismissal door m s = ⊥

-- a peer arrives at this door, or over TCP
abbrev pub IsArrival : Option ℕ → Move → StationState → Type 0
IsArrival door (Arrives key at) s = at ≡ door
IsArrival door m s = ⊥

-- A peer comes at this door, or over TCP: it arrives there, and peers leave that aren't served, of
-- that door or over TCP.
abbrev pub IsWelcome : Option ℕ → Move → StationState → Type 0
IsWelcome door (Arrives key at) s = at ≡ door
IsWelcome door (Leaves j) s =
    ((is_place_of door j ≡ true) ⊎ (is_place_of None j ≡ true)) × (is_served_at s j ≡ false)
IsWelcome door m s = ⊥

-- nothing is changed, or the peer of this key has left
abbrev pub IsSameOrLeft : ℕ → StoredState → StoredState → Type 0
IsSameOrLeft key s t = (t ≡ s) ⊎ (t ≡ with_station (without_peer key s.station) s)

-- ---- what is done for all of them

-- peers that are read from are heard
abbrev pub IsHeard : Move → StationState → Type 0
IsHeard (Says memory j octets) s = is_read_at s j ≡ true
IsHeard (Finishes j) s = is_read_at s j ≡ true
IsHeard Forgets s = ⊤
IsHeard m s = ⊥

-- connections follow their sessions: peers take what they are owed, sessions end, and peers leave
-- whose sessions have ended
abbrev pub IsFollowing : Move → StationState → Type 0
IsFollowing (Takes j n) s = ⊤
IsFollowing (Finishes j) s = ⊤
IsFollowing (Leaves j) s = lasts_at s j ≡ false
IsFollowing m s = ⊥

-- sessions end
abbrev pub IsFinishing : Move → StationState → Type 0
IsFinishing (Finishes j) s = ⊤
IsFinishing m s = ⊥

-- peers take what they are owed
abbrev pub IsTaking : Move → StationState → Type 0
IsTaking (Takes j n) s = ⊤
IsTaking m s = ⊥

-- the day ends: peers take what they are owed, sessions end, and peers leave
abbrev pub IsEnding : Move → StationState → Type 0
IsEnding (Takes j n) s = ⊤
IsEnding (Finishes j) s = ⊤
IsEnding (Leaves j) s = ⊤
IsEnding m s = ⊥

-- time passes: nobody comes, is heard, or is sent anything, and nobody leaves who is served
abbrev pub IsPassing : Move → StationState → Type 0
IsPassing (Arrives j door) s = ⊥
IsPassing (Says memory j octets) s = ⊥
IsPassing (Takes j n) s = ⊥
IsPassing (Leaves j) s = is_served_at s j ≡ false
IsPassing m s = ⊤

-- the station acts by itself, for which the rows in memory may be forgotten
abbrev pub IsOwn : Move → StationState → Type 0
IsOwn (EndsRelease on off p) s = ⊤
IsOwn (Loses memory p) s = ⊤
IsOwn Forgets s = ⊤
IsOwn m s = ⊥
