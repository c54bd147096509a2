-- The connections of peers, by their keys, and the peers that have them.
use Rattle.std.specs.Prelude.{◌≡◌, ◌≢◌, ℕ, Bool, true, false, List, length, Option, Some, None}
use Rattle.std.specs.Prelude.{◌⊎◌, get_or, is_some}
use Rattle.station.specs.Peers.{peer_at}
use Rattle.station.specs.Sessions.{Session}

-- of these connections each stays as it is, but that of this key
abbrev pub OthersStay : {L : Type 0} → ℕ → List (Option L) → List (Option L) → Type 0
OthersStay key old new =
    (length new ≡ length old) × ((k : ℕ) → k ≢ key → get_or new k None ≡ get_or old k None)

-- the connection of this key stays as it is, or is there no more
abbrev pub StaysOrGoes : {L : Type 0} → List (Option L) → List (Option L) → ℕ → Type 0
StaysOrGoes old new k = (get_or new k None ≡ get_or old k None) ⊎ (get_or new k None ≡ None)

-- .. that of each key
abbrev pub StayOrGo : {L : Type 0} → List (Option L) → List (Option L) → Type 0
StayOrGo old new = (k : ℕ) → StaysOrGoes old new k

-- ---- who is there

-- a key has a connection
abbrev pub has_link : {L : Type 0} → List (Option L) → ℕ → Bool
has_link links k = is_some (get_or links k None)

-- a key has a peer
abbrev pub has_peer : List (Option Session) → ℕ → Bool
has_peer peers k = is_some (peer_at peers k)

-- each connection is one of a peer that is there, and each peer that is there has one
abbrev pub ArePaired : {L : Type 0} → List (Option L) → List (Option Session) → Type 0
ArePaired links peers = (k : ℕ) → has_link links k ≡ has_peer peers k

-- .. but for the peer of this key, which has just come, and has none yet
pub record AwaitsLink {L : Type 0} (key : ℕ) (links : List (Option L))
    (peers : List (Option Session)) : Type 0 where
  pub there : has_peer peers key ≡ true
  pub none : has_link links key ≡ false
  pub others : (k : ℕ) → k ≢ key → has_link links k ≡ has_peer peers k

-- all peers are there that were, and no other
abbrev pub SameAreThere : List (Option Session) → List (Option Session) → Type 0
SameAreThere old new = (k : ℕ) → has_peer new k ≡ has_peer old k

-- A peer has come to this key, where nobody was, and all others are there that were. Without a key
-- nobody has come.
abbrev pub ComesTo : Option ℕ → List (Option Session) → List (Option Session) → Type 0
ComesTo None old new = SameAreThere old new
ComesTo (Some key) old new =
    (has_peer old key ≡ false) × (has_peer new key ≡ true)
    × ((k : ℕ) → k ≢ key → has_peer new k ≡ has_peer old k)
