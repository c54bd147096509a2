-- Whom a session is of, and for whom it listens.
use Rattle.std.specs.Prelude.{ℕ, Bool, false, List, Option, Some, None}
use Rattle.peer_talk.specs.Text.{is_same_node}
use Rattle.station.specs.declared.peer_end.PeerEnd.{PeerEnd}

-- whom a session is of: the node of its door, from the beginning; without a door the originator of
-- its first message
abbrev pub speaker : Option (List ℕ) → Option (List ℕ) → Option (List ℕ)
speaker (Some node) peer = Some node
speaker None peer = peer

-- for the originator of its first message, while it lasts
abbrev pub listener : Option PeerEnd → Option (List ℕ) → Option (List ℕ)
listener None peer = peer
listener (Some end) peer = None

-- whoever is listened for is at this node
abbrev pub is_at : Option (List ℕ) → List ℕ → Bool
is_at None node = false
is_at (Some peer) node = is_same_node peer node
