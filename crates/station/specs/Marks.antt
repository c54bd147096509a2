-- Marks that find the peers that listen at a node, and those that are owed octets.
use Rattle.std.specs.Prelude.{◌≡◌, ◌≢◌, ◌≤◌, ◌+◌, ◌*◌, ◌%◌, ℕ, List, [], length}
use Rattle.std.specs.Prelude.{Option, IfSome, slice_index}
use Rattle.station.specs.declared.sizes.TheConstants.{PEERS, SUBNET_MARKS}
use Rattle.station.specs.Peers.{peer_at}
use Rattle.station.specs.Reads.{owed_to}
use Rattle.station.specs.Sessions.{Session}

-- the mark of a node
abbrev pub mark_of : List ℕ → ℕ
mark_of node = (slice_index node 0 * SUBNET_MARKS + slice_index node 1) % 256

-- this is the mark of the node of a slot's peer, if that has spoken
abbrev pub IsNodeMark : ℕ → Option Session → Type 0
IsNodeMark mark slot = IfSome slot (λ x. IfSome x.talk.peer (λ node. mark ≡ mark_of node))

-- the node of a slot's peer, if that has spoken, has another mark than this
abbrev pub HasOtherMark : ℕ → Option Session → Type 0
HasOtherMark mark slot = IfSome slot (λ x. IfSome x.talk.peer (λ node. mark_of node ≢ mark))

-- 1 is the mark of a slot whose peer is owed octets
abbrev pub IsOwedMark : ℕ → Option Session → Type 0
IsOwedMark mark slot = owed_to slot ≢ [] → mark ≡ 1

-- each slot has its marks, and there are no more marks than a station has slots
pub record AreMarked (nodes owed : List ℕ) (peers : List (Option Session)) : Type 0 where
  pub nodes_size : length peers ≤ length nodes
  pub owed_size : length peers ≤ length owed
  pub nodes_most : length nodes ≤ PEERS
  pub owed_most : length owed ≤ PEERS
  pub of_node : (k : ℕ) → IsNodeMark (slice_index nodes k) (peer_at peers k)
  pub of_owed : (k : ℕ) → IsOwedMark (slice_index owed k) (peer_at peers k)
