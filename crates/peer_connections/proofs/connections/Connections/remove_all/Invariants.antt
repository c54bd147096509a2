use Rattle.std.proofs.Common.{◌≡◌, ℕ, ◌<◌, None}
use Rattle.station.specs.Peers.{peer_at}
use Rattle.peer_connections.specs.Allowed.{IsEnding}
use Rattle.peer_connections.specs.Reaches.{ReachesBy}
use Rattle.peer_connections.proofs.connections.Connections.remove_all.Given as goal

abbrev pub invariant-loop-key : goal.invariant-loop-key
invariant-loop-key g l = record {
  moves : ReachesBy IsEnding l.fn.self.stored l.self.stored;
  gone : (k : ℕ) → k < l.key → peer_at l.self.stored.station.peers k ≡ None;
}
