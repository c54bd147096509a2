use Rattle.std.proofs.Common.{◌≡◌}
use Rattle.peer_connections.specs.Allowed.{IsFinishing}
use Rattle.peer_connections.specs.Reaches.{ReachesBy}
use Rattle.peer_connections.proofs.connections.Connections.finish_all.Given as goal

abbrev pub invariant-loop-key : goal.invariant-loop-key
invariant-loop-key g l = record {
  moves : ReachesBy IsFinishing l.fn.self.stored l.self.stored;
  links : l.self.links ≡ l.fn.self.links;
}
