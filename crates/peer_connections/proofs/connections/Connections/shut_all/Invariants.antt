use Rattle.std.proofs.Common.{◌≡◌}
use Rattle.peer_connections.proofs.connections.Connections.shut_all.Given as goal

abbrev pub invariant-loop-key : goal.invariant-loop-key
invariant-loop-key g l = l.self.stored ≡ l.fn.self.stored
