use Rattle.std.proofs.Common.{◌≡◌}
use Rattle.peer_connections.specs.Allowed.{IsOwn}
use Rattle.peer_connections.specs.Reaches.{ReachesBy}
use Rattle.peer_connections.specs.Sending.{KeepsChanges}
use Rattle.peer_connections.proofs.connections.Connections.keep_up.Given as goal

abbrev pub invariant-loop-number : goal.invariant-loop-number
invariant-loop-number g l = record {
  moves : ReachesBy IsOwn l.fn.self.stored l.self.stored;
  links : l.self.links ≡ l.fn.self.links;
  due : l.self.due ≡ l.fn.self.due;
  noted : KeepsChanges l.fn.self.changes l.self.changes l.self.stored.station.book;
}
