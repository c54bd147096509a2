use Rattle.std.proofs.Common.{◌≡◌}
use Rattle.peer_connections.specs.Allowed.{IsPassing}
use Rattle.peer_connections.specs.Due.{StayDue}
use Rattle.peer_connections.specs.Reaches.{ReachesBy}
use Rattle.peer_connections.specs.Streams.{AllStayKnown}
use Rattle.peer_connections.proofs.connections.Connections.sweep.Given as goal

abbrev pub invariant-loop-key : goal.invariant-loop-key
invariant-loop-key g l = record {
  moves : ReachesBy IsPassing l.fn.self.stored l.self.stored;
  left : AllStayKnown g.S.Read.remaining l.fn.self.links.items l.self.links.items;
  got : AllStayKnown g.S.Write.contents l.fn.self.links.items l.self.links.items;
  changes : l.self.changes ≡ l.fn.self.changes;
  due : StayDue l.fn.self.due l.self.due;
}
