use Rattle.std.proofs.Common.{◌≡◌}
use Rattle.peer_connections.specs.Streams.{StayKnown}
use Rattle.peer_connections.proofs.connections.Connections.read_on.Given as goal

abbrev pub invariant-loop-step : goal.invariant-loop-step
invariant-loop-step g l = record {
  stored : l.self.stored ≡ l.fn.self.stored;
  left : StayKnown g.S.Read.remaining l.fn.self.links.items l.self.links.items;
  got : StayKnown g.S.Write.contents l.fn.self.links.items l.self.links.items;
  changes : l.self.changes ≡ l.fn.self.changes;
  due : l.self.due ≡ l.fn.self.due;
}
