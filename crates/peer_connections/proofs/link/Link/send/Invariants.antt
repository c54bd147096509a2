use Rattle.std.proofs.Common.{◌≡◌}
use Rattle.peer_connections.specs.Streams.{SendsStream}
use Rattle.peer_connections.proofs.link.Link.send.Given as goal

abbrev pub invariant-loop : goal.invariant-loop
invariant-loop g l = record {
  stream : SendsStream l.fn.key (g.S.Write.contents l.fn.self.stream)
      (g.S.Write.contents l.self.stream) l.fn.stored l.stored;
  journal : l.stored.journal ≡ l.fn.stored.journal;
}
