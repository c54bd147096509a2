use Rattle.std.proofs.Common.{◌≡◌, length}
use Rattle.station.specs.declared.sizes.TheConstants.{HEARD_OCTETS}
use Rattle.peer_connections.specs.Sending.{HasSeen, KeepsChanges}
use Rattle.peer_connections.specs.Streams.{HearsStream}
use Rattle.peer_connections.proofs.link.Link.hear.Given as goal

abbrev pub invariant-loop : goal.invariant-loop
invariant-loop g l = record {
  heard : HearsStream l.fn.key (g.S.Read.remaining l.fn.self.stream)
      (g.S.Read.remaining l.self.stream) l.fn.stored l.stored;
  size : length l.piece ≡ HEARD_OCTETS;
  seen : HasSeen l.changes.rows_seen l.stored.station.book;
  fed : HasSeen l.changes.rows_fed l.stored.station.book;
  noted : KeepsChanges l.fn.changes l.changes l.stored.station.book;
}
