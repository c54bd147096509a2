use Rattle.std.proofs.Common.{◌≡◌}
use Rattle.journal.specs.Stored.{told_at}
use Rattle.peer_connections.specs.Allowed.{IsTaking}
use Rattle.peer_connections.specs.Reaches.{ReachesBy}
use Rattle.peer_connections.specs.Sending.{AllAreSentTo}
use Rattle.peer_connections.specs.Streams.{AllContinue}
use Rattle.peer_connections.proofs.connections.Connections.send_last_to_all.Given as goal

abbrev pub invariant-loop-key : goal.invariant-loop-key
invariant-loop-key g l = record {
  moves : ReachesBy IsTaking l.fn.self.stored l.self.stored;
  streams : AllContinue g.S.Write.contents l.fn.self.links.items l.self.links.items
      (λ k. told_at l.fn.self.stored k) l.self.stored;
  journal : l.self.stored.journal ≡ l.fn.self.stored.journal;
  sent : AllAreSentTo l.key l.self.stored l.self.links.items;
}
