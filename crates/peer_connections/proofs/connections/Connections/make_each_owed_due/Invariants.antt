use Rattle.std.proofs.Common.{◌≡◌, ◌≢◌, ◌⊎◌, ◌<◌, ◌≤◌, ℕ, [], true}
use Rattle.station.specs.Reads.{owed_at}
use Rattle.peer_connections.specs.Due.{StayDue, is_due}
use Rattle.peer_connections.specs.Sending.{is_full_at}
use Rattle.peer_connections.proofs.connections.Connections.make_each_owed_due.Given as goal

abbrev pub invariant-loop : goal.invariant-loop
invariant-loop g l = record {
  stored : l.self.stored ≡ l.fn.self.stored;
  links : l.self.links ≡ l.fn.self.links;
  due : StayDue l.fn.self.due l.self.due;
  owed : (k : ℕ) → k < l.from → owed_at l.self.stored.station k ≢ []
      → (is_due l.self.due k ≡ true) ⊎ (is_full_at l.self.links.items k ≡ true);
  far : l.counter ≤ l.from;
}
