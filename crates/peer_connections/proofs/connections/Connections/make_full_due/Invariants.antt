use Rattle.std.proofs.Common.{◌≡◌, ◌<◌, ℕ, true}
use Rattle.peer_connections.specs.Due.{StayDue, is_due}
use Rattle.peer_connections.specs.Sending.{is_full_at}
use Rattle.peer_connections.proofs.connections.Connections.make_full_due.Given as goal

abbrev pub invariant-loop-key : goal.invariant-loop-key
invariant-loop-key g l = record {
  stored : l.self.stored ≡ l.fn.self.stored;
  links : l.self.links ≡ l.fn.self.links;
  due : StayDue l.fn.self.due l.self.due;
  full : (k : ℕ) → k < l.key → is_full_at l.self.links.items k ≡ true
      → is_due l.self.due k ≡ true;
}
