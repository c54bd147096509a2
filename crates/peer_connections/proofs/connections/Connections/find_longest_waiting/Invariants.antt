use Rattle.std.proofs.Common.{◌≡◌, false, true}
use Rattle.std.specs.Prelude.{IfSome}
use Rattle.peer_connections.specs.Allowed.{is_place_of, is_served_at}
use Rattle.peer_connections.proofs.connections.Connections.find_longest_waiting.Given as goal

abbrev pub invariant-loop-key : goal.invariant-loop-key
invariant-loop-key g l = record {
  place : IfSome l.longest (λ found. is_place_of l.fn.door found.0 ≡ true);
  unserved : IfSome l.longest (λ found.
      is_served_at l.fn.self.stored.station found.0 ≡ false);
}
