use Rattle.std.proofs.Common.{◌≡◌, ℕ, false}
use Rattle.peer_connections.specs.Links.{has_link}
use Rattle.peer_connections.proofs.connections.no_links.Given as goal

abbrev pub invariant-loop : goal.invariant-loop
invariant-loop g l = (k : ℕ) → has_link l.links.items k ≡ false
