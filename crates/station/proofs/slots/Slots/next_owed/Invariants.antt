use Rattle.std.proofs.Common.{◌≡◌, ℕ, ◌<◌, []}
use Rattle.std.specs.Prelude.{◌≤◌}
use Rattle.station.specs.Peers.{peer_at}
use Rattle.station.specs.Reads.{owed_to}
use Rattle.station.proofs.slots.Slots.next_owed.Given as goal

abbrev pub invariant-loop-at : goal.invariant-loop-at
invariant-loop-at l = record {
  unowed : (k : ℕ) → l.from ≤ k → k < l.first → owed_to (peer_at l.self k) ≡ [];
  low : l.from ≤ l.first;
  far : l._at ≤ l.first;
}
