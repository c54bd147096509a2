use Rattle.std.proofs.Common.{ℕ, ◌<◌, ◌≤◌}
use Rattle.std.specs.Prelude.{IsSome}
use Rattle.station.specs.Peers.{peer_at}
use Rattle.station.proofs.slots.Slots.free_key.Given as goal

abbrev pub invariant-loop-key : goal.invariant-loop-key
invariant-loop-key l =
    (k : ℕ) → l.first ≤ k → k < l.key → IsSome (peer_at l.self k)
