use Rattle.std.proofs.Common.{◌≡◌, ◌<◌, ℕ, length}
use Rattle.std.specs.Vec.{vec_capacity}
use Rattle.station.specs.Peers.{peer_at}
use Rattle.station.specs.PeerViews.{AreAlikeBehind, sessions_of}
use Rattle.station.proofs.slots.reach_key.Given as goal

abbrev pub invariant-loop-at : goal.invariant-loop-at
invariant-loop-at l = record {
  size : length l.slots.items ≡ l._at;
  room : l.key < vec_capacity l.slots;
  alike : AreAlikeBehind l.key (sessions_of l.fn.slots.items) (sessions_of l.slots.items);
  same : (k : ℕ) → peer_at (sessions_of l.slots.items) k
      ≡ peer_at (sessions_of l.fn.slots.items) k;
}
