use Rattle.std.proofs.Common.{◌∙◌, arith, ap}
use Rattle.station.specs.Peers.{peer_at, with_peer}
use Rattle.station.specs.PeerViews.{sessions_of}
use Rattle.station.proofs.SlotSessions.{alike_next, same_next}
use Rattle.station.proofs.slots.reach_key.Goals as goal

pub loop-at-preserved : goal.loop-at-preserved
loop-at-preserved c = record {
  size = omega (arith, c.push_reserved.ensures.len, c.loop-at.invariant.size);
  room = omega (arith, c.push_reserved.ensures.capacity, c.loop-at.invariant.room);
  alike = λ x.
      ap (λ items. with_peer c.args.key x (sessions_of items)) c.push_reserved.ensures.items
      ∙ alike_next c.args.key x c.loop-at.slots.items
      (omega (arith, c.loop-at.invariant.size, c.loop-at-test.true))
      ∙ c.loop-at.invariant.alike x;
  same = λ k.
      ap (λ items. peer_at (sessions_of items) k) c.push_reserved.ensures.items
      ∙ same_next k c.loop-at.slots.items ∙ c.loop-at.invariant.same k;
}
