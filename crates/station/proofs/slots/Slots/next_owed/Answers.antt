use Rattle.std.proofs.Common.{◌≡◌, [], ap, arith, length, refl}
use Rattle.station.specs.Peers.{peer_at}
use Rattle.station.specs.PeerViews.{sessions_of}
use Rattle.station.specs.Reads.{owed_to}
use Rattle.station.proofs.Marks.{parted}
use Rattle.station.proofs.SlotSessions.{nobody_beyond, sessions_size}
use Rattle.station.proofs.slots.Slots.next_owed.Goals as goal

pub returns-clause-none : goal.returns-clause-none
returns-clause-none c =
    let size = sessions_size c.self.inside.peers.items in
    let view : length c.args.self.now ≡ length (sessions_of c.self.inside.peers.items) =
    rw (← c.self.view_is) refl in
    parted (λ k. owed_to (peer_at c.args.self.now k) ≡ []) c.args.from c.loop-at.first
    c.loop-at.invariant.unowed
    (λ k low. ap owed_to (nobody_beyond k c.args.self.now
    (omega (
      arith,
      low,
      view,
      size,
      c.len-at-end.ensures,
      c.loop-at-test.false,
      c.loop-at.invariant.far,
    ))))
