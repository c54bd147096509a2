use Rattle.std.specs.Prelude.{◌≤◌}
use Rattle.station.specs.PeerViews.{slot_noticed}
use Rattle.station.proofs.Marks.{AreToldBefore}
use Rattle.station.proofs.slots.Slots.notice_all.Given as goal

abbrev pub invariant-loop-at : goal.invariant-loop-at
invariant-loop-at l = record {
  told : AreToldBefore (slot_noticed l.node l.notice) l.from l.fn.self l.self;
  far : l._at ≤ l.from;
}
