use Rattle.std.proofs.Common.{◌≡◌, ◌++◌, length, map, take, drop}
use Rattle.station.specs.PeerViews.{sessions_of, slot_forgotten}
use Rattle.station.proofs.slots.forget_till.Given as goal

abbrev pub invariant-loop-i : goal.invariant-loop-i
invariant-loop-i l = record {
  forgotten : sessions_of l.slots
      ≡ map (slot_forgotten l.till) (take l.i (sessions_of l.fn.slots))
      ++ drop l.i (sessions_of l.fn.slots);
  size : length l.slots ≡ length l.fn.slots;
}
