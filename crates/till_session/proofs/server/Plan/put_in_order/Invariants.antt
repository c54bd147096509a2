use Rattle.std.proofs.Common.{◌≤◌, length, vec_capacity, vec_len}
use Rattle.std.specs.List.{All}
use Rattle.till_session.specs.SessionEnds.{IsDrawnEnd}
use Rattle.till_session.proofs.server.Plan.put_in_order.Given as goal

abbrev pub invariant-loop-slot : goal.invariant-loop-slot
invariant-loop-slot l = record {
  few : vec_len l.ends ≤ l.slot-index;
  room : length l.slots ≤ vec_capacity l.ends;
  drawn : All (IsDrawnEnd l.fn.self.turns) l.ends.items;
}
