use Rattle.std.proofs.Common.{◌≡◌, vec_len}
use Rattle.std.specs.List.{All}
use Rattle.till_session.specs.SessionEnds.{IsSlotOf}
use Rattle.till_session.proofs.server.Plan.keep.Given as goal

abbrev pub invariant-loop-numbered : goal.invariant-loop-numbered
invariant-loop-numbered l = record {
  size : vec_len l.slots ≡ l.fn.self.sessions;
  slots : All (IsSlotOf l.fn.self) l.slots.items;
}
