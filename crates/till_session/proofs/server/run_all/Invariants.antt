use Rattle.std.proofs.Common.{◌≡◌, ◌+◌, ◌≤◌, length, vec_capacity, vec_len}
use Rattle.std.specs.List.{All}
use Rattle.std.specs.Vec.Iter.{into_iter_items, into_iter_len}
use Rattle.till_session.specs.SessionEnds.{IsSlotOf, IsStartOf}
use Rattle.till_session.proofs.server.run_all.Given as goal

-- there is room for the threads that may still be started
abbrev pub invariant-loop : goal.invariant-loop
invariant-loop g l = record {
  room : vec_len l.started + l.plan.workers ≤ vec_capacity l.started + l.counter;
  plan : All (IsStartOf l.plan) l.started.items;
}

abbrev pub invariant-loop-handle : goal.invariant-loop-handle
invariant-loop-handle g l = record {
  size : vec_len l.slots ≡ l.plan.sessions;
  slots : All (IsSlotOf l.plan) l.slots.items;
  rest : into_iter_len l.handle-iterator ≡ length (into_iter_items l.handle-iterator);
  plan : All (IsStartOf l.plan) (into_iter_items l.handle-iterator);
}
