use Rattle.std.proofs.Common.{◌≡◌, ◌+◌, ◌≤◌, length, map, take, vec_items, vec_len, vec_capacity}
use Rattle.std.specs.Vec.Iter.{into_iter_items, into_iter_len}
use Rattle.counter_desk.specs.Crews.{AreJoining, EachStarted}
use Rattle.counter_desk.proofs.crews.run_all.Given as goal

abbrev pub invariant-loop-list : goal.invariant-loop-list
invariant-loop-list g l = record {
  len : vec_len l.started ≡ l.list-index;
  room : length l.lists ≤ vec_capacity l.started;
  all : EachStarted (map vec_items (take l.list-index l.lists)) l.started.items;
}

abbrev pub invariant-loop-handle : goal.invariant-loop-handle
invariant-loop-handle g l = record {
  len : vec_len l.ends + into_iter_len l.handle-iterator ≡ length l.fn.lists;
  rest : into_iter_len l.handle-iterator ≡ length (into_iter_items l.handle-iterator);
  room : length l.fn.lists ≤ vec_capacity l.ends;
  all : AreJoining (map vec_items l.fn.lists) (into_iter_items l.handle-iterator) l.ends.items;
}
