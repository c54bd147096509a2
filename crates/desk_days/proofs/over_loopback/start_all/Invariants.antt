use Rattle.std.proofs.Common.{◌+◌, ◌≤◌, vec_capacity, vec_len}
use Rattle.std.specs.Vec.Iter.{into_iter_len}
use Rattle.desk_days.proofs.over_loopback.start_all.Given as goal

-- there is room for the workers of the parts that are left
abbrev pub invariant-loop-part : goal.invariant-loop-part
invariant-loop-part g l = record {
  next : (goal.iterator-loop-part g).can_next l.part-iterator;
  finite : (goal.iterator-loop-part g).is_finite l.part-iterator;
  room : vec_len l.workers + into_iter_len l.part-iterator ≤ vec_capacity l.workers;
}
