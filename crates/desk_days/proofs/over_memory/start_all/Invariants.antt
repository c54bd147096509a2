use Rattle.std.proofs.Common.{◌+◌, ◌≤◌, length, vec_capacity, vec_len}
use Rattle.desk_days.proofs.over_memory.start_all.Given as goal

-- there is room for the workers that may still be started
abbrev pub invariant-loop-section : goal.invariant-loop-section
invariant-loop-section g l = record {
  room : vec_len l.workers + length l.sections ≤ vec_capacity l.workers + l.section-index;
}
