use Rattle.std.proofs.Common.{◌+◌, ◌≤◌, length, vec_capacity, vec_len}
use Rattle.desk_days.proofs.over_loopback.parts_of.Given as goal

-- there is room for the parts of the sections that are left
abbrev pub invariant-loop-section : goal.invariant-loop-section
invariant-loop-section g l = record {
  room : vec_len l.parts + length l.sections ≤ vec_capacity l.parts + l.section-index;
}
