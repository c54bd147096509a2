use Rattle.std.proofs.Common.{◌+◌, ◌≤◌, vec_capacity, vec_len}
use Rattle.std.specs.List.{All}
use Rattle.till_session.specs.SessionEnds.{IsEndOf}
use Rattle.till_session.proofs.server.serve_drawn.Given as goal

-- there is room for the ends of the sessions that may still be drawn
abbrev pub invariant-loop : goal.invariant-loop
invariant-loop g l = record {
  room : vec_len l.ends + l.plan.sessions ≤ vec_capacity l.ends + l.counter;
  ends : All (IsEndOf l.plan) l.ends.items;
}
