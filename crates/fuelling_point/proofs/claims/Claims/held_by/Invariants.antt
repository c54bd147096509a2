use Rattle.std.proofs.Common.{◌≡◌, ◌++◌}
use Rattle.fuelling_point.proofs.Members.{members}
use Rattle.fuelling_point.proofs.claims.Claims.held_by.Given as goal

abbrev pub invariant-loop-p : goal.invariant-loop-p
invariant-loop-p l = l.points.items ++ members l.left ≡ members l.initial.left

abbrev pub decreases-loop-p : goal.decreases-loop-p
decreases-loop-p l = l.left
