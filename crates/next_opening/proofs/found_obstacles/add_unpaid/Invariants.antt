use Rattle.std.proofs.Common.{◌≡◌, ◌++◌, map, drop}
use Rattle.std.specs.Prelude.{filter}
use Rattle.next_opening.specs.declared.obstacle.Obstacle.TheVariants.{Unpaid}
use Rattle.next_opening.specs.Obstacles.{is_at}
use Rattle.next_opening.proofs.found_obstacles.add_unpaid.Given as goal

-- what is to follow is the point's sales of those that are left
abbrev pub invariant-loop-sold : goal.invariant-loop-sold
invariant-loop-sold l =
    l.found.items ++ map Unpaid (filter (is_at l.point) (drop l.sold-index l.unpaid))
    ≡ l.fn.found.items ++ map Unpaid (filter (is_at l.point) l.unpaid)
