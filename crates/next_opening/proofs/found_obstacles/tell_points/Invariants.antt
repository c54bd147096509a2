use Rattle.std.proofs.Common.{◌≡◌, true, take}
use Rattle.std.specs.List.{list_all}
use Rattle.site_base.specs.declared.limits.TheConstants.{POINTS}
use Rattle.site_base.specs.Ranges.{is_between}
use Rattle.next_opening.proofs.found_obstacles.tell_points.Given as goal

abbrev pub invariant-loop-sold : goal.invariant-loop-sold
invariant-loop-sold l =
    list_all (λ x. is_between 1 POINTS x.point) (take l.sold-index l.sales) ≡ true
