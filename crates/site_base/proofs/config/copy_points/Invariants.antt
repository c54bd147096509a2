use Rattle.std.proofs.Common.{◌≡◌, take}
use Rattle.site_base.proofs.config.copy_points.Given as goal

abbrev pub invariant-loop-point : goal.invariant-loop-point
invariant-loop-point l = l.copies.items ≡ take l.point-index l.points
