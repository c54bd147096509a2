use Rattle.std.proofs.Common.{arith}
use Rattle.site_base.proofs.PointSets.{without_point, fewer}
use Rattle.site_base.proofs.point_set.PointSet.remove.Goals as goal

pub returns-clause-others : goal.returns-clause-others
returns-clause-others c = λ q low high.
    rw (← c.self.view_is) (without_point c.self.inside.bits c.args.p q c.cell.result
    c.cell.ensures.place (omega arith) low (omega arith))

pub returns-clause-fewer : goal.returns-clause-fewer
returns-clause-fewer c =
    rw (← c.self.view_is) (fewer c.self.inside.bits c.args.p c.cell.result c.cell.ensures.place
    (omega arith))
