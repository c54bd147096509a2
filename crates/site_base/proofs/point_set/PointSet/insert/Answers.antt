use Rattle.std.proofs.Common.{arith}
use Rattle.site_base.proofs.PointSets.{with_point}
use Rattle.site_base.proofs.point_set.PointSet.insert.Goals as goal

pub returns : goal.returns
returns c = λ q low high.
    rw (← c.self.view_is) (with_point c.self.inside.bits c.args.p q c.cell.result
    c.cell.ensures.place (omega arith) low)
