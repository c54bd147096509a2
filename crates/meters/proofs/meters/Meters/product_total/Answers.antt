use Rattle.std.proofs.Common.{◌+◌, arith}
use Rattle.meters.proofs.Bounds.{bound, total_bound}
use Rattle.meters.proofs.meters.Meters.product_total.Goals as goal

pub returns-clause-range : goal.returns-clause-range
returns-clause-range c =
    omega (
      arith,
      c.self.invariant.totals c.cell.result c.cell.ensures.within,
      total_bound (c.cell.result + 1) c.self.inside.meters.items c.self.invariant.nozzles,
    )

pub returns-clause-bound : goal.returns-clause-bound
returns-clause-bound c =
    rw (← c.self.view_is) (bound c.self.inside.meters.items c.self.invariant.nozzles)
