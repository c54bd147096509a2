use Rattle.std.proofs.Common.{arith}
use Rattle.site_core.proofs.MarkedTills.{marked}
use Rattle.site_core.proofs.tills.Tills.insert.Goals as goal

pub returns : goal.returns
returns c = rw (← c.self.view_is)
    (marked c.self.inside.cells c.args.t c.cell.result c.cell.ensures.place
    (omega (arith, c.cell.ensures.within, c.self.told)))
