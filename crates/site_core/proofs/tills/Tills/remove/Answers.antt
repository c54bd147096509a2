use Rattle.std.proofs.Common.{arith}
use Rattle.site_core.proofs.MarkedTills.{unmarked}
use Rattle.site_core.proofs.tills.Tills.remove.Goals as goal

pub returns : goal.returns
returns c = rw (← c.self.view_is)
    (unmarked c.self.inside.cells c.args.t c.cell.result c.cell.ensures.place
    (omega (arith, c.cell.ensures.within, c.self.told)))
