use Rattle.std.proofs.Common.{sym}
use Rattle.site_core.proofs.MarkedTills.{at_cell}
use Rattle.site_core.proofs.tills.Tills.contains.Goals as goal

pub returns : goal.returns
returns c = rw (← c.self.view_is)
    (sym (at_cell c.self.inside.cells c.args.t c.cell.result c.cell.ensures.place))
