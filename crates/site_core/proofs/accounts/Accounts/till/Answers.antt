use Rattle.std.proofs.Common.{sym, ◌∙◌, arith}
use Rattle.site_core.proofs.NumberedCells.{member_at}
use Rattle.site_core.proofs.accounts.Accounts.till.Goals as goal

pub returns : goal.returns
returns c =
    let inside = c.self.inside in
    rw (← c.self.view_is)
    (sym (member_at c.args.t c.cell.result inside.tills (0, 0) c.cell.ensures.place)
    ∙ c.self.invariant.figures.all c.args.t (omega arith) (omega arith))
