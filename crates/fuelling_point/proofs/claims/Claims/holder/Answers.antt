use Rattle.std.proofs.Common.{sym, ◌∙◌, arith}
use Rattle.std.proofs.lemmas.List.{get_or_default}
use Rattle.site_base.proofs.Cells.{cell_read}
use Rattle.fuelling_point.proofs.claims.Claims.holder.Goals as goal

pub returns : goal.returns
returns c =
    rw (← c.self.view_is) (get_or_default c.self.inside.holders c.cell.result _ _ (omega arith)
    ∙ sym (cell_read c.self.inside.holders c.cell.result c.args.p c.cell.ensures.place
    (omega arith)))
