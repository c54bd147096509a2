use Rattle.std.proofs.Common.{ap, ◌∙◌}
use Rattle.site_core.specs.Accounts.{shift_row}
use Rattle.site_core.proofs.ShownFigures.{row_shown}
use Rattle.site_core.proofs.accounts.Accounts.shift.Goals as goal

pub returns : goal.returns
returns c =
    let inside = c.self.inside in
    c.row.ensures
    ∙ row_shown c.args.n inside.sales.sales inside.shifts.shifts inside.tills
    c.self.invariant.figures
    ∙ ap (λ a. shift_row c.args.n a.sales a.drawn) c.self.view_is
