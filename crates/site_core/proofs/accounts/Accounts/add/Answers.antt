use Rattle.site_core.proofs.AccountFigures.{sold_kept}
use Rattle.site_core.proofs.accounts.Accounts.add.Goals as goal

pub invariant_of-self : goal.invariant_of-self
invariant_of-self c =
    let inside = c.self.inside in
    record {
      figures = rw c.add.ensures.sales (sold_kept c.args.p c.open-shift.result c.args.view
          inside.sales.sales inside.shifts.shifts inside.tills c.self.invariant.figures);
      drawn = c.self.invariant.drawn;
    }
