use Rattle.written_site.proofs.ClearFigures.{sign_off_keeps}
use Rattle.site_core.proofs.AccountFigures.{sales_kept}
use Rattle.site_core.proofs.accounts.Accounts.release_all.Goals as goal

pub invariant_of-self : goal.invariant_of-self
invariant_of-self c =
    let inside = c.self.inside in
    record {
      figures = rw c.release_all.ensures.sales (sales_kept inside.sales.sales _
          inside.shifts.shifts inside.tills (sign_off_keeps c.args.t inside.sales.sales)
          c.self.invariant.figures);
      drawn = c.self.invariant.drawn;
    }
