use Rattle.std.proofs.Common.{subst, sym}
use Rattle.site_core.specs.Accounts.{IsAccount}
use Rattle.site_core.proofs.AccountFigures.{close_kept}
use Rattle.site_core.proofs.NotedDraws.{kept_opened}
use Rattle.site_core.proofs.accounts.Accounts.close.Goals as goal

pub invariant_of-self : goal.invariant_of-self
invariant_of-self c =
    let inside = c.self.inside in
    subst (λ shifts. IsAccount inside.sales.sales shifts inside.tills inside.drawn)
    (sym c.perform_close.ensures.shifts) (record {
      figures = close_kept inside.sales.sales inside.shifts.shifts inside.tills
          c.self.invariant.figures;
      drawn = kept_opened inside.shifts.shifts inside.drawn c.self.invariant.drawn;
    })
