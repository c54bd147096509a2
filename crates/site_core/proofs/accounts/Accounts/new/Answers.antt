use Rattle.std.proofs.Common.{refl}
use Rattle.site_core.proofs.AccountFigures.{first_figures}
use Rattle.site_core.proofs.NotedDraws.{first_drawn}
use Rattle.site_core.proofs.accounts.Accounts.new.Goals as goal

pub invariant_of-result : goal.invariant_of-result
invariant_of-result c = record {
  figures = first_figures c.new.result.sales c.new-2.result.shifts _ c.new.ensures
      c.new-2.ensures refl;
  drawn = rw c.new-2.ensures first_drawn;
}
