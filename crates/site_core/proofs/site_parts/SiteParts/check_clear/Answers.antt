use Rattle.std.proofs.Common.{◌≡◌, Some, None, Ok, refl, sym, ap, subst, ◌∙◌, arith}
use Rattle.std.proofs.lemmas.Grind.{common_steps}
use Rattle.written_site.proofs.FigureBounds.{figures_fit}
use Rattle.site_core.specs.SiteParts.{site_of}
use Rattle.site_core.proofs.ReadyClears.{clear_ready}
use Rattle.site_core.proofs.site_parts.SiteParts.check_clear.Goals as goal

pub returns : goal.returns
returns c =
    clear_ready (site_of c.args.self.now) c.args.t c.args.p c.args.id.now c.open_shift.result
    c.in_ok-sale.sale c.requires c.in_ok-check_signed_on.ensures c.in_ok-sale.ensures.check
    c.in_ok-sale.ensures.key c.in_ok-sale.ensures.placed c.open_shift.ensures
    c.in_ok-judge.ensures.accepted
