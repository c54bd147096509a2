use Rattle.std.proofs.Common.{refl, sym, ap, ◌∙◌}
use Rattle.fuelling_point.specs.KeptPoints.{Facts}
use Rattle.written_site.specs.SiteChecks.{put_back_at}
use Rattle.site_core.specs.SiteParts.{site_of}
use Rattle.site_core.proofs.ReadyReports.{hang_up_ready}
use Rattle.site_core.proofs.site_parts.SiteParts.check_hang_up.Goals as goal

pub returns : goal.returns
returns c =
    hang_up_ready (site_of c.args.self.now) c.args.d c.args.p c.args.n c.args.reading
    c.growth-growth.result c.put_back_at-report.result c.in_ok-point.point c.requires
    c.in_ok-point.ensures.check c.in_ok-point.ensures.number c.in_ok-point.ensures.found
    c.in_ok-check_nozzle.ensures c.in_ok-check_own.ensures c.growth-growth.ensures.value
    c.growth-growth.ensures.range c.in_ok-judge.ensures.accepted
    (c.put_back_at-report.ensures ∙ ap (λ v. put_back_at v.state) c.view.ensures)
    c.in_ok-check.ensures.accepted
