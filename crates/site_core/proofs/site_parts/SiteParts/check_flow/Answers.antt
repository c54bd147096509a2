use Rattle.std.proofs.Common.{refl, sym, ap}
use Rattle.site_core.specs.SiteParts.{site_of}
use Rattle.site_core.proofs.ReadyReports.{flow_ready}
use Rattle.site_core.proofs.site_parts.SiteParts.check_flow.Goals as goal

pub returns : goal.returns
returns c =
    flow_ready (site_of c.args.self.now) c.args.d c.args.p c.args.n c.args.reading
    c.growth-growth.result c.in_ok-point.point c.requires c.in_ok-point.ensures.check
    c.in_ok-point.ensures.number c.in_ok-point.ensures.found c.in_ok-check_nozzle.ensures
    c.in_ok-check_own.ensures c.growth-growth.ensures.value c.growth-growth.ensures.range
    c.in_ok-judge.ensures.accepted c.in_ok-check.ensures.accepted
