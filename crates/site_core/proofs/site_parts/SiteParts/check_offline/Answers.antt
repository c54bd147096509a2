use Rattle.site_core.specs.SiteParts.{site_of}
use Rattle.site_core.proofs.ReadyReports.{offline_ready}
use Rattle.site_core.proofs.site_parts.SiteParts.check_offline.Goals as goal

pub returns : goal.returns
returns c =
    offline_ready (site_of c.args.self.now) c.args.d c.args.p c.in_ok-point.point c.requires
    c.in_ok-point.ensures.check c.in_ok-point.ensures.number c.in_ok-point.ensures.found
    c.in_ok-check_own.ensures c.in_ok-judge.ensures.accepted
