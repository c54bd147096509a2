use Rattle.std.proofs.Common.{◌≡◌, ◌+◌, drop}
use Rattle.meters.specs.MeteredVolumes.{product_alone}
use Rattle.written_site.specs.Volumes.{running_volume, running_by}
use Rattle.site_core.specs.SiteParts.{site_of}
use Rattle.site_core.proofs.site_parts.SiteParts.recount_running.Given as goal

-- what is counted, with what flows at the points behind, is what flows at all
abbrev pub invariant-loop-p : goal.invariant-loop-p
invariant-loop-p l =
    l.sum + running_by (product_alone l.q) l.self.meters (drop l.p-index l.p-items)
    ≡ running_volume (site_of l.self) l.q
