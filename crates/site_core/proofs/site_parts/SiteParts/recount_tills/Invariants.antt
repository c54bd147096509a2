use Rattle.std.proofs.Common.{◌≡◌, map}
use Rattle.std.specs.List.{range_with_len}
use Rattle.written_site.specs.ShiftFigures.{clears_by, cents_by}
use Rattle.site_core.specs.SiteParts.{site_of}
use Rattle.site_core.proofs.site_parts.SiteParts.recount_tills.Given as goal

abbrev pub invariant-loop-cell : goal.invariant-loop-cell
invariant-loop-cell l = l.tills.items
    ≡ map (λ t. (t, clears_by t (site_of l.self).sales, cents_by t (site_of l.self).sales))
    (range_with_len 1 l.cell)
