use Rattle.std.proofs.Common.{◌≡◌, length, map, take}
use Rattle.std.specs.List.{range_with_len}
use Rattle.site_base.specs.declared.limits.TheConstants.{PRODUCT_CELLS}
use Rattle.written_site.specs.ShiftFigures.{cleared_in}
use Rattle.site_core.specs.SiteParts.{site_of}
use Rattle.site_core.proofs.site_parts.SiteParts.recount_cleared.Given as goal

abbrev pub invariant-loop-cell : goal.invariant-loop-cell
invariant-loop-cell l = record {
  cells : length l.cleared ≡ PRODUCT_CELLS;
  told : take l.cell l.cleared
      ≡ map (λ q. cleared_in l.n q (site_of l.self).sales) (range_with_len 1 l.cell);
}
