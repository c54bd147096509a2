use Rattle.std.proofs.Common.{◌≡◌, length, map, take}
use Rattle.std.specs.List.{range_with_len}
use Rattle.site_base.specs.declared.limits.TheConstants.{PRODUCT_CELLS}
use Rattle.written_site.specs.ShiftFigures.{product_cents_in}
use Rattle.site_core.specs.SiteParts.{site_of}
use Rattle.site_core.proofs.site_parts.SiteParts.recount_product_cents.Given as goal

abbrev pub invariant-loop-cell : goal.invariant-loop-cell
invariant-loop-cell l = record {
  cells : length l.sums ≡ PRODUCT_CELLS;
  told : take l.cell l.sums
      ≡ map (λ q. product_cents_in l.n q (site_of l.self).sales) (range_with_len 1 l.cell);
}
