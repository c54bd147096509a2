use Rattle.std.proofs.Common.{◌≡◌, length, map, take}
use Rattle.std.specs.List.{range_with_len}
use Rattle.site_base.specs.declared.limits.TheConstants.{TILL_CELLS}
use Rattle.site_core.specs.Accounts.{takings_of}
use Rattle.site_core.specs.SiteParts.{site_of}
use Rattle.site_core.proofs.site_parts.SiteParts.recount_takings.Given as goal

abbrev pub invariant-loop-cell : goal.invariant-loop-cell
invariant-loop-cell l = record {
  cells : length l.takings ≡ TILL_CELLS;
  told : take l.cell l.takings
      ≡ map (takings_of l.n (site_of l.self).sales) (range_with_len 1 l.cell);
}
