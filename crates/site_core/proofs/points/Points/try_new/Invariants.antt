use Rattle.std.proofs.Common.{◌≡◌, length, take}
use Rattle.site_base.specs.declared.limits.TheConstants.{POINT_CELLS}
use Rattle.written_site.specs.SiteState.{points_of}
use Rattle.site_core.proofs.points.Points.try_new.Given as goal

abbrev pub invariant-loop-entry : goal.invariant-loop-entry
invariant-loop-entry l = record {
  rows : l.rows.items ≡ points_of (take l.entry-index l.entries);
  cells : length l.hints ≡ POINT_CELLS;
}
