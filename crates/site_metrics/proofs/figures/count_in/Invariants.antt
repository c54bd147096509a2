use Rattle.std.proofs.Common.{◌≡◌, ◌≤◌, take}
use Rattle.std.specs.Prelude.{count_by}
use Rattle.site_base.specs.declared.config.PointEntry.{PointEntry}
use Rattle.site_book.specs.Book.{site_of_book}
use Rattle.written_site.specs.SiteState.{view_point}
use Rattle.site_metrics.specs.Metrics.{shows}
use Rattle.site_metrics.proofs.figures.count_in.Given as goal

abbrev pub invariant-loop-point : goal.invariant-loop-point
invariant-loop-point l = record {
  count : l.count ≡ count_by (λ (e : PointEntry). shows l.state
      (view_point (site_of_book l.book) e.number)) (take l.point-index l.book.config.points);
  few : l.count ≤ l.point-index;
}
