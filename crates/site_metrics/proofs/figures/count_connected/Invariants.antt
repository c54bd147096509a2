use Rattle.std.proofs.Common.{◌≡◌, ◌≤◌, take}
use Rattle.std.specs.Prelude.{count_by}
use Rattle.site_base.specs.declared.config.PointEntry.{PointEntry}
use Rattle.site_json.specs.Sessions.{is_connected}
use Rattle.site_metrics.proofs.figures.count_connected.Given as goal

abbrev pub invariant-loop-point : goal.invariant-loop-point
invariant-loop-point l = record {
  count : l.count ≡ count_by (λ (e : PointEntry). is_connected l.sessions e.number)
      (take l.point-index l.book.config.points);
  few : l.count ≤ l.point-index;
}
