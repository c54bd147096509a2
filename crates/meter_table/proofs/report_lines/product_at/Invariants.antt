use Rattle.std.proofs.Common.{◌≡◌, drop}
use Rattle.meter_table.specs.ReportLines.{product_at}
use Rattle.meter_table.proofs.report_lines.product_at.Given as goal

abbrev pub invariant-loop-point : goal.invariant-loop-point
invariant-loop-point l =
    product_at l.p l.n l.points ≡ product_at l.p l.n (drop l.point-index l.points)
