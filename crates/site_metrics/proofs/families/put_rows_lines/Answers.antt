use Rattle.std.proofs.Common.{refl}
use Rattle.site_metrics.specs.Metrics.{rows_lines}
use Rattle.site_metrics.proofs.JoinedTexts.{put_last}
use Rattle.site_metrics.proofs.families.put_rows_lines.Goals as goal

pub returns : goal.returns
unfolding rows_lines
returns c = put_last _ _ _ _ _ _ _ c.in_ok-put_gauge.ensures c.put_gauge-2.ensures refl
