use Rattle.std.proofs.Common.{refl}
use Rattle.site_metrics.specs.Metrics.{sessions_lines}
use Rattle.site_metrics.proofs.JoinedTexts.{put_last}
use Rattle.site_metrics.proofs.families.put_sessions_lines.Goals as goal

pub returns : goal.returns
unfolding sessions_lines
returns c = put_last _ _ _ _ _ _ _ c.in_ok-put_head.ensures c.put_kinds_lines.ensures refl
