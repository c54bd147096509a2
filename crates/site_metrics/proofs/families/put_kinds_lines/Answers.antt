use Rattle.std.proofs.Common.{refl}
use Rattle.site_metrics.specs.Metrics.{kinds_lines}
use Rattle.site_metrics.proofs.JoinedTexts.{put_last}
use Rattle.site_metrics.proofs.families.put_kinds_lines.Goals as goal

pub returns : goal.returns
unfolding kinds_lines
returns c = put_last _ _ _ _ _ _ _ c.in_ok-put_sample.ensures c.put_sample-2.ensures refl
