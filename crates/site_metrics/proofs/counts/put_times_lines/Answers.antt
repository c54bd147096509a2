use Rattle.std.proofs.Common.{refl}
use Rattle.site_metrics.specs.Counts.{times_lines}
use Rattle.site_metrics.proofs.JoinedTexts.{put_last}
use Rattle.site_metrics.proofs.counts.put_times_lines.Goals as goal

pub returns : goal.returns
unfolding times_lines
returns c = put_last _ _ _ _ _ _ _ c.in_ok-put_seconds.ensures c.put_sample.ensures refl
