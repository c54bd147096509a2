use Rattle.std.proofs.Common.{refl}
use Rattle.site_metrics.specs.Counts.{stores_lines}
use Rattle.site_metrics.proofs.JoinedTexts.{put_last}
use Rattle.site_metrics.proofs.counts.put_stores_lines.Goals as goal

pub returns : goal.returns
unfolding stores_lines
returns c = put_last _ _ _ _ _ _ _ c.in_ok-put_times.ensures c.put_longest.ensures refl
