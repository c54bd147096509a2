use Rattle.std.proofs.Common.{refl}
use Rattle.site_metrics.specs.Counts.{longest_text}
use Rattle.site_metrics.proofs.JoinedTexts.{put_last}
use Rattle.site_metrics.proofs.counts.put_longest.Goals as goal

pub returns : goal.returns
unfolding longest_text
returns c = put_last _ _ _ _ _ _ _ c.in_ok-put_head.ensures c.put_seconds.ensures refl
