use Rattle.std.proofs.Common.{refl}
use Rattle.site_metrics.specs.Counts.{version_text}
use Rattle.site_metrics.proofs.JoinedTexts.{put_last}
use Rattle.site_metrics.proofs.counts.put_version.Goals as goal

pub returns : goal.returns
unfolding version_text
returns c = put_last _ _ _ _ _ _ _ c.in_ok-put_head.ensures c.put_version_line.ensures refl
