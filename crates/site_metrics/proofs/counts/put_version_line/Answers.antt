use Rattle.std.proofs.Common.{refl}
use Rattle.site_metrics.specs.Counts.{version_line}
use Rattle.site_metrics.proofs.JoinedTexts.{put_last}
use Rattle.site_metrics.proofs.counts.put_version_line.Goals as goal

pub returns : goal.returns
unfolding version_line
returns c = put_last _ _ _ _ _ _ _ c.in_ok-push_str.ensures.bytes c.put_sample.ensures refl
