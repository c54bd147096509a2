use Rattle.std.proofs.Common.{refl}
use Rattle.site_metrics.specs.Metrics.{state_line}
use Rattle.site_metrics.proofs.JoinedTexts.{put_last}
use Rattle.site_metrics.proofs.families.put_state_line.Goals as goal

pub returns : goal.returns
unfolding state_line
returns c = put_last _ _ _ _ _ _ _ c.in_ok-push_str.ensures.bytes c.put_sample.ensures refl
