use Rattle.std.proofs.Common.{refl}
use Rattle.site_metrics.specs.Tallied.{refusals_text}
use Rattle.site_metrics.proofs.JoinedTexts.{put_last}
use Rattle.site_metrics.proofs.tallied.put_refusals.Goals as goal

pub returns : goal.returns
unfolding refusals_text
returns c = put_last _ _ _ _ _ _ _ c.in_ok-put_head.ensures c.put_each.ensures refl
