use Rattle.std.proofs.Common.{refl}
use Rattle.site_metrics.specs.Tallied.{told_text}
use Rattle.site_metrics.proofs.JoinedTexts.{put_last}
use Rattle.site_metrics.proofs.tallied.put_told.Goals as goal

pub returns : goal.returns
unfolding told_text
returns c = put_last _ _ _ _ _ _ _ c.in_ok-put_refusals.ensures c.put_gaps.ensures refl
