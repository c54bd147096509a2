use Rattle.std.proofs.Common.{refl}
use Rattle.site_metrics.specs.Tallied.{refusal_line}
use Rattle.site_metrics.proofs.JoinedTexts.{put_last}
use Rattle.site_metrics.proofs.tallied.put_refusal_line.Goals as goal

pub returns : goal.returns
unfolding refusal_line
returns c = put_last _ _ _ _ _ _ _ c.in_ok-put_numbered.ensures c.put_sample.ensures refl
