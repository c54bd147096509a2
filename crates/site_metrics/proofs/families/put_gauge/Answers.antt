use Rattle.std.proofs.Common.{refl}
use Rattle.site_metrics.specs.Families.{gauge}
use Rattle.site_metrics.proofs.JoinedTexts.{put_last}
use Rattle.site_metrics.proofs.families.put_gauge.Goals as goal

pub returns : goal.returns
unfolding gauge
returns c =
    put_last _ _ _ _ _ _ _ c.in_ok-put_head.ensures
    (c.put_sample.ensures) refl
