use Rattle.std.proofs.Common.{refl}
use Rattle.site_metrics.specs.Metrics.{points_text}
use Rattle.site_metrics.proofs.JoinedTexts.{put_last}
use Rattle.site_metrics.proofs.figures.put_points.Goals as goal

pub returns : goal.returns
unfolding points_text
returns c =
    put_last _ _ _ _ _ _ _ c.in_ok-put_head.ensures
    (c.put_states.ensures) refl
