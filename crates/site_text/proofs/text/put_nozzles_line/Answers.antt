use Rattle.site_text.proofs.JoinedTexts.{put_three}
use Rattle.site_text.proofs.text.put_nozzles_line.Goals as goal

pub returns : goal.returns
returns c =
    put_three _ _ _ _ _ _ _ c.in_ok-push_str.ensures.bytes c.in_ok-put_nozzles.ensures
    c.in_ok-push_str-2.ensures.bytes
