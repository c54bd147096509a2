use Rattle.std.proofs.Common.{ℕ, List, ◌++◌, ◌∙◌, ap, string_bytes}
use Rattle.site_base.specs.declared.config.NozzleEntry.{NozzleEntry}
use Rattle.site_text.specs.SiteText.{nozzles_line, number_line, point_text}
use Rattle.site_text.proofs.JoinedTexts.{put_last}
use Rattle.site_text.proofs.text.put_point.Goals as goal

pub returns : goal.returns
unfolding point_text
returns c =
    put_last _ _ _ _ _ _ _ c.in_ok-push_str.ensures.bytes
    (c.in_ok-put_number.ensures
    ∙ ap (λ (n : ℕ). string_bytes c.push_str.new.self ++ number_line n) c.get.ensures.value)
    (c.in_ok-put_nozzles_line.ensures
    ∙ ap (λ (ns : List NozzleEntry). string_bytes c.put_number.new.text ++ nozzles_line ns)
    c.as_slice.ensures)
