use Rattle.std.proofs.Common.{ℕ, ◌++◌, ◌∙◌, ap, string_bytes}
use Rattle.site_text.specs.SiteText.{number_line, product_text}
use Rattle.site_text.proofs.JoinedTexts.{put_last}
use Rattle.site_text.proofs.text.put_product.Goals as goal

pub returns : goal.returns
unfolding product_text
returns c =
    put_last _ _ _ _ _ _ _ c.in_ok-push_str.ensures.bytes
    (c.in_ok-put_number.ensures
    ∙ ap (λ (n : ℕ). string_bytes c.push_str.new.self ++ number_line n) c.get.ensures.value)
    c.in_ok-put_name.ensures
