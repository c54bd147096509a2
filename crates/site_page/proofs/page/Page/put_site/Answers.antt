use Rattle.std.proofs.Common.{ap, ◌∙◌}
use Rattle.std.specs.Prelude.{string_bytes}
use Rattle.serde_json.specs.Written.{compact_text}
use Rattle.site_page.specs.PageAnswers.{Shown, shown_data}
use Rattle.site_page.proofs.Answering.{json_sent}
use Rattle.site_page.proofs.page.Page.put_site.Goals as goal

pub returns-in-Ok : goal.returns-in-Ok
returns-in-Ok c =
    json_sent c.put_json.result (string_bytes c.in-Ok.text) (shown_data c.args.self.now)
    c.put_json.new.response
    (c.in-Ok.ensures ∙ ap (λ (x : Shown). compact_text (shown_data x)) c.self.view_is)
    c.put_json.ensures
