use Rattle.std.proofs.Common.{ap, ◌∙◌}
use Rattle.serde_json.specs.Written.{compact_text, has_float}
use Rattle.site_json.proofs.NoFloats.{no_float_unpaid}
use Rattle.site_json.proofs.unpaid.unpaid_text.Goals as goal

pub returns : goal.returns
returns c =
    c.in_ok-to_string.ensures.text
    (ap has_float c.in_ok-value.ensures ∙ no_float_unpaid c.args.point c.args.unpaid.now)
    ∙ ap compact_text c.in_ok-value.ensures
