use Rattle.std.proofs.Common.{ℕ, List, ◌++◌, ap, codes, string_bytes, ◌∙◌, arith}
use Rattle.serde_json.specs.Written.{compact_text, has_float}
use Rattle.day_report.proofs.NoFloats.{no_float_report}
use Rattle.day_report.proofs.json.report_as_json.Goals as goal

pub returns : goal.returns
returns c =
    c.in_ok-push.ensures.bytes
    ∙ ap (λ (feed : List ℕ). string_bytes c.in_ok-text.text ++ feed)
    (c.in_ok-push.ensures.ascii (omega arith))
    ∙ ap (λ (text : List ℕ). text ++ codes "\n")
    (c.in_ok-text.ensures.text
    (ap has_float c.in_ok-report_value.ensures
    ∙ no_float_report c.args.products.now c.args.totals.now c.args.shares)
    ∙ ap compact_text c.in_ok-report_value.ensures)
