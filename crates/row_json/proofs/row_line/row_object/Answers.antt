use Rattle.std.proofs.Common.{ap, ◌∙◌}
use Rattle.serde_json.specs.Written.{compact_text, has_float}
use Rattle.row_json.proofs.RowMembers.{no_float_row}
use Rattle.row_json.proofs.row_line.row_object.Goals as goal

pub returns : goal.returns
returns c =
    c.in_ok-to_string.ensures.text
    (ap has_float c.in_ok-value.ensures ∙ no_float_row c.args.told.now)
    ∙ ap compact_text c.in_ok-value.ensures
