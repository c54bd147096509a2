use Rattle.std.proofs.Common.{ap, ◌∙◌}
use Rattle.serde_json.specs.Written.{compact_text, has_float}
use Rattle.shift_table.proofs.NoFloats.{no_float_shift}
use Rattle.shift_table.proofs.json.shift_object.Goals as goal

pub returns : goal.returns
returns c =
    c.in_ok-text.ensures.text
    (ap has_float c.in_ok-shift_value.ensures
    ∙ no_float_shift c.args.products.now c.args.number c.args.is_open c.args.times.now
    c.args.row.now)
    ∙ ap compact_text c.in_ok-shift_value.ensures
