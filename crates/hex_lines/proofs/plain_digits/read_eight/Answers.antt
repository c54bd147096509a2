use Rattle.std.proofs.Common.{◌*◌, arith, refl}
use Rattle.hex_lines.proofs.EightOctets.{each_of_eight, eight_more, lanes_read}
use Rattle.hex_lines.proofs.plain_digits.read_eight.Goals as goal

pub returns : goal.returns
returns c = λ all.
    let one = lanes_read c.args.text.now c.values_in-values.result (2 * c.args.at)
    c.others_in.result (omega arith) c.type_inv.text c.values_in-values.ensures c.others_in.ensures
    c.if-others_in-ne0.false in
    eight_more c.args.text.now c.args.place.now _ c.args.at c.requires.within refl
    (each_of_eight _ (one 0 (omega arith)) (one 1 (omega arith)) (one 2 (omega arith))
    (one 3 (omega arith)) (one 4 (omega arith)) (one 5 (omega arith)) (one 6 (omega arith))
    (one 7 (omega arith)))
