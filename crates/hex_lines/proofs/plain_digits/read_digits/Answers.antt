use Rattle.std.proofs.Common.{◌≡◌, ◌*◌, length, arith}
use Rattle.hex_lines.proofs.EightOctets.{all_read}
use Rattle.hex_lines.proofs.plain_digits.read_digits.Goals as goal

pub returns : goal.returns
returns c = λ all.
    let size : length c.read_eight-2.new.place ≡ length c.args.place.now = omega arith in
    all_read c.args.text.now c.read_eight-2.new.place (omega arith) (λ k lt.
    c.read_eight-2.ensures all (8 * c.loop-i.i) (omega arith) c.loop-i.invariant k (omega arith))
