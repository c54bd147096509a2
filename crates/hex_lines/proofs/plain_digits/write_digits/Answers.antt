use Rattle.std.proofs.Common.{◌*◌, arith}
use Rattle.hex_lines.proofs.SixteenDigits.{all_written}
use Rattle.hex_lines.proofs.plain_digits.write_digits.Goals as goal

-- eight octets more are written
pub loop-i-preserved : goal.loop-i-preserved
loop-i-preserved c = λ k lt.
    c.write_eight.ensures (8 * c.loop-i.i) (omega arith) c.loop-i.invariant k (omega arith)

pub returns : goal.returns
returns c =
    all_written c.args.octets.now c.write_eight-2.new.place (omega arith) (λ k lt.
    c.write_eight-2.ensures (8 * c.loop-i.i) (omega arith) c.loop-i.invariant k (omega arith))
