use Rattle.std.proofs.Common.{◌∙◌, ℕ, List}
use Rattle.std.proofs.lemmas.Simd.{length-chunk}
use lib.Lanes.{chunk}
use Rattle.hex_lines.proofs.SixteenDigits.{eight_more, eight_written, fits_chunk}
use Rattle.hex_lines.proofs.plain_digits.write_eight.Goals as goal

pub returns : goal.returns
returns c =
    let v : List ℕ = chunk c.args.at 8 c.args.octets.now in
    eight_more c.args.octets.now c.args.place.now _ c.args.at c.requires.within c.requires.twice
    (c.digits_of.ensures ∙ eight_written v c.high_values.result c.low_values.result
    (length-chunk c.args.at 8 c.args.octets.now c.requires.within)
    (λ k. fits_chunk c.args.octets.now c.args.at k c.requires.within
    c.type_inv.octets)
    c.high_values.ensures c.low_values.ensures)
