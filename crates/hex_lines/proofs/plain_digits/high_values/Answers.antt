use Rattle.std.proofs.Common.{◌∙◌, ℕ, List, refl}
use Rattle.std.proofs.lemmas.Simd.{zip2_splat}
use Rattle.hex_lines.specs.SideBySide.{high_value}
use Rattle.hex_lines.proofs.LaneLemmas.{numbers_agree}
use Rattle.hex_lines.proofs.plain_digits.high_values.Goals as goal

pub returns : goal.returns
returns c =
    let v : List ℕ = c.args.octets in
    zip2_splat {Y = ℕ} _ v 8 4 c.fits-octets.0 ∙ numbers_agree _ high_value v c.fits-octets.1 refl
