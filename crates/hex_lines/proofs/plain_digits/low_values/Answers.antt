use Rattle.std.proofs.Common.{◌∙◌, ℕ, List, refl}
use Rattle.std.proofs.lemmas.Simd.{zip2_splat}
use Rattle.hex_lines.specs.SideBySide.{low_value}
use Rattle.hex_lines.proofs.LaneLemmas.{numbers_agree}
use Rattle.hex_lines.proofs.plain_digits.low_values.Goals as goal

pub returns : goal.returns
returns c =
    let v : List ℕ = c.args.octets in
    zip2_splat {Y = ℕ} _ v 8 15 c.fits-octets.0 ∙ numbers_agree _ low_value v c.fits-octets.1 refl
