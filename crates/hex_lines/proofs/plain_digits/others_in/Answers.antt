use Rattle.std.proofs.Common.{ℕ, cond, ltb, refl}
use Rattle.std.proofs.lemmas.Simd.{zip2_splat_left}
use Rattle.hex_lines.specs.SideBySide.{is_other}
use Rattle.hex_lines.proofs.LaneLemmas.{masked}
use Rattle.hex_lines.proofs.plain_digits.others_in.Goals as goal

pub returns : goal.returns
returns c =
    masked _ is_other c.args.values c.fits-values.0 c.fits-values.1
    (zip2_splat_left (λ (a b : ℕ). cond (ltb a b) 255 0) 15 16 c.args.values c.fits-values.0) refl
