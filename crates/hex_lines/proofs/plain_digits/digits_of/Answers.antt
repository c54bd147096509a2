use Rattle.std.proofs.Common.{◌∙◌, ℕ, List, cond, ltb, refl}
use Rattle.std.proofs.lemmas.Simd.{zip2_splat, zip2_splat_left, zip2_of_maps, splat_is_map}
use Rattle.hex_lines.specs.SideBySide.{digit_of}
use Rattle.hex_lines.proofs.LaneLemmas.{numbers_agree, selected}
use Rattle.hex_lines.proofs.plain_digits.digits_of.Goals as goal

pub returns : goal.returns
returns c =
    let v : List ℕ = c.args.values in
    let long = c.fits-values.0 in
    let letters = selected _ _ _ v
    (zip2_splat_left (λ (a b : ℕ). cond (ltb a b) 255 0) 9 16 v long)
    (splat_is_map v 16 39 long) (splat_is_map v 16 0 long) in
    zip2_of_maps _ _ _ v (zip2_splat {Y = ℕ} _ v 16 48 long) letters
    ∙ numbers_agree _ digit_of v c.fits-values.1 refl
