use Rattle.std.proofs.Common.{◌∙◌, ◌+◌, ◌-◌, ◌%◌, ℕ, List, bit_or, bit_xor, cond, ltb, refl}
use Rattle.std.proofs.lemmas.Simd.{zip2_splat, zip2_splat_left, zip2_of_maps, splat_is_map}
use Rattle.hex_lines.specs.SideBySide.{digit_value}
use Rattle.hex_lines.proofs.LaneLemmas.{numbers_agree, selected}
use Rattle.hex_lines.proofs.plain_digits.values_in.Goals as goal

pub returns : goal.returns
returns c =
    let v : List ℕ = c.args.octets in
    let long = c.fits-octets.0 in
    let less : ℕ → ℕ → ℕ = λ a b. cond (ltb a b) 255 0 in
    let add : ℕ → ℕ → ℕ = λ a b. (a + b) % 256 in
    let subtract : ℕ → ℕ → ℕ = λ a b. (a + (256 - b)) % 256 in
    let below = zip2_splat_left subtract 57 16 v long in
    let most = splat_is_map v 16 249 long in
    let capped = selected _ _ _ v (zip2_of_maps less _ _ v below most) below most in
    let six = splat_is_map v 16 6 long in
    let number = zip2_of_maps bit_xor _ _ v (zip2_of_maps add _ _ v capped six)
    (splat_is_map v 16 15 long) in
    let above = zip2_of_maps subtract _ _ v (zip2_splat bit_or v 16 32 long)
    (splat_is_map v 16 97 long) in
    let top = splat_is_map v 16 245 long in
    let letter = zip2_of_maps add _ _ v
    (selected _ _ _ v (zip2_of_maps less _ _ v above top) above top) (splat_is_map v 16 10 long) in
    selected _ _ _ v (zip2_of_maps less _ _ v number letter) number letter
    ∙ numbers_agree _ digit_value v c.fits-octets.1 refl
