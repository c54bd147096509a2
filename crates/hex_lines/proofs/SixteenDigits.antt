-- Eight octets that are written as sixteen digits side by side.
use Rattle.std.proofs.Common.{◌≡◌, ℕ, zero, suc, ◌+◌, ◌-◌, ◌*◌, ◌/◌, ◌%◌, ◌<◌, ◌≤◌, ◌==◌, List}
use Rattle.std.proofs.Common.{[], ◌∷◌, ◌++◌, length, map}
use Rattle.std.proofs.Common.{Fits, w8, get_or, refl, sym, ap, ◌∙◌, arith, inl, inr}
use Rattle.std.proofs.lemmas.List.{get_or-append_right, get_or-map, get_or_append_left, get_or_past}
use Rattle.std.proofs.lemmas.List.{length-map}
use Rattle.std.proofs.lemmas.Simd.{get_or-chunk, length-chunk, pick_l_whole}
use Rattle.std.proofs.lemmas.Simd.{get_or-put_chunk_at, get_or-put_chunk_below}
use Rattle.std.proofs.lemmas.Bool.{cases_eq, cases_lt, eqb-true}
use Rattle.std.proofs.lemmas.Grind.{same_number_lists}
use Rattle.hex.proofs.HexLemmas.{length-encode_with}
use lib.Lanes.{chunk}
use Rattle.std.specs.Simd.Lanes.{put_chunk}
use Rattle.hex.specs.Hex.{encode_lower, encode_with, lower_digits}
use Rattle.hex_lines.specs.SideBySide.{IsWritten, digit_of, high_digit, high_value}
use Rattle.hex_lines.specs.SideBySide.{low_digit, low_value}
use Rattle.hex_lines.proofs.LaneLemmas.{at_below}

-- the digits of an octet stand at its place
digits_at : (v : List ℕ) (k : ℕ) → k < length v
    → (get_or (encode_lower v) (2 * k) 0 ≡ high_digit (get_or v k 0))
    × (get_or (encode_lower v) (2 * k + 1) 0 ≡ low_digit (get_or v k 0))
unfolding encode_with
digits_at [] k lt = absurd (omega arith)
digits_at (b ∷ v) zero lt = (refl, refl)
digits_at (b ∷ v) (suc k) lt =
    let later = digits_at v k (omega arith) in
    let high : 2 * suc k ≡ suc (suc (2 * k)) = omega arith in
    let low : 2 * suc k + 1 ≡ suc (suc (2 * k + 1)) = omega arith in
    (rw high later.0, rw low later.1)

-- the digits of eight lanes, first and second in turn
lanes_of : (v : List ℕ) → length v ≡ 8 → encode_lower v
    ≡ high_digit (get_or v 0 0) ∷ low_digit (get_or v 0 0) ∷ high_digit (get_or v 1 0)
    ∷ low_digit (get_or v 1 0) ∷ high_digit (get_or v 2 0) ∷ low_digit (get_or v 2 0)
    ∷ high_digit (get_or v 3 0) ∷ low_digit (get_or v 3 0) ∷ high_digit (get_or v 4 0)
    ∷ low_digit (get_or v 4 0) ∷ high_digit (get_or v 5 0) ∷ low_digit (get_or v 5 0)
    ∷ high_digit (get_or v 6 0) ∷ low_digit (get_or v 6 0) ∷ high_digit (get_or v 7 0)
    ∷ low_digit (get_or v 7 0) ∷ []
unfolding encode_with
lanes_of v long = ap encode_lower (sym (pick_l_whole 0 v 8 long))

-- octets that are loaded are octets
pub fits_chunk : (octets : List ℕ) (at k : ℕ) → at + 8 ≤ length octets
    → ((j : ℕ) → Fits w8 (get_or octets j 0)) → get_or (chunk at 8 octets) k 0 < 256
fits_chunk octets at k within fits =
    elim (cases_lt k 8) [
      | inl less ↦ rw (get_or-chunk at 8 octets k 0 less) (fits (at + k)).fits
      | inr more ↦ rw (get_or_past (chunk at 8 octets) k 0
          (omega (arith, length-chunk at 8 octets within))) (omega arith)
    ]

-- the digits of an octet are those of its values
high_is : (b : ℕ) → b < 256 → digit_of (high_value b) ≡ high_digit b
high_is b lt =
    eqb-true _ _ (at_below (λ b. digit_of (high_value b) == high_digit b) 256 b refl lt)

low_is : (b : ℕ) → b < 256 → digit_of (low_value b) ≡ low_digit b
low_is b lt =
    eqb-true _ _ (at_below (λ b. digit_of (low_value b) == low_digit b) 256 b refl lt)

first_lane : (v h l : List ℕ) (k : ℕ) → length v ≡ 8 → ((k : ℕ) → get_or v k 0 < 256)
    → h ≡ map high_value v → k < 8
    → digit_of (get_or (h ++ l) k 0) ≡ high_digit (get_or v k 0)
first_lane v h l k long octets is lt =
    let size : length h ≡ 8 = ap length is ∙ length-map v high_value ∙ long in
    ap digit_of (get_or_append_left h l 0 k (omega (arith, size))
    ∙ ap (λ (xs : List ℕ). get_or xs k 0) is
    ∙ get_or-map high_value v k 0 0 (omega (arith, long)))
    ∙ high_is (get_or v k 0) (octets k)

second_lane : (v h l : List ℕ) (k j : ℕ) → length v ≡ 8 → ((k : ℕ) → get_or v k 0 < 256)
    → h ≡ map high_value v → l ≡ map low_value v → k < 8 → j ≡ 8 + k
    → digit_of (get_or (h ++ l) j 0) ≡ low_digit (get_or v k 0)
second_lane v h l k j long octets hs ls lt at =
    let size : length h ≡ 8 = ap length hs ∙ length-map v high_value ∙ long in
    let there : j - 8 ≡ k = omega arith in
    ap digit_of (get_or-append_right h l 8 j 0 size (omega arith)
    ∙ ap (λ (n : ℕ). get_or l n 0) there ∙ ap (λ (xs : List ℕ). get_or xs k 0) ls
    ∙ get_or-map low_value v k 0 0 (omega (arith, long)))
    ∙ low_is (get_or v k 0) (octets k)

-- the values of both digits of each octet in turn
abbrev pub in_turn : List ℕ → List ℕ
in_turn xs =
    get_or xs 0 0 ∷ get_or xs 8 0 ∷ get_or xs 1 0 ∷ get_or xs 9 0 ∷ get_or xs 2 0 ∷ get_or xs 10 0
    ∷ get_or xs 3 0 ∷ get_or xs 11 0 ∷ get_or xs 4 0 ∷ get_or xs 12 0 ∷ get_or xs 5 0
    ∷ get_or xs 13 0 ∷ get_or xs 6 0 ∷ get_or xs 14 0 ∷ get_or xs 7 0 ∷ get_or xs 15 0 ∷ []

pub eight_written : (v h l : List ℕ) → length v ≡ 8 → ((k : ℕ) → get_or v k 0 < 256)
    → h ≡ map high_value v → l ≡ map low_value v → map digit_of (in_turn (h ++ l)) ≡ encode_lower v
eight_written v h l long octets hs ls =
    let a : (k : ℕ) → k < 8 → digit_of (get_or (h ++ l) k 0) ≡ high_digit (get_or v k 0) =
    λ k lt. first_lane v h l k long octets hs lt in
    let b : (k j : ℕ) → k < 8 → j ≡ 8 + k
    → digit_of (get_or (h ++ l) j 0) ≡ low_digit (get_or v k 0) =
    λ k j lt at. second_lane v h l k j long octets hs ls lt at in
    rw (
      a 0 (omega arith),
      b 0 8 (omega arith) refl,
      a 1 (omega arith),
      b 1 9 (omega arith) refl,
      a 2 (omega arith),
      b 2 10 (omega arith) refl,
      a 3 (omega arith),
      b 3 11 (omega arith) refl,
      a 4 (omega arith),
      b 4 12 (omega arith) refl,
      a 5 (omega arith),
      b 5 13 (omega arith) refl,
      a 6 (omega arith),
      b 6 14 (omega arith) refl,
      a 7 (omega arith),
      b 7 15 (omega arith) refl,
    ) (sym (lanes_of v long))

-- eight octets that are written take their place, and those before them stay
pub eight_more : (octets old digits : List ℕ) (at : ℕ) → at + 8 ≤ length octets
    → length old ≡ 2 * length octets → digits ≡ encode_lower (chunk at 8 octets) → (n : ℕ)
    → at ≤ n → IsWritten octets old n → IsWritten octets (put_chunk (2 * at) old digits) (at + 8)
eight_more octets old digits at within twice are n from so_far k lt =
    let size : length digits ≡ 16 = ap length are
    ∙ length-encode_with lower_digits (chunk at 8 octets)
    ∙ ap (λ (n : ℕ). 2 * n) (length-chunk at 8 octets within) in
    elim (cases_lt k at) [
      | inl below ↦
          let was = so_far k (omega arith) in (
            get_or-put_chunk_below (2 * at) old digits (2 * k) 0 (omega arith) ∙ was.0,
            get_or-put_chunk_below (2 * at) old digits (2 * k + 1) 0 (omega arith) ∙ was.1,
          )
      | inr beyond ↦
          let place = λ (j : ℕ) (less : j < 16).
          get_or-put_chunk_at (2 * at) old digits j 0 (omega (arith, size))
          (omega (arith, size, twice))
          ∙ ap (λ (xs : List ℕ). get_or xs j 0) are in
          let high : 2 * at + 2 * (k - at) ≡ 2 * k = omega arith in
          let low : 2 * at + (2 * (k - at) + 1) ≡ 2 * k + 1 = omega arith in
          let there : at + (k - at) ≡ k = omega arith in
          let octet = get_or-chunk at 8 octets (k - at) 0 (omega arith)
          ∙ ap (λ (j : ℕ). get_or octets j 0) there in
          let both = digits_at (chunk at 8 octets) (k - at)
          (omega (arith, length-chunk at 8 octets within)) in (
            rw high at (place (2 * (k - at)) (omega arith)) ∙ both.0 ∙ ap high_digit octet,
            rw low at (place (2 * (k - at) + 1) (omega arith)) ∙ both.1 ∙ ap low_digit octet,
          )
    ]

-- all octets are written
pub all_written : (octets place : List ℕ) → length place ≡ 2 * length octets
    → IsWritten octets place (length octets) → place ≡ encode_lower octets
all_written octets place twice written =
    same_number_lists place (encode_lower octets)
    (twice ∙ sym (length-encode_with lower_digits octets))
    (λ j lt.
    let here = written (j / 2) (omega (arith, twice)) in
    let there = digits_at octets (j / 2) (omega (arith, twice)) in
    elim (cases_eq (j % 2) 0) [
      | inl even ↦
          let at : 2 * (j / 2) ≡ j = omega (arith, even) in
          rw at at here.0 ∙ sym (rw at at there.0)
      | inr odd ↦
          let at : 2 * (j / 2) + 1 ≡ j = omega (arith, odd) in
          rw at at here.1 ∙ sym (rw at at there.1)
    ])
