-- What a write to one bit of a set of points changes, and where its lowest bit stands.
use Rattle.std.proofs.Common.{◌≡◌, ◌≢◌, ℕ, ◌+◌, ◌-◌, ◌*◌, ◌%◌, ◌^◌, ◌<◌, ◌≤◌, true, false, not}
use Rattle.std.proofs.Common.{◌&&◌, ◌||◌, ◌==◌, IfSome, IfNone, IsSome, Option, Some, None, inl}
use Rattle.std.proofs.Common.{inr, refl, sym, ap, ◌∙◌, arith, w64}
use Rattle.std.proofs.lemmas.Bool.{cases_eq, cases_lt}
use Rattle.std.proofs.lemmas.Bool.Decides.{nat_tests}
use Rattle.std.proofs.lemmas.Nat.{and_le_l}
use Rattle.std.proofs.lemmas.Nat.Bits.{bit_at_set_same, bit_at_set_other, bit_at_clear_same}
use Rattle.std.proofs.lemmas.Nat.Bits.{bit_at_clear_other, bit_at-trailing_zeros, bit_at-zero}
use Rattle.std.specs.Prelude.{bit_and, bit_or}
use Rattle.std.specs.Int.{bit_at, bit_not, trailing_zeros}
use Rattle.site_base.specs.declared.limits.TheConstants.{POINTS}
use Rattle.site_base.specs.PointSets.{has_point, NoneBefore}

same_number : (q p : ℕ) → q ≡ p → (q == p) ≡ true
same_number q p same = grind (arith, nat_tests)

other_number : (q p : ℕ) → q ≢ p → (q == p) ≡ false
other_number q p other = grind (arith, nat_tests)

-- a set with the bit of point p
pub with_point : (set p q cell : ℕ) → cell + 1 ≡ p → cell < 64 → 1 ≤ q
    → has_point q (bit_or set (1 * 2 ^ cell % 2 ^ 64)) ≡ (q == p || has_point q set)
unfolding has_point
with_point set p q cell place within low =
    elim (cases_eq (q - 1) cell) [
      | inl same ↦
          let here : bit_at (bit_or set (1 * 2 ^ cell % 2 ^ 64)) cell ≡ 1 =
          bit_at_set_same w64 set cell within in
          let is : (q == p) ≡ true = same_number q p (omega arith) in
          rw (same, here, is) refl
      | inr other ↦
          let there : bit_at (bit_or set (1 * 2 ^ cell % 2 ^ 64)) (q - 1) ≡ bit_at set (q - 1) =
          bit_at_set_other w64 set cell within (q - 1) other in
          let is : (q == p) ≡ false = other_number q p (omega arith) in
          rw (there, is) refl
    ]

-- a set without the bit of point p
pub without_point : (set p q cell : ℕ) → cell + 1 ≡ p → cell < 64 → 1 ≤ q → q ≤ 64
    → has_point q (bit_and set (bit_not w64 (1 * 2 ^ cell % 2 ^ 64)))
    ≡ (not (q == p) && has_point q set)
unfolding has_point
without_point set p q cell place within low high =
    elim (cases_eq (q - 1) cell) [
      | inl same ↦
          let here : bit_at (bit_and set (bit_not w64 (1 * 2 ^ cell % 2 ^ 64))) cell ≡ 0 =
          bit_at_clear_same w64 set cell within in
          let is : (q == p) ≡ true = same_number q p (omega arith) in
          rw (same, here, is) refl
      | inr other ↦
          let there : bit_at (bit_and set (bit_not w64 (1 * 2 ^ cell % 2 ^ 64))) (q - 1)
          ≡ bit_at set (q - 1) =
          bit_at_clear_other w64 set cell within (q - 1) (omega arith) other in
          let is : (q == p) ≡ false = other_number q p (omega arith) in
          rw (there, is) refl
    ]

-- a member's bit is set
member_bit : (p set : ℕ) → has_point p set ≡ true → bit_at set (p - 1) ≡ 1
unfolding has_point
member_bit p set member = grind (arith, nat_tests)

bit_member : (p set : ℕ) → bit_at set (p - 1) ≡ 1 → has_point p set ≡ true
unfolding has_point
bit_member p set bit = rw bit refl

bit_none : (p set : ℕ) → bit_at set (p - 1) ≡ 0 → has_point p set ≡ false
unfolding has_point
bit_none p set bit = rw bit refl

-- a set without one of its members is a smaller number
pub fewer : (set p cell : ℕ) → cell + 1 ≡ p → cell < 64 → has_point p set ≡ true
    → bit_and set (bit_not w64 (1 * 2 ^ cell % 2 ^ 64)) < set
fewer set p cell place within member =
    let left : ℕ = bit_and set (bit_not w64 (1 * 2 ^ cell % 2 ^ 64)) in
    let gone : bit_at left cell ≡ 0 = bit_at_clear_same w64 set cell within in
    let back : p - 1 ≡ cell = omega arith in
    let had : bit_at set cell ≡ 1 = ap (bit_at set) (sym back) ∙ member_bit p set member in
    elim (cases_eq left set) [
      | inl same ↦ absurd (let both : bit_at left cell ≡ bit_at set cell =
          ap (λ x. bit_at x cell) same in omega arith)
      | inr other ↦ omega (arith, and_le_l set (bit_not w64 (1 * 2 ^ cell % 2 ^ 64)))
    ]

-- no set has a member where it is 0
pub none_in_zero : (q : ℕ) → has_point q 0 ≡ false
none_in_zero q = bit_none q 0 (bit_at-zero (q - 1))

-- the lowest bit is that of the first member
pub first_member : (set p : ℕ) → 0 < set → set < 2 ^ 64 → trailing_zeros w64 set + 1 ≡ p
    → has_point p set ≡ true
first_member set p some fits place =
    let back : p - 1 ≡ trailing_zeros w64 set = omega arith in
    bit_member p set (ap (bit_at set) back ∙ (bit_at-trailing_zeros w64 set some fits).1)

pub first_lowest : (set p : ℕ) → 0 < set → set < 2 ^ 64 → p ≤ trailing_zeros w64 set + 1
    → NoneBefore p set
first_lowest set p some fits place q low before =
    bit_none q set ((bit_at-trailing_zeros w64 set some fits).2 (q - 1) (omega arith))

-- what stands at the place of the lowest bit is the first member
pub found_member : (o : Option ℕ) (set : ℕ) → 0 < set → set < 2 ^ 64
    → IfSome o (λ p. p ≡ trailing_zeros w64 set + 1) → IfSome o (λ p. has_point p set ≡ true)
found_member None set some fits is = tt
found_member (Some p) set some fits is = first_member set p some fits (sym is)

pub found_lowest : (o : Option ℕ) (set : ℕ) → 0 < set → set < 2 ^ 64
    → IfSome o (λ p. p ≡ trailing_zeros w64 set + 1) → IfSome o (λ p. NoneBefore p set)
found_lowest None set some fits is = tt
found_lowest (Some p) set some fits is = first_lowest set p some fits (omega arith)

-- where no point has that place, no point is a member
pub found_none : (o : Option ℕ) (set : ℕ) → 0 < set → set < 2 ^ 64
    → ((1 ≤ trailing_zeros w64 set + 1) × (trailing_zeros w64 set + 1 ≤ POINTS) → IsSome o)
    → IfNone o (NoneBefore (POINTS + 1) set)
found_none None set some fits there =
    elim (cases_lt POINTS (trailing_zeros w64 set + 1)) [
      | inl beyond ↦ first_lowest set (POINTS + 1) some fits (omega arith)
      | inr within ↦ let found : IsSome {T = ℕ} None = there (omega arith, within) in cc
    ]
found_none (Some p) set some fits there = tt

-- what stands there is a point's number
pub found_range : (o : Option ℕ) (place : ℕ) → (IsSome o → (1 ≤ place) × (place ≤ POINTS))
    → IfSome o (λ p. p ≡ place) → IfSome o (λ p. (1 ≤ p) × (p ≤ POINTS))
found_range None place range is = tt
found_range (Some p) place range is = rw is (range refl)
