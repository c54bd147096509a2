-- Prices stay in range.
use Rattle.std.proofs.Common.{◌≡◌, ℕ, zero, suc, ◌≤◌, List, [], ◌∷◌, ◌++◌, Bool, true, refl, arith}
use Rattle.std.specs.Prelude.{◌&&◌}
use Rattle.std.proofs.lemmas.Bool.{and_parts}
use Rattle.std.proofs.lemmas.Bool.Decides.{nat_tests}
use Rattle.std.proofs.Math.ListN.{set}
use Rattle.site_base.specs.declared.amounts.TheConstants.{GREATEST_PRICE}
use Rattle.site_base.specs.Ranges.{is_between}
use Rattle.site_base.specs.Prices.{are_in_range}

fits : (m : ℕ) → 1 ≤ m → m ≤ GREATEST_PRICE → is_between 1 GREATEST_PRICE m ≡ true
fits m low high = grind (arith, nat_tests)

both : (a b : Bool) → a ≡ true → b ≡ true → (a && b) ≡ true
both a b p q = rw (p, q) refl

-- one more price
pub in_range-push : (ps : List (ℕ × ℕ)) (q m : ℕ) → are_in_range ps ≡ true → 1 ≤ m
    → m ≤ GREATEST_PRICE → are_in_range (ps ++ (q, m) ∷ []) ≡ true
in_range-push [] q m all low high = both (is_between 1 GREATEST_PRICE m) true (fits m low high) refl
in_range-push (p ∷ ps) q m all low high =
    let parts = and_parts (is_between 1 GREATEST_PRICE p.1) (are_in_range ps) all in
    both (is_between 1 GREATEST_PRICE p.1) (are_in_range (ps ++ (q, m) ∷ [])) parts.0
    (in_range-push ps q m parts.1 low high)

-- a price in another's place
pub in_range-set : (ps : List (ℕ × ℕ)) (i q m : ℕ) → are_in_range ps ≡ true → 1 ≤ m
    → m ≤ GREATEST_PRICE → are_in_range (set ps i (q, m)) ≡ true
in_range-set [] i q m all low high = refl
in_range-set (p ∷ ps) zero q m all low high =
    let parts = and_parts (is_between 1 GREATEST_PRICE p.1) (are_in_range ps) all in
    both (is_between 1 GREATEST_PRICE m) (are_in_range ps) (fits m low high) parts.1
in_range-set (p ∷ ps) (suc i) q m all low high =
    let parts = and_parts (is_between 1 GREATEST_PRICE p.1) (are_in_range ps) all in
    both (is_between 1 GREATEST_PRICE p.1) (are_in_range (set ps i (q, m))) parts.0
    (in_range-set ps i q m parts.1 low high)
