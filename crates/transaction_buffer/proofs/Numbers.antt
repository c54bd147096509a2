-- The number of the next sale.
use Rattle.std.proofs.Common.{◌≡◌, ℕ, ◌+◌, ◌<◌, ◌≤◌, Bool, true, false, cond, nat_lt, Option, Some}
use Rattle.std.proofs.Common.{None, IsSome, IfSome, ◌↔◌, refl, ap, ◌∙◌, arith}
use Rattle.std.proofs.lemmas.Bool.Decides.{nat_tests}
use Rattle.site_base.specs.declared.numbers.TheConstants.{GREATEST_SEQ}
use Rattle.transaction_buffer.specs.Sales.{next_after}

pub next_is : (o : Option ℕ) (n made : ℕ) → n ≡ made + 1
    → (IsSome o ↔ ((1 ≤ n) × (n ≤ GREATEST_SEQ))) → IfSome o (λ x. x ≡ n) → o ≡ next_after made
next_is None n made is valid value = by_test (nat_lt made GREATEST_SEQ) refl
  where
    by_test : (b : Bool) → nat_lt made GREATEST_SEQ ≡ b → None ≡ cond b (Some (made + 1)) None
    by_test true below =
        let less : made < GREATEST_SEQ = grind (arith, nat_tests) in
        let some : IsSome {T = ℕ} None = valid.1 (omega arith, omega arith) in cc
    by_test false above = refl
next_is (Some x) n made is valid value = by_test (nat_lt made GREATEST_SEQ) refl
  where
    by_test : (b : Bool) → nat_lt made GREATEST_SEQ ≡ b → Some x ≡ cond b (Some (made + 1)) None
    by_test true below = ap (λ k. Some k) (value ∙ is)
    by_test false above =
        let most : n ≤ GREATEST_SEQ = (valid.0 refl).1 in
        absurd (grind (arith, nat_tests))
