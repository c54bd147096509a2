-- Texts that don't begin with the mark, and the front of a text that may.
use Rattle.std.proofs.Common.{◌≡◌, ℕ, ◌<◌, ◌≤◌, false, List, [], ◌∷◌, ◌++◌, length, refl, arith}
use Rattle.std.specs.Prelude.{nat_eq}
use Rattle.std.specs.Cmp.Lexicographic.{pointwise}
use Rattle.std.specs.List.{starts_with}
use Rattle.std.proofs.lemmas.Bool.Decides.{nat_tests}
use Rattle.unmarked_input.specs.Mark.{mark, without_mark}

-- a text is whole that is shorter than the mark
pub without_mark-short : (front : List ℕ) → length front < 3
    → without_mark (front ++ []) ≡ front ++ []
without_mark-short [] short = refl
without_mark-short (a ∷ []) short = grind (arith, nat_tests)
without_mark-short (a ∷ b ∷ []) short = grind (arith, nat_tests)
without_mark-short (a ∷ b ∷ c ∷ rest) short = absurd (omega arith)

-- a text is whole whose front is neither the mark nor a part of it
pub without_mark-other : (front rest : List ℕ) → length front ≤ 3
    → pointwise nat_eq front mark ≡ false
    → (length front < 3 → starts_with nat_eq mark front ≡ false)
    → without_mark (front ++ rest) ≡ front ++ rest
without_mark-other [] rest most differs other = grind (arith, nat_tests, other (omega arith))
without_mark-other (a ∷ []) rest most differs other = grind (arith, nat_tests, other (omega arith))
without_mark-other (a ∷ b ∷ []) rest most differs other =
    grind (arith, nat_tests, other (omega arith))
without_mark-other (a ∷ b ∷ c ∷ []) rest most differs other = grind (arith, nat_tests)
without_mark-other (a ∷ b ∷ c ∷ d ∷ more) rest most differs other = absurd (omega arith)
