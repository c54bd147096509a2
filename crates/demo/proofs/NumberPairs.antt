-- Two numbers with a space between them.
use Rattle.std.proofs.Common.{◌≡◌, ℕ, suc, ◌<◌, ◌≤◌, ◌^◌, List, [], ◌∷◌, ◌++◌, get_or, refl, sym}
use Rattle.std.proofs.Common.{◌∙◌, arith, decimal, codes}
use Rattle.std.proofs.lemmas.Fmt.{decimal_is_IsNumeral}
use Rattle.std.proofs.lemmas.Str.Parse.{digit_at}
use Rattle.std.specs.Int.{IsInRange}
use Rattle.forecourt_engines.specs.Numbers.{IsWithout}
use Rattle.demo.specs.Script.{IsDispenserText}
use Rattle.forecourt_engines.proofs.Numerals.{behind_is}
use Rattle.forecourt_engines.proofs.TextParts.{digits_above, parts_are, unparted as unparted_at}

-- so a dispenser's line has just these two
pub numbers_are : (text numbers first last : List ℕ) (p polls : ℕ)
    → text ≡ codes "dispenser " ++ numbers
    → numbers ≡ first ++ (32 ∷ last) → IsWithout 32 first → IsDispenserText text p polls
    → (first ≡ decimal p) × (last ≡ decimal polls)
numbers_are text numbers first last p polls is split_at_space unspaced said =
    let behind : numbers ≡ decimal p ++ (32 ∷ decimal polls) =
    behind_is (codes "dispenser ") text numbers (decimal p ++ (32 ∷ decimal polls)) is
    said.text_is in
    parts_are 32 first last (decimal p) (decimal polls) unspaced
    (digits_above 32 p (omega arith) (omega (arith, said.most_point))) (sym split_at_space ∙ behind)

-- and there is a space
pub unparted : (text numbers : List ℕ) (p polls : ℕ) → text ≡ codes "dispenser " ++ numbers
    → IsWithout 32 numbers → ¬ IsDispenserText text p polls
unparted text numbers p polls is unspaced said =
    let behind : numbers ≡ decimal p ++ (32 ∷ decimal polls) =
    behind_is (codes "dispenser ") text numbers (decimal p ++ (32 ∷ decimal polls)) is
    said.text_is in
    unparted_at 32 (decimal p) (decimal polls) numbers behind unspaced
