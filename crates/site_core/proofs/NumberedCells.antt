-- A cell of a table, by the number that it stands for.
use Rattle.std.proofs.Common.{◌≡◌, ℕ, ◌+◌, ◌-◌, ◌==◌, false, List, get_or, unwrap_or, ap, ◌∙◌}
use Rattle.std.proofs.Common.{arith}
use Rattle.std.proofs.lemmas.Bool.Decides.{nat_tests}
use Rattle.std.proofs.lemmas.Option.{unwrap_or-slice_get}
use Rattle.site_base.specs.Members.{member}

-- a member's number is one more than its place
pub member_at : {A : Type 0} (n i : ℕ) (xs : List A) (d : A) → i + 1 ≡ n
    → unwrap_or (member n xs) d ≡ get_or xs i d
member_at n i xs d place =
    let apart : (n == 0) ≡ false = grind (arith, nat_tests) in
    let back : n - 1 ≡ i = omega arith in
    rw apart (unwrap_or-slice_get xs (n - 1) d ∙ ap (λ (k : ℕ). get_or xs k d) back)
