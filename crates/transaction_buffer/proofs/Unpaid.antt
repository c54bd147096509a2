-- How many sales are unpaid.
use Rattle.std.proofs.Common.{◌≡◌, ℕ, Bool, true, false, cond, zero, suc, ◌+◌, ◌<◌, ◌≤◌, List, []}
use Rattle.std.proofs.Common.{◌∷◌, ◌++◌, length, get_or, map, Some, refl, sym, ap, ◌∙◌, arith}
use Rattle.std.proofs.Math.ListN.{set}
use Rattle.transaction_buffer.specs.declared.standing.Standing.{Standing}
use Rattle.transaction_buffer.specs.declared.standing.Standing.TheVariants.{Payable, LockedBy}
use Rattle.transaction_buffer.specs.declared.standing.Standing.TheVariants.{ClearedBy}
use Rattle.transaction_buffer.specs.Sales.{Sale, sale_in, with_in, is_unpaid, unpaid_among}
use Rattle.transaction_buffer.specs.Sums.{sum_among}
use Rattle.transaction_buffer.proofs.InShift.{with_sum}
use Rattle.transaction_buffer.specs.TransactionTable.{unlock_all_of, is_locked_by}

at_most_one : (b : Bool) → cond b 1 0 ≤ 1
at_most_one true = omega arith
at_most_one false = omega arith

one : (b : Bool) → b ≡ true → 1 ≤ cond b 1 0
one true is = omega arith
one false is = cc

-- one more sale
pub unpaid_pushed : (xs : List Sale) (y : Sale)
    → unpaid_among (xs ++ y ∷ []) ≡ unpaid_among xs + cond (is_unpaid y.standing) 1 0
unpaid_pushed [] y = omega arith
unpaid_pushed (x ∷ xs) y = omega (arith, unpaid_pushed xs y)

pub unpaid_push : (xs : List Sale) (y : Sale) → unpaid_among (xs ++ y ∷ []) ≤ unpaid_among xs + 1
unpaid_push xs y = omega (arith, unpaid_pushed xs y, at_most_one (is_unpaid y.standing))

abbrev one_if_unpaid : Sale → ℕ
one_if_unpaid x = cond (is_unpaid x.standing) 1 0

unpaid_sum : (xs : List Sale) → unpaid_among xs ≡ sum_among one_if_unpaid xs
unpaid_sum [] = refl
unpaid_sum (x ∷ xs) = ap (λ (n : ℕ). one_if_unpaid x + n) (unpaid_sum xs)

-- any sale in the place of an unpaid one
pub unpaid_set : (xs : List Sale) (i : ℕ) (y d : Sale) → i < length xs
    → is_unpaid (get_or xs i d).standing ≡ true
    → unpaid_among (set xs i y) ≤ unpaid_among xs
unpaid_set [] i y d within is = absurd (omega arith)
unpaid_set (x ∷ xs) zero y d within is =
    omega (arith, one (is_unpaid x.standing) is, at_most_one (is_unpaid y.standing))
unpaid_set (x ∷ xs) (suc i) y d within is =
    let rest : unpaid_among (set xs i y) ≤ unpaid_among xs = unpaid_set xs i y d (omega arith) is in
    omega arith

locked_unpaid : (t : ℕ) (standing : Standing) → is_locked_by t standing ≡ true
    → is_unpaid standing ≡ true
locked_unpaid t Payable is = refl
locked_unpaid t (LockedBy u) is = refl
locked_unpaid t (ClearedBy u n) is = cc

-- a sale that the till has locked is unpaid, and so is a payable one
same_unpaid : (t : ℕ) (x : Sale) (locked : Bool) → is_locked_by t x.standing ≡ locked
    → is_unpaid (cond locked (record x { standing = Payable }) x).standing ≡ is_unpaid x.standing
same_unpaid t x true is = sym (locked_unpaid t x.standing is)
same_unpaid t x false is = refl

-- a sign-off leaves a sale unpaid or paid
pub unlock_unpaid : (t : ℕ) (x : Sale)
    → is_unpaid (unlock_all_of t x).standing ≡ is_unpaid x.standing
unlock_unpaid t x = same_unpaid t x (is_locked_by t x.standing) refl

-- what a sign-off lets go stays unpaid
pub unpaid_let_go : (t : ℕ) (xs : List Sale)
    → unpaid_among (map (unlock_all_of t) xs) ≡ unpaid_among xs
unpaid_let_go t [] = refl
unpaid_let_go t (x ∷ xs) =
    ap (λ (b : Bool). cond b 1 0 + unpaid_among (map (unlock_all_of t) xs))
    (same_unpaid t x (is_locked_by t x.standing) refl)
    ∙ ap (λ (n : ℕ). cond (is_unpaid x.standing) 1 0 + n) (unpaid_let_go t xs)

-- how many are unpaid, once a sale is in the place of an unpaid one
pub unpaid_put : (xs : List Sale) (i : ℕ) (y d : Sale) → i < length xs
    → is_unpaid (get_or xs i d).standing ≡ true
    → unpaid_among (set xs i y) + 1 ≡ unpaid_among xs + cond (is_unpaid y.standing) 1 0
unpaid_put [] i y d within is = absurd (omega arith)
unpaid_put (x ∷ xs) zero y d within is =
    let was : one_if_unpaid x ≡ 1 = ap (λ (b : Bool). cond b 1 0) is in
    omega (arith, was)
unpaid_put (x ∷ xs) (suc i) y d within is =
    let rest : unpaid_among (set xs i y) + 1 ≡ unpaid_among xs + cond (is_unpaid y.standing) 1 0 =
    unpaid_put xs i y d (omega arith) is in
    omega (arith, rest)

-- the same of the sale of its shift and number
pub unpaid_moved : (h n : ℕ) (xs : List Sale) (x y : Sale) → sale_in h n xs ≡ Some x
    → is_unpaid x.standing ≡ true
    → unpaid_among (with_in h n y xs) + 1 ≡ unpaid_among xs + cond (is_unpaid y.standing) 1 0
unpaid_moved h n xs x y is unpaid =
    let all = unpaid_sum xs in
    let new = unpaid_sum (with_in h n y xs) in
    let moved = with_sum one_if_unpaid h n xs x y is in
    let was : one_if_unpaid x ≡ 1 = ap (λ (b : Bool). cond b 1 0) unpaid in
    omega (arith, all, new, moved, was)

-- any sale in the place of the unpaid one of its shift and number
pub unpaid_with : (h n : ℕ) (xs : List Sale) (x y : Sale) → sale_in h n xs ≡ Some x
    → is_unpaid x.standing ≡ true → unpaid_among (with_in h n y xs) ≤ unpaid_among xs
unpaid_with h n xs x y is unpaid =
    let all = unpaid_sum xs in
    let new = unpaid_sum (with_in h n y xs) in
    let moved = with_sum one_if_unpaid h n xs x y is in
    let was : one_if_unpaid x ≡ 1 = ap (λ (b : Bool). cond b 1 0) unpaid in
    omega (arith, all, new, moved, was, at_most_one (is_unpaid y.standing))
