-- Receipts as a list keeps them: their places, and their rows.
use Rattle.std.proofs.Common.{◌≡◌, ℕ, zero, suc, ◌<◌, ◌≤◌, List, [], ◌∷◌, ◌++◌, length, get_or}
use Rattle.std.proofs.Common.{Some, None, slice_get, refl, ap, arith}
use Rattle.site_base.specs.declared.row.Row.{Row}
use Rattle.counter_desk.specs.Receipts.{receipt_at, receipts_at}

-- there are as many receipts as places
pub as_many : (places : List ℕ) (rows : List Row) → length places ≡ length rows
    → length (receipts_at places rows) ≡ length places
unfolding receipts_at
as_many [] rows same = refl
as_many (place ∷ places) [] same = absurd (omega (arith, same))
as_many (place ∷ places) (row ∷ rows) same = ap suc (as_many places rows (omega (arith, same)))

-- one more at the end
pub one_more : (places : List ℕ) (rows : List Row) (place : ℕ) (row : Row)
    → length places ≡ length rows
    → receipts_at (places ++ place ∷ []) (rows ++ row ∷ [])
    ≡ receipts_at places rows ++ receipt_at place row ∷ []
unfolding receipts_at
one_more [] [] place row same = refl
one_more [] (r ∷ rows) place row same = absurd (omega (arith, same))
one_more (p ∷ places) [] place row same = absurd (omega (arith, same))
one_more (p ∷ places) (r ∷ rows) place row same =
    ap (λ rest. receipt_at p r ∷ rest) (one_more places rows place row (omega (arith, same)))

-- what stands at an index
pub there : (places : List ℕ) (rows : List Row) (i place : ℕ) (row : Row)
    → i < length places → place ≡ get_or places i place → slice_get rows i ≡ Some row
    → slice_get (receipts_at places rows) i ≡ Some (receipt_at place row)
unfolding receipts_at
there [] rows i place row within at_place at_row = absurd (omega (arith, within))
there (p ∷ places) [] i place row within at_place at_row = cc
there (p ∷ places) (r ∷ rows) zero place row within at_place at_row = cc
there (p ∷ places) (r ∷ rows) (suc i) place row within at_place at_row =
    there places rows i place row (omega (arith, within)) at_place at_row

pub no_place : (places : List ℕ) (rows : List Row) (i : ℕ) → length places ≤ i
    → slice_get (receipts_at places rows) i ≡ None
unfolding receipts_at
no_place [] rows i beyond = refl
no_place (p ∷ places) [] i beyond = refl
no_place (p ∷ places) (r ∷ rows) zero beyond = absurd (omega (arith, beyond))
no_place (p ∷ places) (r ∷ rows) (suc i) beyond = no_place places rows i (omega (arith, beyond))

pub no_row : (places : List ℕ) (rows : List Row) (i : ℕ) → slice_get rows i ≡ None
    → slice_get (receipts_at places rows) i ≡ None
unfolding receipts_at
no_row [] rows i none = refl
no_row (p ∷ places) [] i none = refl
no_row (p ∷ places) (r ∷ rows) zero none = cc
no_row (p ∷ places) (r ∷ rows) (suc i) none = no_row places rows i none
