-- The sale that a row clears.
use Rattle.std.proofs.Common.{◌≡◌, ◌<◌, ℕ, zero, suc, Bool, true, false, ◌||◌, List, [], ◌∷◌, Option}
use Rattle.std.proofs.Common.{ap, arith, drop, get_or, length, refl, slice_set, subst, sym, ◌∙◌}
use Rattle.std.specs.List.{list_any}
use Rattle.sales_table.specs.declared.timed_sale.SaleName.{SaleName}
use Rattle.sales_table.specs.declared.timed_sale.TimedSale.{TimedSale}
use Rattle.sales_table.specs.TimedSales.{is_named, with_clear_of}

neither : (a b : Bool) → (a || b) ≡ false → (a ≡ false) × (b ≡ false)
neither true b none = absurd (cc none)
neither false b none = (refl, none)

or_last : (a b : Bool) → b ≡ true → (a || b) ≡ true
or_last true b is = refl
or_last false b is = is

any_at : (test : TimedSale → Bool) (sales : List TimedSale) (at : ℕ) (s : TimedSale)
    → at < length sales → s ≡ get_or sales at s → test s ≡ true → list_any test sales ≡ true
any_at test [] at s few there is = absurd (omega (arith, few))
any_at test (t ∷ sales) zero s few there is =
    rw (subst (λ (x : TimedSale). test x ≡ true) there is) refl
any_at test (t ∷ sales) (suc at) s few there is =
    or_last (test t) (list_any test sales) (any_at test sales at s (omega (arith, few)) there is)

-- the sales at one place are one
pub same_there : (sales : List TimedSale) (at : ℕ) (s t : TimedSale) → at < length sales
    → s ≡ get_or sales at s → t ≡ get_or sales at t → s ≡ t
same_there [] at s t few one other = absurd (omega (arith, few))
same_there (x ∷ sales) zero s t few one other = one ∙ sym other
same_there (x ∷ sales) (suc at) s t few one other =
    same_there sales at s t (omega (arith, few)) one other

-- no sale has the name: all stay
pub none_cleared : (name : SaleName) (time : Option (List ℕ)) (sales : List TimedSale)
    → list_any (is_named name) sales ≡ false → with_clear_of name time sales ≡ sales
none_cleared name time [] none = refl
none_cleared name time (t ∷ sales) none =
    let parts = neither (is_named name t) (list_any (is_named name) sales) none in
    rw (parts.1, parts.0) refl

-- the sale at this place has it, and none behind it
pub one_cleared : (name : SaleName) (time : Option (List ℕ)) (sales : List TimedSale) (at : ℕ)
    (s : TimedSale)
    → at < length sales → s ≡ get_or sales at s → is_named name s ≡ true
    → list_any (is_named name) (drop (suc at) sales) ≡ false
    → slice_set sales at (record s { cleared_at = time }) ≡ with_clear_of name time sales
one_cleared name time [] at s few there is none = absurd (omega (arith, few))
one_cleared name time (t ∷ sales) zero s few there is none =
    let it : is_named name t ≡ true = subst (λ (x : TimedSale). is_named name x ≡ true) there is in
    subst
    (λ (x : TimedSale). slice_set (t ∷ sales) zero (record x { cleared_at = time })
    ≡ with_clear_of name time (t ∷ sales))
    (sym there) (rw (none, it) refl)
one_cleared name time (t ∷ sales) (suc at) s few there is none =
    let behind : list_any (is_named name) sales ≡ true =
    any_at (is_named name) sales at s (omega (arith, few)) there is in
    rw behind
    (ap (λ (ts : List TimedSale). t ∷ ts)
    (one_cleared name time sales at s (omega (arith, few)) there is none))
