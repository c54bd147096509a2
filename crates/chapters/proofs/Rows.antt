-- Rows by their places, and more and more of them.
use Rattle.std.proofs.Common.{◌≡◌, ℕ, zero, suc, ◌+◌, ◌<◌, List, [], ◌∷◌, ◌++◌, length, take}
use Rattle.std.proofs.Common.{drop, Some, None, refl, sym, ap, ◌∙◌}
use Rattle.std.proofs.Common.{subst, arith}
use Rattle.std.specs.Prelude.{◌≤◌, slice_get}
use Rattle.std.specs.List.{AllByRecursion}
use Rattle.std.proofs.lemmas.List.{drop-append-le, length-take-le, take_all}
use Rattle.std.proofs.lemmas.Option.{none-some, same_Some}
use Rattle.site_base.specs.declared.row.Row.{Row}
use Rattle.device_map.specs.Laws.{AsksFor}
use Rattle.kept_history.specs.KeptRows.{kept_rows}
use Rattle.chapters.specs.RowText.{CanBeSpelled, row_request}
use Rattle.chapters.specs.RowText.{kept_behind}
use Rattle.chapters.proofs.Lists.{all_both}
use Rattle.chapters.proofs.Kept.{kept_both}

pub take_more : {X : Type 0} (xs : List X) (n : ℕ) (x : X) → slice_get xs n ≡ Some x
    → take (suc n) xs ≡ take n xs ++ x ∷ []
take_more [] n x is = absurd (none-some x is)
take_more (y ∷ ys) zero x is = ap (λ z. z ∷ []) (same_Some y x is)
take_more (y ∷ ys) (suc n) x is = ap (λ zs. y ∷ zs) (take_more ys n x is)

pub each_at : {X : Type 0} (P : X → Type 0) (xs : List X) (n : ℕ) (x : X) → AllByRecursion P xs
    → slice_get xs n ≡ Some x → P x
each_at P [] n x all is = absurd (none-some x is)
each_at P (y ∷ ys) zero x all is = subst P (same_Some y x is) all.0
each_at P (y ∷ ys) (suc n) x all is = each_at P ys n x all.1 is

-- there is an element at each place
pub there_is : {X : Type 0} (xs : List X) (n : ℕ) → n < length xs → slice_get xs n ≡ None → ⊥
there_is [] n within none = omega (arith, within)
there_is (y ∷ ys) zero within none = none-some y (sym none)
there_is (y ∷ ys) (suc n) within none = there_is ys n (omega (arith, within)) none

none_behind : (xs : List Row) (n : ℕ) → drop n (take n xs) ≡ []
none_behind [] zero = refl
none_behind [] (suc n) = refl
none_behind (x ∷ xs) zero = refl
none_behind (x ∷ xs) (suc n) = none_behind xs n

-- none so far
pub none_yet : (rows : List Row) (from : ℕ) → kept_behind from (take from rows) ≡ []
none_yet rows from = ap kept_rows (none_behind rows from)

pub none_spelled : (rows : List Row) (from : ℕ) → CanBeSpelled (kept_behind from (take from rows))
none_spelled rows from =
    subst (λ (rs : List Row). CanBeSpelled (kept_rows rs)) (sym (none_behind rows from)) tt

one_behind : (rows : List Row) (from n : ℕ) (r : Row) → from ≤ n → n < length rows
    → slice_get rows n ≡ Some r
    → drop from (take (n + 1) rows) ≡ drop from (take n rows) ++ r ∷ []
one_behind rows from n r high within is =
    let next : n + 1 ≡ suc n = omega arith in
    let size : length (take n rows) ≡ n = length-take-le n rows (omega (arith, within)) in
    ap (drop from) (ap (λ (m : ℕ). take m rows) next ∙ take_more rows n r is)
    ∙ drop-append-le from (take n rows) (r ∷ []) (omega (arith, size, high))

pub kept_more : (rows : List Row) (from n : ℕ) (r : Row) → from ≤ n → n < length rows
    → slice_get rows n ≡ Some r
    → kept_behind from (take (n + 1) rows)
    ≡ kept_behind from (take n rows) ++ kept_rows (r ∷ [])
kept_more rows from n r high within is =
    ap kept_rows (one_behind rows from n r high within is)
    ∙ kept_both (drop from (take n rows)) (r ∷ [])

-- one row more
pub spelled_behind : (rows : List Row) (from n : ℕ) (r : Row) → from ≤ n → n < length rows
    → slice_get rows n ≡ Some r → CanBeSpelled (kept_behind from (take n rows))
    → CanBeSpelled (kept_rows (r ∷ [])) → CanBeSpelled (kept_behind from (take (n + 1) rows))
spelled_behind rows from n r high within is spelled one =
    subst CanBeSpelled (sym (kept_more rows from n r high within is))
    (all_both (λ (x : Row). AsksFor 0 x.actor x.event (row_request x))
    (kept_behind from (take n rows)) (kept_rows (r ∷ [])) spelled one)

-- all of them
pub all_kept : (rows : List Row) (from n : ℕ) → length rows ≤ n
    → kept_behind from (take n rows) ≡ kept_behind from rows
all_kept rows from n long = ap (kept_behind from) (take_all n rows long)

pub all_spelled : (rows : List Row) (from n : ℕ) → length rows ≤ n
    → CanBeSpelled (kept_behind from (take n rows)) → CanBeSpelled (kept_behind from rows)
all_spelled rows from n long spelled =
    subst (λ (rs : List Row). CanBeSpelled (kept_behind from rs)) (take_all n rows long) spelled
