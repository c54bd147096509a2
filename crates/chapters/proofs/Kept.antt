-- The rows that are kept.
use Rattle.std.proofs.Common.{◌≡◌, ℕ, Bool, true, false, not, List, [], ◌∷◌, ◌++◌, length}
use Rattle.std.proofs.Common.{take, drop, refl, sym, ap, ◌∙◌, arith}
use Rattle.std.specs.Prelude.{if◌then◌else◌}
use Rattle.std.proofs.lemmas.List.{take-append-drop}
use Rattle.std.proofs.lemmas.List.Elements.{filter-append}
use Rattle.site_base.specs.declared.row.Row.{Row}
use Rattle.kept_history.specs.KeptRows.{is_kept, is_read, kept_rows}
use Rattle.site_book.proofs.Books.{kept_few}

-- what is kept is kept again
pub kept_again : (rows : List Row) → kept_rows (kept_rows rows) ≡ kept_rows rows
kept_again [] = refl
kept_again (r ∷ rows) = by_test (is_kept r) refl (kept_again rows)
  where
    by_test : (kept : Bool) → is_kept r ≡ kept
        → kept_rows (kept_rows rows) ≡ kept_rows rows
        → kept_rows (if kept then r ∷ kept_rows rows else kept_rows rows)
        ≡ (if kept then r ∷ kept_rows rows else kept_rows rows)
    by_test true is rest = rw is (ap (λ (rs : List Row). r ∷ rs) rest)
    by_test false is rest = rest

same_rest : (r s : Row) (xs ys : List Row) → r ∷ xs ≡ s ∷ ys → xs ≡ ys
same_rest r s xs ys is = ap rest is
  where
    rest : List Row → List Row
    rest [] = []
    rest (z ∷ zs) = zs

-- where all are kept, the first one is, and the others
pub kept_apart : (r : Row) (rows : List Row) → kept_rows (r ∷ rows) ≡ r ∷ rows
    → (is_kept r ≡ true) × (kept_rows rows ≡ rows)
kept_apart r rows all = by_test (is_kept r) refl all
  where
    by_test : (kept : Bool) → is_kept r ≡ kept
        → (if kept then r ∷ kept_rows rows else kept_rows rows) ≡ r ∷ rows
        → (is_kept r ≡ true) × (kept_rows rows ≡ rows)
    by_test true is all = (is, same_rest r r (kept_rows rows) rows all)
    by_test false is all =
        let size = ap (λ (rs : List Row). length rs) all in
        absurd (omega (arith, size, kept_few rows))

-- of some rows, and of more
pub kept_both : (a b : List Row) → kept_rows (a ++ b) ≡ kept_rows a ++ kept_rows b
kept_both a b = filter-append is_kept a b

-- of the first rows, and of those behind them
pub kept_parts : (n : ℕ) (rows : List Row)
    → kept_rows rows ≡ kept_rows (take n rows) ++ kept_rows (drop n rows)
kept_parts n rows =
    ap kept_rows (sym (take-append-drop n rows)) ∙ kept_both (take n rows) (drop n rows)

-- one that isn't kept is a read
pub kept_one : (r : Row) (kept : Bool) → is_kept r ≡ kept
    → kept_rows (r ∷ []) ≡ (if kept then r ∷ [] else [])
kept_one r kept is = ap (λ (b : Bool). if b then r ∷ [] else []) is

pub no_read : (r : Row) → is_kept r ≡ true → is_read r.event ≡ false
no_read r is = by_test (is_read r.event) is
  where
    by_test : (read : Bool) → not read ≡ true → read ≡ false
    by_test false is = refl
    by_test true is = absurd cc
