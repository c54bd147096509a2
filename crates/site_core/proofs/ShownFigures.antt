-- What a look-up of a shift shows, by the sales and the draws.
use Rattle.std.proofs.Common.{◌≡◌, ℕ, zero, suc, ◌+◌, ◌-◌, ◌≤◌, List, [], ◌∷◌, ◌++◌, map, length}
use Rattle.std.proofs.Common.{Option, Some, None, option_map, unwrap_or, refl, sym, ap, subst, ◌∙◌}
use Rattle.std.proofs.Common.{arith}
use Rattle.std.specs.List.{All, fold, range_with_len, slice_get, sum_by}
use Rattle.std.proofs.lemmas.List.{ext_get_or}
use Rattle.std.proofs.lemmas.List.Elements.{All-append}
use Rattle.std.proofs.lemmas.List.FromFn.{get_or-map-range_with_len, length-map-range_with_len}
use Rattle.std.proofs.lemmas.Option.{get_or_from_slice_get, slice_get_within}
use Rattle.site_base.specs.declared.limits.TheConstants.{PRODUCTS, TILLS}
use Rattle.site_base.specs.Members.{member}
use Rattle.site_base.proofs.Numbering.{numbered_map, numbered_place}
use Rattle.shift_ledger.specs.declared.row.ShiftRow.{ShiftRow}
use Rattle.shift_ledger.specs.Figures.{empty_figures, product_figure, product_cents_figure}
use Rattle.shift_ledger.specs.Figures.{till_figures}
use Rattle.shift_ledger.specs.Laws.{HaveRows, IsRow}
use Rattle.shift_ledger.specs.Shifts.{Shifts, figures_of}
use Rattle.transaction_buffer.specs.Sales.{Sales}
use Rattle.written_site.specs.ShiftFigures.{cleared_in, product_cents_in, takings_in, tills}
use Rattle.site_core.specs.Accounts.{AreFigures, draws_of, figures_in, products, row_in, shift_row}
use Rattle.site_core.specs.Accounts.{takings_of}
use Rattle.site_core.proofs.NumberedCells.{member_at}

-- ---- a row has every figure

alone : (row : ShiftRow) → IsRow row → All IsRow (row ∷ [])
alone row is zero d within = is
alone row is (suc k) d within = absurd (omega arith)

-- a member of a list whose members all are so
each_numbered : (P : ShiftRow → Type 0) (n : ℕ) (rows : List ShiftRow) (row : ShiftRow)
    → All P rows → member n rows ≡ Some row → P row
each_numbered P zero rows row all is = cc
each_numbered P (suc n) rows row all is =
    let there : slice_get rows (suc n - 1) ≡ Some row =
    sym (numbered_place (suc n) rows (omega arith)) ∙ is in
    subst P (get_or_from_slice_get rows (suc n - 1) row row there)
    (all (suc n - 1) row (slice_get_within rows (suc n - 1) row there))

row_is : (n : ℕ) (shifts : Shifts) (row : ShiftRow) → HaveRows shifts
    → figures_of n shifts ≡ Some row → IsRow row
row_is n shifts row rows shown =
    each_numbered IsRow n (shifts.closed ++ shifts.current ∷ []) row
    (All-append IsRow shifts.closed (shifts.current ∷ []) rows.closed
    (alone shifts.current rows.current)) shown

-- ---- a list of so many figures is known by its figures

known : {A : Type 0} (d : A) (f : ℕ → A) (count : ℕ) (xs : List A) → length xs ≡ count
    → ((n : ℕ) → 1 ≤ n → n ≤ count → unwrap_or (member n xs) d ≡ f n)
    → xs ≡ map f (range_with_len 1 count)
known d f count xs size figures =
    ext_get_or d xs (map f (range_with_len 1 count))
    (size ∙ sym (length-map-range_with_len f 1 count))
    (λ i within.
    sym (member_at (i + 1) i xs d refl)
    ∙ figures (i + 1) (omega arith) (omega (arith, size, within))
    ∙ sym (get_or-map-range_with_len f 1 count i (i + 1) d (omega (arith, size, within))
    (omega arith)))

-- ---- the row of a shift

pub till_cells : (n : ℕ) (sales : Sales) (shifts : Shifts) (totals : List (ℕ × ℕ))
    (row : ShiftRow) → AreFigures sales shifts totals → figures_of n shifts ≡ Some row
    → row.tills ≡ map (takings_of n sales) tills
till_cells n sales shifts totals row kept shown =
    let own : row_in n shifts ≡ row = ap (λ o. unwrap_or o empty_figures) shown in
    known (0, 0) (takings_of n sales) TILLS row.tills
    (row_is n shifts row kept.rows shown).tills
    (λ t low high. ap (till_figures t) (sym own) ∙ kept.clears n t low high)

product_cells : (n : ℕ) (sales : Sales) (shifts : Shifts) (totals : List (ℕ × ℕ))
    (row : ShiftRow) → AreFigures sales shifts totals → figures_of n shifts ≡ Some row
    → row.products ≡ map (λ q. cleared_in n q sales) products
product_cells n sales shifts totals row kept shown =
    let own : row_in n shifts ≡ row = ap (λ o. unwrap_or o empty_figures) shown in
    known 0 (λ q. cleared_in n q sales) PRODUCTS row.products
    (row_is n shifts row kept.rows shown).products
    (λ q low high. ap (product_figure q) (sym own) ∙ kept.cleared n q low high)

product_cents_cells : (n : ℕ) (sales : Sales) (shifts : Shifts) (totals : List (ℕ × ℕ))
    (row : ShiftRow) → AreFigures sales shifts totals → figures_of n shifts ≡ Some row
    → row.product_cents ≡ map (λ q. product_cents_in n q sales) products
product_cents_cells n sales shifts totals row kept shown =
    let own : row_in n shifts ≡ row = ap (λ o. unwrap_or o empty_figures) shown in
    known 0 (λ q. product_cents_in n q sales) PRODUCTS row.product_cents
    (row_is n shifts row kept.rows shown).product_cents
    (λ q low high. ap (product_cents_figure q) (sym own) ∙ kept.product_cents n q low high)

pub row_shown : (n : ℕ) (sales : Sales) (shifts : Shifts) (totals : List (ℕ × ℕ))
    → AreFigures sales shifts totals → figures_of n shifts ≡ shift_row n sales (draws_of shifts)
row_shown n sales shifts totals kept =
    by_row (figures_of n shifts) refl
    ∙ sym (ap (option_map (figures_in n sales))
    (numbered_map (λ row. row.adjusted) n (shifts.closed ++ shifts.current ∷ [])))
  where
    by_row : (o : Option ShiftRow) → figures_of n shifts ≡ o
        → figures_of n shifts
        ≡ option_map (figures_in n sales) (option_map (λ row. row.adjusted) (figures_of n shifts))
    by_row None none = rw none refl
    by_row (Some row) shown =
        let is : row ≡ figures_in n sales row.adjusted =
        ap (λ cells. record {
          tills = cells;
          products = row.products;
          product_cents = row.product_cents;
          adjusted = row.adjusted;
        }) (till_cells n sales shifts totals row kept shown)
        ∙ ap (λ cells. record {
          tills = map (takings_of n sales) tills;
          products = cells;
          product_cents = row.product_cents;
          adjusted = row.adjusted;
        }) (product_cells n sales shifts totals row kept shown)
        ∙ ap (λ cells. record {
          tills = map (takings_of n sales) tills;
          products = map (λ q. cleared_in n q sales) products;
          product_cents = cells;
          adjusted = row.adjusted;
        }) (product_cents_cells n sales shifts totals row kept shown) in
        rw shown (ap Some is)

-- the draws of a shift are those that its figures have
pub draws_shown : (n : ℕ) (sales : Sales) (draws : Option (List ℕ))
    → option_map (λ row. row.adjusted) (option_map (figures_in n sales) draws) ≡ draws
draws_shown n sales None = refl
draws_shown n sales (Some row) = refl

-- ---- the cents of all tills

fold_map : {X Y : Type 0} (f : X → Y) (g : Y → ℕ) (xs : List X) (n : ℕ)
    → fold (λ a y. a + g y) n (map f xs) ≡ fold (λ a x. a + g (f x)) n xs
fold_map f g [] n = refl
fold_map f g (x ∷ xs) n = fold_map f g xs (n + g (f x))

pub takings_shown : (n : ℕ) (sales : Sales) (shifts : Shifts) (totals : List (ℕ × ℕ))
    (row : ShiftRow) → AreFigures sales shifts totals → figures_of n shifts ≡ Some row
    → sum_by (λ (e : ℕ × ℕ). e.1) row.tills ≡ takings_in n sales
takings_shown n sales shifts totals row kept shown =
    ap (sum_by (λ (e : ℕ × ℕ). e.1)) (till_cells n sales shifts totals row kept shown)
    ∙ fold_map (takings_of n sales) (λ (e : ℕ × ℕ). e.1) tills 0
