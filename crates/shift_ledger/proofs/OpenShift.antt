-- The figures of the open shift, as a look-up of its number shows them.
use Rattle.std.proofs.Common.{◌≡◌, ℕ, false, ◌+◌, ◌<◌, ◌^◌, ◌-◌, length, get_or, Some, List, arith}
use Rattle.std.proofs.Common.{sym, subst, ap, ◌∙◌, ◌==◌, unwrap_or}
use Rattle.std.proofs.lemmas.Bool.Decides.{nat_tests}
use Rattle.std.proofs.lemmas.Option.{unwrap_or-slice_get}
use Rattle.shift_ledger.specs.declared.row.ShiftRow.{ShiftRow}
use Rattle.site_base.specs.Members.{member}
use Rattle.site_base.proofs.Numbering.{numbered_push_here}
use Rattle.shift_ledger.specs.Figures.{till_figures, product_figure, adjusted_figure, FitsClear}
use Rattle.shift_ledger.specs.Figures.{product_cents_figure, FitsDraw}
use Rattle.shift_ledger.specs.Shifts.{Shifts, figures_of}

open_shown : (n : ℕ) (s : Shifts) → n ≡ length s.closed + 1 → figures_of n s ≡ Some s.current
open_shown n s e = ap (λ (k : ℕ). figures_of k s) e ∙ numbered_push_here s.closed s.current

-- a member's number is one more than its place
member_there : {A : Type 0} (n i : ℕ) (xs : List A) (d : A) → i + 1 ≡ n
    → unwrap_or (member n xs) d ≡ get_or xs i d
member_there n i xs d place =
    let apart : (n == 0) ≡ false = grind (arith, nat_tests) in
    let back : n - 1 ≡ i = omega arith in
    rw apart (unwrap_or-slice_get xs (n - 1) d ∙ ap (λ (k : ℕ). get_or xs k d) back)

-- where the figures shown of the open shift are small, one more clear fits
pub fits_shown : (n : ℕ) (s : Shifts) (row : ShiftRow) (t q i j ml cents : ℕ)
    → n ≡ length s.closed + 1 → figures_of n s ≡ Some row → i + 1 ≡ t → j + 1 ≡ q
    → (get_or row.tills i (0, 0)).0 + 1 < 2 ^ 64 → (get_or row.tills i (0, 0)).1 + cents < 2 ^ 64
    → get_or row.products j 0 + ml < 2 ^ 64 → get_or row.product_cents j 0 + cents < 2 ^ 64
    → FitsClear t q ml cents s.current
fits_shown n s row t q i j ml cents e shown t_place q_place clears sum volume its_cents =
    let same : Some row ≡ Some s.current = sym shown ∙ open_shown n s e in
    let is : row ≡ s.current = ap (λ x. unwrap_or x row) same in
    let till : till_figures t row ≡ get_or row.tills i (0, 0) =
    member_there t i row.tills (0, 0) t_place in
    let product : product_figure q row ≡ get_or row.products j 0 =
    member_there q j row.products 0 q_place in
    let of_product : product_cents_figure q row ≡ get_or row.product_cents j 0 =
    member_there q j row.product_cents 0 q_place in
    subst (λ (r : ShiftRow). FitsClear t q ml cents r) is (record {
      clears = subst (λ (x : ℕ × ℕ). x.0 + 1 < 2 ^ 64) (sym till) clears;
      cents_sum = subst (λ (x : ℕ × ℕ). x.1 + cents < 2 ^ 64) (sym till) sum;
      millilitres = subst (λ (x : ℕ). x + ml < 2 ^ 64) (sym product) volume;
      product_cents = subst (λ (x : ℕ). x + cents < 2 ^ 64) (sym of_product) its_cents;
    })

-- and so does one more draw
pub draw_fits_shown : (n : ℕ) (s : Shifts) (row : ShiftRow) (q j ml : ℕ)
    → n ≡ length s.closed + 1 → figures_of n s ≡ Some row → j + 1 ≡ q
    → get_or row.adjusted j 0 + ml < 2 ^ 64 → FitsDraw q ml s.current
draw_fits_shown n s row q j ml e shown place fits =
    let same : Some row ≡ Some s.current = sym shown ∙ open_shown n s e in
    let is : row ≡ s.current = ap (λ x. unwrap_or x row) same in
    let product : adjusted_figure q row ≡ get_or row.adjusted j 0 =
    member_there q j row.adjusted 0 place in
    subst (λ (r : ShiftRow). FitsDraw q ml r) is
    (subst (λ (x : ℕ). x + ml < 2 ^ 64) (sym product) fits)
