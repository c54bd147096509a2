-- What holds of the shifts by their definitions, whatever is cleared, drawn and closed.
use Rattle.std.specs.Prelude.{◌≡◌, ℕ, ◌+◌, ◌<◌, ◌≤◌, List, [], ◌∷◌, length, sum_by, Some, ◌==◌}
use Rattle.std.specs.Prelude.{if◌then◌else◌}
use Rattle.std.specs.List.{All, AllByRecursion}
use Rattle.site_base.specs.declared.limits.TheConstants.{TILL_CELLS, PRODUCT_CELLS}
use Rattle.shift_ledger.specs.declared.row.ShiftRow.{ShiftRow}
use Rattle.shift_ledger.specs.Figures.{till_figures, product_figure, adjusted_figure}
use Rattle.shift_ledger.specs.Figures.{one_clear_more, product_cents_figure}
use Rattle.shift_ledger.specs.Shifts.{Shifts, first_shift, open_number, figures_of, after_close}
use Rattle.shift_ledger.specs.Shifts.{after_clear, after_draw}

-- what changes the shifts: a clear by a till, of a product, so many millilitres and cents; a draw
-- of a product, so many millilitres; a close
pub data ShiftChange : Type 0 where
  clears : ℕ → ℕ → ℕ → ℕ → ShiftChange
  draws : ℕ → ℕ → ShiftChange
  closes : ShiftChange

-- the shifts after it
abbrev pub after_change : ShiftChange → Shifts → Shifts
after_change (clears t q ml cents) s = after_clear t q ml cents s
after_change (draws q ml) s = after_draw q ml s
after_change closes s = after_close s

-- the shifts after these, one after another
abbrev pub after_changes : List ShiftChange → Shifts → Shifts
after_changes [] s = s
after_changes (change ∷ changes) s = after_changes changes (after_change change s)

-- a row has a figure for every till and every product
pub record IsRow (row : ShiftRow) : Type 0 where
  pub tills : length row.tills ≡ TILL_CELLS
  pub products : length row.products ≡ PRODUCT_CELLS
  pub product_cents : length row.product_cents ≡ PRODUCT_CELLS
  pub adjusted : length row.adjusted ≡ PRODUCT_CELLS

-- so have the rows of the closed shifts and of the open one
pub record HaveRows (s : Shifts) : Type 0 where
  pub closed : All IsRow s.closed
  pub current : IsRow s.current

-- What a clear does to the open shift's figures. Its till's count rises by one and that till's
-- cents by its own; its product's millilitres and cents rise by its own. Every other till's and
-- product's stay, and so does what tests drew.
pub record IsCounted : Type 0 where
  pub by_till : (t q ml cents u : ℕ) (s : Shifts) → IsRow s.current → 1 ≤ t → t ≤ TILL_CELLS
      → till_figures u (after_clear t q ml cents s).current
      ≡ (if u == t then one_clear_more cents (till_figures t s.current)
      else till_figures u s.current)
  pub by_product : (t q ml cents r : ℕ) (s : Shifts) → IsRow s.current → 1 ≤ q → q ≤ PRODUCT_CELLS
      → product_figure r (after_clear t q ml cents s).current
      ≡ (if r == q then product_figure q s.current + ml else product_figure r s.current)
  pub product_cents : (t q ml cents r : ℕ) (s : Shifts) → IsRow s.current → 1 ≤ q
      → q ≤ PRODUCT_CELLS
      → product_cents_figure r (after_clear t q ml cents s).current
      ≡ (if r == q then product_cents_figure q s.current + cents
      else product_cents_figure r s.current)
  pub drawn : (t q ml cents r : ℕ) (s : Shifts)
      → adjusted_figure r (after_clear t q ml cents s).current ≡ adjusted_figure r s.current
  pub number : (t q ml cents : ℕ) (s : Shifts)
      → open_number (after_clear t q ml cents s) ≡ open_number s

-- What a draw does to the open shift's figures. Its product's millilitres drawn rise by its own;
-- every other product's stay, and so does all that was cleared.
pub record IsDrawn : Type 0 where
  pub by_product : (q ml r : ℕ) (s : Shifts) → IsRow s.current → 1 ≤ q → q ≤ PRODUCT_CELLS
      → adjusted_figure r (after_draw q ml s).current
      ≡ (if r == q then adjusted_figure q s.current + ml else adjusted_figure r s.current)
  pub tills : (q ml u : ℕ) (s : Shifts)
      → till_figures u (after_draw q ml s).current ≡ till_figures u s.current
  pub cleared : (q ml r : ℕ) (s : Shifts)
      → product_figure r (after_draw q ml s).current ≡ product_figure r s.current
  pub product_cents : (q ml r : ℕ) (s : Shifts)
      → product_cents_figure r (after_draw q ml s).current ≡ product_cents_figure r s.current
  pub number : (q ml : ℕ) (s : Shifts) → open_number (after_draw q ml s) ≡ open_number s

-- The open shift's row is shown under its number, and a close leaves it there as it was; the next
-- number is open then. The row of a closed shift stays, whatever is cleared, drawn and closed
-- later.
pub record DoStay : Type 0 where
  pub shown : (s : Shifts) → figures_of (open_number s) s ≡ Some s.current
  pub joins : (s : Shifts) → figures_of (open_number s) (after_close s) ≡ Some s.current
  pub next : (s : Shifts) → open_number (after_close s) ≡ open_number s + 1
  pub closed : (changes : List ShiftChange) (n : ℕ) (s : Shifts) → n < open_number s
      → figures_of n (after_changes changes s) ≡ figures_of n s

-- shift 1, and each that a close opens, has nothing for any till or product
pub record IsOpenedEmpty : Type 0 where
  pub first_till : (t : ℕ) → till_figures t first_shift.current ≡ (0, 0)
  pub first_product : (q : ℕ) → product_figure q first_shift.current ≡ 0
  pub first_product_cents : (q : ℕ) → product_cents_figure q first_shift.current ≡ 0
  pub first_drawn : (q : ℕ) → adjusted_figure q first_shift.current ≡ 0
  pub till : (t : ℕ) (s : Shifts) → till_figures t (after_close s).current ≡ (0, 0)
  pub product : (q : ℕ) (s : Shifts) → product_figure q (after_close s).current ≡ 0
  pub product_cents : (q : ℕ) (s : Shifts) → product_cents_figure q (after_close s).current ≡ 0
  pub drawn : (q : ℕ) (s : Shifts) → adjusted_figure q (after_close s).current ≡ 0

-- the rows of the first shift have every figure, and each change leaves rows that have
pub record HasEveryFigure : Type 0 where
  pub first : HaveRows first_shift
  pub after : (change : ShiftChange) (s : Shifts) → HaveRows s → HaveRows (after_change change s)

-- ---- each shift's figures are sums

-- it speaks of tills and products that there may be
abbrev pub IsInRange : ShiftChange → Type 0
IsInRange (clears t q ml cents) = (1 ≤ t) × (t ≤ TILL_CELLS) × (1 ≤ q) × (q ≤ PRODUCT_CELLS)
IsInRange (draws q ml) = (1 ≤ q) × (q ≤ PRODUCT_CELLS)
IsInRange closes = Unit {0}

-- what of these was noted while shift n was open, where this shift is open before them
abbrev pub noted_in : ℕ → ℕ → List ShiftChange → List ShiftChange
noted_in n opened [] = []
noted_in n opened (closes ∷ changes) = noted_in n (opened + 1) changes
noted_in n opened (change ∷ changes) =
    if n == opened then change ∷ noted_in n opened changes else noted_in n opened changes

-- 1 of a clear by this till, 0 of any other change
abbrev pub clear_noted : ℕ → ShiftChange → ℕ
clear_noted u (clears t q ml cents) = if u == t then 1 else 0
clear_noted u change = 0

-- the cents of a clear by this till
abbrev pub cents_noted : ℕ → ShiftChange → ℕ
cents_noted u (clears t q ml cents) = if u == t then cents else 0
cents_noted u change = 0

-- the millilitres of a clear of this product
abbrev pub clear_of : ℕ → ShiftChange → ℕ
clear_of r (clears t q ml cents) = if r == q then ml else 0
clear_of r change = 0

-- the cents of a clear of this product
abbrev pub product_cents_noted : ℕ → ShiftChange → ℕ
product_cents_noted r (clears t q ml cents) = if r == q then cents else 0
product_cents_noted r change = 0

-- the millilitres of a draw of this product
abbrev pub draw_of : ℕ → ShiftChange → ℕ
draw_of r (draws q ml) = if r == q then ml else 0
draw_of r change = 0

-- a row's figures are the counts and sums of what was noted
pub record IsSumOf (noted : List ShiftChange) (row : ShiftRow) : Type 0 where
  pub clears : (t : ℕ) → (till_figures t row).0 ≡ sum_by (clear_noted t) noted
  pub cents : (t : ℕ) → (till_figures t row).1 ≡ sum_by (cents_noted t) noted
  pub products : (q : ℕ) → product_figure q row ≡ sum_by (clear_of q) noted
  pub product_cents : (q : ℕ) → product_cents_figure q row ≡ sum_by (product_cents_noted q) noted
  pub adjusted : (q : ℕ) → adjusted_figure q row ≡ sum_by (draw_of q) noted

-- Whatever is cleared, drawn and closed from the first shift on: the figures of each shift are the
-- counts and sums of what was noted while it was open.
abbrev pub AreFiguresSums : Type 0
AreFiguresSums = (changes : List ShiftChange) (n : ℕ) (row : ShiftRow)
    → AllByRecursion IsInRange changes → figures_of n (after_changes changes first_shift) ≡ Some row
    → IsSumOf (noted_in n 1 changes) row
