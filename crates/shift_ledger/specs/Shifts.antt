-- The shifts of a site.
use Rattle.std.specs.Prelude.{ℕ, ◌+◌, List, [], ◌∷◌, ◌++◌, length, Option, Bool, ◌==◌}
use Rattle.site_base.specs.declared.numbers.TheConstants.{GREATEST_SHIFT}
use Rattle.shift_ledger.specs.declared.row.ShiftRow.{ShiftRow}
use Rattle.site_base.specs.Members.{member}
use Rattle.shift_ledger.specs.Figures.{adjusted_figure, empty_figures, with_clear, with_draw}

-- the figures of the closed shifts in their order, and those of the open one
pub record Shifts : Type 0 where
  pub closed : List ShiftRow
  pub current : ShiftRow

-- the shifts, and how many more closed ones there is room for
pub record Book : Type 0 where
  pub shifts : Shifts
  pub room : ℕ

-- shift 1 is open, with nothing in it
abbrev pub first_shift : Shifts
first_shift = record { closed = []; current = empty_figures }

-- the number of the open shift
abbrev pub open_number : Shifts → ℕ
open_number s = length s.closed + 1

-- the last shift is open
abbrev pub is_last : Shifts → Bool
is_last s = open_number s == GREATEST_SHIFT

-- the figures of shift n; of 0 and of shifts to come, none
abbrev pub figures_of : ℕ → Shifts → Option ShiftRow
figures_of n s = member n (s.closed ++ s.current ∷ [])

-- the millilitres that tests drew of product q in these shifts
abbrev pub drawn_among : ℕ → List ShiftRow → ℕ
drawn_among q [] = 0
drawn_among q (row ∷ rows) = adjusted_figure q row + drawn_among q rows

-- the millilitres that tests drew of product q in all shifts, the open one's too
abbrev pub drawn_in_all : ℕ → Shifts → ℕ
drawn_in_all q s = adjusted_figure q s.current + drawn_among q s.closed

-- the open shift is closed, and the next one is open with nothing in it
abbrev pub after_close : Shifts → Shifts
after_close s = record { closed = s.closed ++ s.current ∷ []; current = empty_figures }

-- one more clear in the open shift
abbrev pub after_clear : ℕ → ℕ → ℕ → ℕ → Shifts → Shifts
after_clear t q ml cents s =
    record { closed = s.closed; current = with_clear t q ml cents s.current }

-- one more draw in the open shift
abbrev pub after_draw : ℕ → ℕ → Shifts → Shifts
after_draw q ml s = record { closed = s.closed; current = with_draw q ml s.current }
