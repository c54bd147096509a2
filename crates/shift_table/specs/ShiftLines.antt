-- A shift as a line of text.
use Rattle.std.specs.Prelude.{ℕ, List, ◌++◌, Option, Some, None, codes, decimal, flat_map}
use Rattle.site_base.specs.declared.config.ProductEntry.{ProductEntry}
use Rattle.shift_ledger.specs.declared.row.ShiftRow.{ShiftRow}
use Rattle.shift_ledger.specs.Figures.{adjusted_figure, product_figure}
use Rattle.row_tally.specs.declared.shift_times.ShiftTimes.{ShiftTimes}
use Rattle.shift_table.specs.ShiftSums.{all_cents, all_clears}

-- a time; where it isn't known, `-`
abbrev pub time_word : Option (List ℕ) → List ℕ
time_word None = codes "-"
time_word (Some time) = time

-- the number of a shift, when it was opened and closed, and what all tills cleared in it
abbrev pub takings_words : ℕ → ShiftTimes → ShiftRow → List ℕ
takings_words n times row =
    codes "shift " ++ decimal n ++ codes " opened " ++ time_word times.opened
    ++ codes " closed " ++ time_word times.closed
    ++ codes " clears " ++ decimal (all_clears row.tills)
    ++ codes " cents " ++ decimal (all_cents row.tills)

-- the millilitres of a product that were cleared in the shift, and those that tests drew
unfoldable pub product_words : ShiftRow → ProductEntry → List ℕ
product_words row p =
    codes " product " ++ decimal p.number
    ++ codes " cleared " ++ decimal (product_figure p.number row)
    ++ codes " drawn " ++ decimal (adjusted_figure p.number row)

-- the line of a shift: its times, what was cleared in it, and its millilitres of each product, in
-- configured order
abbrev pub shift_line : List ProductEntry → ℕ → ShiftTimes → ShiftRow → List ℕ
shift_line products n times row =
    takings_words n times row ++ flat_map (product_words row) products ++ codes "\n"
