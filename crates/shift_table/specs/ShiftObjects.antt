-- A shift as JSON. Members stand in the order of their names.
use Rattle.std.specs.Prelude.{ℕ, ◌+◌, Bool, List, [], ◌∷◌, ◌++◌, codes, nat_lt}
use Rattle.std.specs.Prelude.{if◌then◌else◌}
use Rattle.serde_json.specs.Data.{Data, array, boolean, number, object}
use Rattle.serde_json.specs.Data.{unsigned, member, no_members}
use Rattle.serde_json.specs.View.{items_of}
use Rattle.site_base.specs.declared.config.ProductEntry.{ProductEntry}
use Rattle.shift_ledger.specs.declared.row.ShiftRow.{ShiftRow}
use Rattle.site_json.specs.Figures.{sum_data, text_if}
use Rattle.site_json.specs.ShiftProducts.{shift_products}
use Rattle.row_tally.specs.declared.shift_times.ShiftTimes.{ShiftTimes}
use Rattle.shift_table.specs.ShiftSums.{all_cents, all_clears}

-- a till with its clears in the shift, and their cents
abbrev pub till_data : ℕ → ℕ × ℕ → Data
till_data t figures =
    object
    (member (codes "cents") (number (unsigned figures.1))
    (member (codes "clears") (number (unsigned figures.0))
    (member (codes "number") (number (unsigned t))
    no_members)))

-- the till, if it has cleared anything
abbrev pub till_if : ℕ → ℕ × ℕ → List Data
till_if t figures = if nat_lt 0 figures.0 then till_data t figures ∷ [] else []

-- those of these tills, from this number on, that have cleared anything
abbrev pub tills_data : ℕ → List (ℕ × ℕ) → List Data
tills_data t [] = []
tills_data t (figures ∷ more) = till_if t figures ++ tills_data (t + 1) more

-- these, one after another
abbrev pub listed : List Data → Data
listed ds = array (items_of ds)

-- a shift: its number and whether it is open, with these times, these clears and cents of all
-- tills, these products and these tills
abbrev pub whole_data : ℕ → Bool → ShiftTimes → Data → Data → Data → Data → Data
whole_data n is_open times clears cents products tills =
    object
    (member (codes "cents") cents
    (member (codes "clears") clears
    (member (codes "closed") (text_if times.closed)
    (member (codes "open") (boolean is_open)
    (member (codes "opened") (text_if times.opened)
    (member (codes "products") products
    (member (codes "shift") (number (unsigned n))
    (member (codes "tills") tills
    no_members))))))))

-- a shift: its times, what all tills cleared in it, its products in configured order, and each till
-- that cleared anything
abbrev pub shift_data : List ProductEntry → ℕ → Bool → ShiftTimes → ShiftRow → Data
shift_data products n is_open times row =
    whole_data n is_open times (sum_data (all_clears row.tills)) (sum_data (all_cents row.tills))
    (listed (shift_products row products)) (listed (tills_data 1 row.tills))
