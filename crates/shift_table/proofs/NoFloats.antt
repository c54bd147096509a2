-- No number of a shift is a float.
use Rattle.std.proofs.Common.{◌≡◌, ℕ, ◌+◌, Bool, true, false, List, [], ◌∷◌, nat_lt, refl}
use Rattle.serde_json.specs.View.{items_of}
use Rattle.serde_json.specs.Written.{has_float, items_have_float}
use Rattle.site_base.specs.declared.config.ProductEntry.{ProductEntry}
use Rattle.shift_ledger.specs.declared.row.ShiftRow.{ShiftRow}
use Rattle.row_tally.specs.declared.shift_times.ShiftTimes.{ShiftTimes}
use Rattle.site_json.proofs.NoFloats.{no_float_shift_products, no_float_sum, no_float_text}
use Rattle.shift_table.specs.ShiftObjects.{shift_data, tills_data}
use Rattle.shift_table.specs.ShiftSums.{all_cents, all_clears}

no_float_tills : (t : ℕ) (tills : List (ℕ × ℕ))
    → items_have_float (items_of (tills_data t tills)) ≡ false
no_float_tills t [] = refl
no_float_tills t (figures ∷ more) =
    by_test (nat_lt 0 figures.0) refl (no_float_tills (t + 1) more)
  where
    by_test : (b : Bool) → nat_lt 0 figures.0 ≡ b
        → items_have_float (items_of (tills_data (t + 1) more)) ≡ false
        → items_have_float (items_of (tills_data t (figures ∷ more))) ≡ false
    by_test true is rest = rw is rest
    by_test false is rest = rw is rest

pub no_float_shift : (ps : List ProductEntry) (n : ℕ) (is_open : Bool) (times : ShiftTimes)
    (row : ShiftRow) → has_float (shift_data ps n is_open times row) ≡ false
no_float_shift ps n is_open times row =
    rw (
      no_float_sum (all_cents row.tills),
      no_float_sum (all_clears row.tills),
      no_float_text times.closed,
      no_float_text times.opened,
      no_float_shift_products row ps,
      no_float_tills 1 row.tills,
    ) refl
