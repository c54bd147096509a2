-- What a till cleared in a shift, as the shift's figures have it.
use Rattle.std.proofs.Common.{◌≡◌, ℕ, ◌+◌, ◌<◌, List, Option, Some, None, get_or, ap, sym}
use Rattle.std.proofs.Common.{◌∙◌, arith}
use Rattle.std.specs.Prelude.{option_map}
use Rattle.std.proofs.lemmas.List.FromFn.{get_or-map-range_with_len}
use Rattle.site_base.specs.declared.limits.TheConstants.{TILLS}
use Rattle.site_base.specs.Members as numbered
use Rattle.shift_ledger.specs.declared.row.ShiftRow.{ShiftRow}
use Rattle.transaction_buffer.specs.Sales.{Sales}
use Rattle.site_core.specs.Accounts.{figures_in, shift_row, takings_of}

pub takings_there : (h i t : ℕ) (sales : Sales) (drawn : List (List ℕ)) (row : ShiftRow)
    → shift_row h sales drawn ≡ Some row → i + 1 ≡ t → i < TILLS
    → get_or row.tills i (0, 0) ≡ takings_of h sales t
takings_there h i t sales drawn row is place within = by (numbered.member h drawn) is
  where
    by : (o : Option (List ℕ)) → option_map (figures_in h sales) o ≡ Some row
        → get_or row.tills i (0, 0) ≡ takings_of h sales t
    by None is = cc
    by (Some draws) is =
        let same : figures_in h sales draws ≡ row = cc in
        ap (λ (r : ShiftRow). get_or r.tills i (0, 0)) (sym same)
        ∙ get_or-map-range_with_len (takings_of h sales) 1 TILLS i t (0, 0) within
        (omega (arith, place))
