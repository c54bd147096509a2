-- What a clear and a draw do to the figures of the open shift.
use Rattle.std.proofs.Common.{◌≡◌, ℕ, zero, suc, Bool, true, false, cond, ◌+◌, ◌-◌, ◌≤◌, List, []}
use Rattle.std.proofs.Common.{◌∷◌, length, get_or, Some, unwrap_or, ◌==◌, refl, ap, ◌∙◌, arith}
use Rattle.std.proofs.lemmas.Bool.Decides.{nat_tests}
use Rattle.std.specs.List.{All}
use Rattle.std.proofs.lemmas.List.Elements.{All-append}
use Rattle.site_base.specs.Members.{member, with_numbered}
use Rattle.site_base.proofs.Numbering.{numbered_within, numbered_with_same, numbered_with_other}
use Rattle.site_base.proofs.Numbering.{length-with_numbered}
use Rattle.shift_ledger.specs.declared.row.ShiftRow.{ShiftRow}
use Rattle.shift_ledger.specs.Figures.{till_figures, product_figure, adjusted_figure}
use Rattle.shift_ledger.specs.Figures.{product_cents_figure, one_clear_more, empty_figures}
use Rattle.shift_ledger.specs.Figures.{with_clear, with_draw}
use Rattle.shift_ledger.specs.Shifts.{Shifts}
use Rattle.shift_ledger.specs.Laws.{ShiftChange, clears, draws, closes, after_change, IsRow}
use Rattle.shift_ledger.specs.Laws.{HaveRows, IsCounted, IsDrawn, HasEveryFigure}

-- a member that is there and is written shows what was written, and every other stays
written : {A : Type 0} (n m : ℕ) (xs : List A) (y d : A) → 1 ≤ n → n ≤ length xs
    → unwrap_or (member m (with_numbered n y xs)) d
    ≡ cond (m == n) y (unwrap_or (member m xs) d)
written n m xs y d low high = by_test (m == n) refl
  where
    by_test : (b : Bool) → (m == n) ≡ b
        → unwrap_or (member m (with_numbered n y xs)) d ≡ cond b y (unwrap_or (member m xs) d)
    by_test true is =
        let same : m ≡ n = grind (arith, nat_tests) in
        let there : member n xs ≡ Some (get_or xs (n - 1) d) =
        numbered_within n xs (n - 1) d (omega arith) (omega arith) in
        ap (λ (k : ℕ). unwrap_or (member k (with_numbered n y xs)) d) same
        ∙ ap (λ o. unwrap_or o d) (numbered_with_same n xs (get_or xs (n - 1) d) y there)
    by_test false is = ap (λ o. unwrap_or o d)
        (numbered_with_other n m xs y (grind (arith, nat_tests)))

pub is_counted : IsCounted
is_counted = record {
  by_till = λ t q ml cents u s row low high.
      written t u s.current.tills (one_clear_more cents (till_figures t s.current)) (0, 0) low
      (omega (arith, row.tills));
  by_product = λ t q ml cents r s row low high.
      written q r s.current.products (product_figure q s.current + ml) 0 low
      (omega (arith, row.products));
  product_cents = λ t q ml cents r s row low high.
      written q r s.current.product_cents (product_cents_figure q s.current + cents) 0 low
      (omega (arith, row.product_cents));
  drawn = λ t q ml cents r s. refl;
  number = λ t q ml cents s. refl;
}

pub is_drawn : IsDrawn
is_drawn = record {
  by_product = λ q ml r s row low high.
      written q r s.current.adjusted (adjusted_figure q s.current + ml) 0 low
      (omega (arith, row.adjusted));
  tills = λ q ml u s. refl;
  cleared = λ q ml r s. refl;
  product_cents = λ q ml r s. refl;
  number = λ q ml s. refl;
}

row_after : (t q ml cents : ℕ) (row : ShiftRow) → IsRow row → IsRow (with_clear t q ml cents row)
row_after t q ml cents row is = record {
  tills = length-with_numbered t _ row.tills ∙ is.tills;
  products = length-with_numbered q _ row.products ∙ is.products;
  product_cents = length-with_numbered q _ row.product_cents ∙ is.product_cents;
  adjusted = is.adjusted;
}

row_drawn : (q ml : ℕ) (row : ShiftRow) → IsRow row → IsRow (with_draw q ml row)
row_drawn q ml row is = record {
  tills = is.tills;
  products = is.products;
  product_cents = is.product_cents;
  adjusted = length-with_numbered q _ row.adjusted ∙ is.adjusted;
}

pub empty_row : IsRow empty_figures
empty_row = record { tills = refl; products = refl; product_cents = refl; adjusted = refl }

alone : (row : ShiftRow) → IsRow row → All IsRow (row ∷ [])
alone row is zero d within = is
alone row is (suc k) d within = absurd (omega arith)

pub has_every_figure : HasEveryFigure
has_every_figure = record {
  first = record { closed = λ k d within. absurd (omega arith); current = empty_row };
  after = after;
}
  where
    after : (change : ShiftChange) (s : Shifts) → HaveRows s → HaveRows (after_change change s)
    after (clears t q ml cents) s rows =
        record { closed = rows.closed; current = row_after t q ml cents s.current rows.current }
    after (draws q ml) s rows =
        record { closed = rows.closed; current = row_drawn q ml s.current rows.current }
    after closes s rows = record {
      closed = All-append IsRow s.closed (s.current ∷ []) rows.closed
          (alone s.current rows.current);
      current = empty_row;
    }
