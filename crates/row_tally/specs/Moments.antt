-- The moments that rows tell: when each point called last, when what isn't cleared yet was sold,
-- and when shifts were opened and closed.
use Rattle.std.specs.Prelude.{ℕ, ◌+◌, ◌-◌, Bool, ◌==◌, ◌&&◌, List, [], ◌∷◌, ◌++◌, option_map}
use Rattle.std.specs.Prelude.{Option}
use Rattle.std.specs.Prelude.{Some, None, Result, Ok, Err, if◌then◌else◌, remove, replicate}
use Rattle.std.specs.Prelude.{slice_index_or, slice_set, unwrap_or}
use Rattle.site_base.specs.declared.answer.Answer.{Answer}
use Rattle.site_base.specs.declared.answer.Answer.TheVariants.{Calling, Sold}
use Rattle.site_base.specs.declared.event.Event.{Event}
use Rattle.site_base.specs.declared.event.Event.TheVariants.{Clear, Lift}
use Rattle.site_base.specs.declared.limits.TheConstants.{POINT_CELLS}
use Rattle.site_base.specs.declared.refusal.Refusal.{Refusal}
use Rattle.site_base.specs.declared.row.Row.{Row}
use Rattle.site_base.specs.declared.sale.SaleId.{SaleId}
use Rattle.site_base.specs.Events.{point_named}
use Rattle.row_tally.specs.declared.sold_at.SoldAt.{SoldAt}
use Rattle.row_tally.specs.ShiftTimes.{TimesRead, no_times, open_number, times_after}

-- The times of shifts; of each point in its cell the time at which it called last; and the
-- transactions that were sold and aren't cleared yet, in the order in which they were sold.
pub record Moments : Type 0 where
  pub shifts : TimesRead
  pub calls : List (Option (List ℕ))
  pub sold : List SoldAt

-- no row yet
abbrev pub no_moments : Moments
no_moments = record { shifts = no_times; calls = replicate POINT_CELLS None; sold = [] }

-- ---- calls

-- the point that a row has begin to call
abbrev pub call_told : Event → Result Answer Refusal → Option ℕ
call_told (Lift p n reading) (Ok Calling) = Some p
call_told event reply = None

-- the calls, once this point, if there is one, called at this time
abbrev pub calls_with : Option (List ℕ) → Option ℕ → List (Option (List ℕ)) → List (Option (List ℕ))
calls_with time None calls = calls
calls_with time (Some p) calls = slice_set calls (p - 1) time

-- the time at which a point called last, if it is known
abbrev pub last_call : ℕ → Moments → Option (List ℕ)
last_call p m = slice_index_or m.calls (p - 1) None

-- ---- sales

-- the number of the transaction that a row sells
abbrev pub number_sold : Result Answer Refusal → Option ℕ
number_sold (Ok (Sold number growth)) = Some number
number_sold reply = None

-- a transaction of a point, if a row sells one, that is sold at this time in this shift
abbrev pub sale_of : Option (List ℕ) → ℕ → Option ℕ → Option ℕ → List SoldAt
sale_of time shift (Some p) (Some number) =
    record { shift = shift; point = p; number = number; at = time } ∷ []
sale_of time shift point number = []

-- the transaction that a row clears, and its point
abbrev pub clear_told : Event → Result Answer Refusal → Option (ℕ × SaleId)
clear_told (Clear p sale) (Ok answer) = Some (p, sale)
clear_told event reply = None

-- it is this transaction of the point
abbrev pub is_sale : ℕ → ℕ → ℕ → SoldAt → Bool
is_sale shift p number x = x.shift == shift && (x.point == p && x.number == number)

-- the place of the transaction among these, if it is one of them
abbrev pub sold_place : ℕ → ℕ → ℕ → List SoldAt → Option ℕ
sold_place shift p number [] = None
sold_place shift p number (x ∷ xs) =
    if is_sale shift p number x then Some 0
    else option_map (λ i. i + 1) (sold_place shift p number xs)

-- these without the one at this place, if there is one
abbrev pub without_place : Option ℕ → List SoldAt → List SoldAt
without_place None xs = xs
without_place (Some i) xs = remove xs i

-- what was sold, without the transaction that is cleared while this shift is open: it names its
-- shift, or is one of the open shift
abbrev pub without_cleared : ℕ → Option (ℕ × SaleId) → List SoldAt → List SoldAt
without_cleared current None xs = xs
without_cleared current (Some (p, sale)) xs =
    without_place (sold_place (unwrap_or sale.shift current) p sale.seq xs) xs

-- ---- rows

-- the moments with a row more, which has this time
abbrev pub moments_after : Option (List ℕ) → Row → Moments → Moments
moments_after time r m = record {
  shifts = times_after r time m.shifts;
  calls = calls_with time (call_told r.event r.reply) m.calls;
  sold = without_cleared (open_number m.shifts) (clear_told r.event r.reply)
      (m.sold ++ sale_of time (open_number m.shifts) (point_named r.event) (number_sold r.reply));
}
