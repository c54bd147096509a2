-- When the shifts of a history were opened and closed.
use Rattle.std.specs.Prelude.{ℕ, ◌+◌, ◌-◌, if◌then◌else◌, List, [], ◌∷◌, ◌++◌, length, Option, Some}
use Rattle.std.specs.Prelude.{None, slice_get, unwrap_or}
use Rattle.site_base.specs.declared.row.Row.{Row}
use Rattle.written_site.specs.RowWords.{closes_shift}
use Rattle.row_tally.specs.declared.shift_times.ShiftTimes.{ShiftTimes}

-- the times of the shifts that are closed, from shift 1 on, and of the open one once it has a row
pub record TimesRead : Type 0 where
  pub closed : List ShiftTimes
  pub current : Option ShiftTimes

-- no row is read yet
abbrev pub no_times : TimesRead
no_times = record { closed = []; current = None }

-- the number of the open shift
abbrev pub open_number : TimesRead → ℕ
open_number read = length read.closed + 1

-- a shift whose first row is at this time, if it is known
abbrev pub opened_at : Option (List ℕ) → ShiftTimes
opened_at time = record { opened = time; closed = None }

-- .. which ends at this time
abbrev pub closed_at : Option (List ℕ) → ShiftTimes → ShiftTimes
closed_at time times = record { opened = times.opened; closed = time }

-- the open shift, whose first row is at this time if it has none yet
abbrev pub open_times : Option (List ℕ) → TimesRead → ShiftTimes
open_times time read = unwrap_or read.current (opened_at time)

-- the times once this row is read, which was at this time: an accepted CloseShift ends its shift
abbrev pub times_after : Row → Option (List ℕ) → TimesRead → TimesRead
times_after r time read =
    if closes_shift r
    then record {
      closed = read.closed ++ closed_at time (open_times time read) ∷ [];
      current = None;
    }
    else record { closed = read.closed; current = Some (open_times time read) }

-- the times of shift n: one that isn't closed is the open one
abbrev pub times_of_shift : ℕ → TimesRead → ShiftTimes
times_of_shift n read =
    unwrap_or (slice_get read.closed (n - 1)) (unwrap_or read.current (opened_at None))
