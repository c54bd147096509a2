-- The gaps of the rows of some shifts of a history.
use Rattle.std.specs.Prelude.{◌≡◌, ◌+◌, ℕ, Bool, false, List, [], length, drop, nat_lt, Option}
use Rattle.std.specs.Prelude.{Some, None, if◌then◌else◌}
use Rattle.site_base.specs.declared.row.Row.{Row}
use Rattle.site_base.specs.Configured.{Configured}
use Rattle.written_site.specs.SiteRun.{site_of_rows}
use Rattle.written_site.specs.SiteState.{opening}
use Rattle.written_site.specs.SiteStep.{site_after}
use Rattle.row_tally.specs.declared.refused_run.RowPlace.{RowPlace}
use Rattle.meter_table.specs.Gaps.{Gaps, GapsRead, gaps_over, gaps_with, no_gaps}
use Rattle.past_rows.specs.declared.shifts.ShiftRange.{ShiftRange}
use Rattle.past_rows.specs.ShiftFigures.{until_shift}

-- the rows of a history before the first of these shifts; without shifts none
abbrev pub rows_before : Option ShiftRange → List Row → List Row
rows_before None rows = []
rows_before (Some shifts) rows = until_shift shifts.first rows

-- the rows up to the end of the last of them; without shifts all
abbrev pub rows_through : Option ShiftRange → List Row → List Row
rows_through None rows = rows
rows_through (Some shifts) rows = until_shift (shifts.last + 1) rows

-- the gaps of rows of a history, without those of its first ones
abbrev pub gaps_behind : Configured → List Row → List Row → Gaps
gaps_behind c first rows =
    gaps_over (site_of_rows (opening c) first) (length first) (drop (length first) rows) no_gaps

-- the gaps of the rows of these shifts
abbrev pub asked_gaps : Configured → Option ShiftRange → List Row → Gaps
asked_gaps c shifts rows = gaps_behind c (rows_before shifts rows) (rows_through shifts rows)

-- a shift is before those that are asked for, or behind them
abbrev pub is_before : Option ShiftRange → ℕ → Bool
is_before None n = false
is_before (Some shifts) n = nat_lt n shifts.first

abbrev pub is_behind : Option ShiftRange → ℕ → Bool
is_behind None n = false
is_behind (Some shifts) n = nat_lt shifts.last n

-- what a reader of gaps has with one row more, which comes while shift n is open
abbrev pub noted : Option ShiftRange → ℕ → RowPlace → Row → GapsRead → GapsRead
noted shifts n place r m =
    if is_behind shifts n then m
    else record {
      site = site_after m.site r.actor r.event;
      gaps = if is_before shifts n then no_gaps else gaps_with place m.site r m.gaps;
    }

-- the reader has read the rows of a history up to the last of these shifts, and has the gaps of
-- the shifts' rows
pub record HasReadGaps (c : Configured) (shifts : Option ShiftRange) (rows : List Row)
    (m : GapsRead) : Type 0 where
  pub site : m.site ≡ site_of_rows (opening c) (rows_through shifts rows)
  pub gaps : m.gaps ≡ asked_gaps c shifts rows
