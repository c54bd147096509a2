-- What is counted of a history while its rows are read.
use Rattle.std.specs.Prelude.{◌==◌, ◌+◌, ◌-◌, ◌^◌, ℕ, List, Option, Some, None, codes, nat_lt}
use Rattle.std.specs.Prelude.{if◌then◌else◌}
use Rattle.chapters.specs.HistoryEnds.{EndState}
use Rattle.row_commands.specs.declared.row_count.RowCount.{RowCount}

-- one more, up to what fits 64 bits
abbrev pub one_more : ℕ → ℕ
one_more n = if nat_lt n (2 ^ 64 - 1) then n + 1 else n

-- with a row more, right behind which the text ends so: behind a seal it is the first again
abbrev pub with_row : RowCount → EndState → RowCount
with_row c e = record {
  rows = one_more c.rows;
  unsealed = if c.seals == e.seals then one_more c.unsealed else 1;
  seals = e.seals;
  first = if c.rows == 0 then e.time else c.first;
  last = e.time;
}

-- the rows behind the last seal of a text that ends so
abbrev pub uncovered_by : RowCount → EndState → ℕ
uncovered_by c e = if c.seals == e.seals then c.unsealed else 0

-- a time, or a dash where there is none
abbrev pub time_or_dash : Option (List ℕ) → List ℕ
time_or_dash None = codes "-"
time_or_dash (Some time) = time
