-- What a report of a meter may read.
use Rattle.std.specs.Prelude.{ℕ, ◌+◌, ◌-◌, List, Option, Some, None, ◌==◌, nat_le, not}
use Rattle.std.specs.Prelude.{if◌then◌else◌}
use Rattle.site_base.specs.declared.amounts.TheConstants.{GROWTH_LIMIT}
use Rattle.site_base.specs.declared.refusal.Refusal.{Refusal}
use Rattle.site_base.specs.declared.refusal.Refusal.TheVariants.{MeterGap, MeterBack, MeterJump}
use Rattle.meters.specs.Nozzles.{Nozzle, reading_of, with_last}
use Rattle.meters.specs.declared.report.Report.{Report}
use Rattle.meters.specs.declared.report.Report.TheVariants.{Still, Growing}

-- why a report is refused, by a meter whose last reading is this
abbrev pub report_refusal : Report → ℕ → ℕ → Option Refusal
report_refusal Still last reading =
    if not (reading == last) then Some (MeterGap last) else None
report_refusal Growing last reading =
    if not (nat_le last reading) then Some (MeterBack last)
    else if not (nat_le reading (last + GROWTH_LIMIT)) then Some MeterJump
    else None

-- how much a report adds to the last reading
abbrev pub growth_of : ℕ → ℕ → ℕ
growth_of last reading = reading - last

-- the nozzles once a reading of nozzle n of point p is taken; a refused one leaves them
abbrev pub unless_refused : Option Refusal → ℕ → ℕ → ℕ → List Nozzle → List Nozzle
unless_refused None p n reading xs = with_last p n reading xs
unless_refused (Some refusal) p n reading xs = xs

-- the nozzles after a report of nozzle n of point p
abbrev pub after_report : Report → ℕ → ℕ → ℕ → List Nozzle → List Nozzle
after_report report p n reading xs =
    unless_refused (report_refusal report (reading_of p n xs) reading) p n reading xs
