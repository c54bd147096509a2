-- The gaps in what meters counted: each replaced meter, and each run of refused readings.
use Rattle.std.specs.Prelude.{ℕ, ◌+◌, List, [], ◌∷◌, ◌++◌, Option, Some, None}
use Rattle.std.specs.List.{cons_option}
use Rattle.site_base.specs.declared.actor.Actor.{Actor}
use Rattle.site_base.specs.declared.actor.Actor.TheVariants.{Till}
use Rattle.site_base.specs.declared.event.Event.{Event}
use Rattle.site_base.specs.declared.event.Event.TheVariants.{ReplaceMeter}
use Rattle.site_base.specs.declared.refusal.Refusal.{Refusal}
use Rattle.site_base.specs.declared.row.Row.{Row}
use Rattle.site_base.specs.Configured.{Configured}
use Rattle.meters.specs.Nozzles.{reading_of}
use Rattle.written_site.specs.SiteChecks.{first_refusal}
use Rattle.written_site.specs.SiteState.{SiteState, opening}
use Rattle.written_site.specs.SiteStep.{site_after}
use Rattle.row_tally.specs.Readings.{reading_told}
use Rattle.row_tally.specs.Runs.{runs_refused, settled_run, without_run}
use Rattle.row_tally.specs.declared.meter_reading.MeterReading.{MeterReading}
use Rattle.row_tally.specs.declared.refused_run.RefusedRun.{RefusedRun}
use Rattle.row_tally.specs.declared.refused_run.RowPlace.{RowPlace}
use Rattle.meter_table.specs.declared.gap.Replacement.{Replacement}

-- The gaps of some rows: the replaced meters, in the order of their rows; the runs that are
-- settled, in the order of the rows that settled them; and the runs that are open.
pub record Gaps : Type 0 where
  pub replaced : List Replacement
  pub settled : List RefusedRun
  pub unsettled : List RefusedRun

abbrev pub no_gaps : Gaps
no_gaps = record { replaced = []; settled = []; unsettled = [] }

-- what a till's event replaces, where the meter reads old
abbrev pub replacement_told : RowPlace → ℕ → Actor → Event → Option Replacement
replacement_told place old (Till t) (ReplaceMeter p n reading) =
    Some (record {
      place = place;
      till = t;
      point = p;
      nozzle = n;
      old = old;
      new = reading;
    })
replacement_told place old actor event = None

-- an accepted reading settles the run of its nozzle; a replaced meter has its line
abbrev pub gaps_accepted : RowPlace → ℕ → Row → MeterReading → Gaps → Gaps
gaps_accepted place old r x g = record {
  replaced = g.replaced ++ cons_option (replacement_told place old r.actor r.event) [];
  settled = g.settled ++ settled_run place.row x.point x.nozzle g.unsettled;
  unsettled = without_run x.point x.nozzle g.unsettled;
}

-- a reading that its meter refuses stands in a run; one that is refused for another reason leaves
-- the gaps
abbrev pub gaps_refused : RowPlace → ℕ → Refusal → MeterReading → Gaps → Gaps
gaps_refused place expected refusal x g = record g {
  unsettled = runs_refused place expected refusal x g.unsettled;
}

-- the gaps with a reading more, which is accepted or refused
abbrev pub gaps_read : RowPlace → ℕ → Row → MeterReading → Option Refusal → Gaps → Gaps
gaps_read place old r x None g = gaps_accepted place old r x g
gaps_read place old r x (Some refusal) g = gaps_refused place old refusal x g

-- the gaps with a row more, which may have a reading
abbrev pub gaps_told : RowPlace → SiteState → Row → Option MeterReading → Gaps → Gaps
gaps_told place s r None g = g
gaps_told place s r (Some x) g =
    gaps_read place (reading_of x.point x.nozzle s.nozzles) r x
    (first_refusal s r.actor r.event) g

-- the gaps with one row more, which stands at this place and comes to this site
abbrev pub gaps_with : RowPlace → SiteState → Row → Gaps → Gaps
gaps_with place s r g = gaps_told place s r (reading_told r.event) g

-- the gaps with these rows more, which come to this site, and the first of which has this number;
-- their times aren't known
abbrev pub gaps_over : SiteState → ℕ → List Row → Gaps → Gaps
gaps_over s n [] g = g
gaps_over s n (r ∷ rows) g =
    gaps_over (site_after s r.actor r.event) (n + 1) rows
    (gaps_with (record { row = n; at = None }) s r g)

-- the gaps of all rows of a day or a history
abbrev pub gaps_of : Configured → List Row → Gaps
gaps_of c rows = gaps_over (opening c) 0 rows no_gaps

-- what a reader of gaps has: a site, and the gaps
pub record GapsRead : Type 0 where
  pub site : SiteState
  pub gaps : Gaps
