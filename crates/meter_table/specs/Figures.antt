-- What rows count at each nozzle: the figures of its line.
use Rattle.std.specs.Prelude.{◌≡◌, ◌-◌, ◌^◌, ℕ, List, [], ◌∷◌, length}
use Rattle.std.specs.Prelude.{map, max, min, Option, Some, None, if◌then◌else◌}
use Rattle.std.specs.List.{cons_option}
use Rattle.site_base.specs.declared.event.Event.{Event}
use Rattle.site_base.specs.declared.row.Row.{Row}
use Rattle.site_base.specs.Configured.{Configured}
use Rattle.meters.specs.Nozzles.{Nozzle, opening_nozzles, reading_of}
use Rattle.written_site.specs.MeterLaws.{read_said, replace_said}
use Rattle.written_site.specs.SiteChecks.{first_refusal}
use Rattle.written_site.specs.SiteRun.{site_of_rows}
use Rattle.written_site.specs.SiteState.{SiteState}
use Rattle.written_site.specs.SiteStep.{site_after}
use Rattle.nozzle_figures.specs.NozzleMoves.{drawing, falling, flowing, rising, running_by_nozzle}
use Rattle.nozzle_figures.specs.NozzleMoves.{selling, sum_over}
use Rattle.row_tally.specs.Readings.{is_of_meter, refusal_told}
use Rattle.meter_table.specs.declared.figures.NozzleFigures.{NozzleFigures}

-- ---- replacements

-- an event that replaces the meter of nozzle n of point p counts one, any other none
abbrev pub replacing : ℕ → ℕ → SiteState → Event → ℕ
replacing p n s event = if replace_said p n event then 1 else 0

-- ---- refused readings

-- the reading of nozzle n of point p that a row reports at this site, if the meter refuses it
abbrev pub refused_reading : ℕ → ℕ → SiteState → Row → Option ℕ
refused_reading p n s r =
    if is_of_meter (first_refusal s r.actor r.event) then read_said p n r.event else None

-- the same of a row, by its reply
abbrev pub refused_in : ℕ → ℕ → Row → Option ℕ
refused_in p n r = if is_of_meter (refusal_told r.reply) then read_said p n r.event else None

-- the nozzle's refused readings in rows, from this site on
abbrev pub refused_readings : ℕ → ℕ → SiteState → List Row → List ℕ
refused_readings p n s [] = []
refused_readings p n s (r ∷ rows) =
    cons_option (refused_reading p n s r)
    (refused_readings p n (site_after s r.actor r.event) rows)

-- how many readings these are, counted up to 2^64 - 1
abbrev pub count_of : List ℕ → ℕ
count_of readings = min (length readings) (2 ^ 64 - 1)

-- a reading with one more: the greater of them
abbrev pub higher : Option ℕ → ℕ → ℕ
higher None reading = reading
higher (Some highest) reading = max highest reading

-- the greatest reading, of these and one that came before, if there is any
abbrev pub greatest : Option ℕ → List ℕ → Option ℕ
greatest before [] = before
greatest before (x ∷ xs) = greatest (Some (higher before x)) xs

-- ---- the figures

-- what rows count at a nozzle, from this site on: its readings before and after them; what flowed
-- by its meter, and what of it was sold, drawn, or is in the fuelling under way then; how often the
-- meter was replaced, and how far the new ones began above or below the old ones' last readings;
-- how many readings the meter refused, and the greatest of them
abbrev pub figures_of : SiteState → List Row → Nozzle → NozzleFigures
figures_of s rows x = record {
  point = x.point;
  nozzle = x.number;
  product = x.product;
  opening = reading_of x.point x.number s.nozzles;
  closing = reading_of x.point x.number (site_of_rows s rows).nozzles;
  metered = sum_over (flowing x.point x.number) s rows;
  sold = sum_over (selling x.point x.number) s rows;
  drawn = sum_over (drawing x.point x.number) s rows;
  running = running_by_nozzle x.point x.number (site_of_rows s rows);
  replaced = sum_over (replacing x.point x.number) s rows;
  raised = sum_over (rising x.point x.number) s rows;
  lowered = sum_over (falling x.point x.number) s rows;
  refused = count_of (refused_readings x.point x.number s rows);
  highest = greatest None (refused_readings x.point x.number s rows);
}

-- the figures of each configured nozzle, in configured order
abbrev pub all_figures : Configured → SiteState → List Row → List NozzleFigures
all_figures c s rows = map (figures_of s rows) (opening_nozzles c)

-- what a reader has: a site, and figures
pub record MetersRead : Type 0 where
  pub site : SiteState
  pub figures : List NozzleFigures

-- The reader has read these rows, from the site at which it began: its site is the one that they
-- lead to, and its figures are what they count.
pub record HasRead (c : Configured) (start : SiteState) (rows : List Row) (m : MetersRead)
    : Type 0 where
  pub site : m.site ≡ site_of_rows start rows
  pub figures : m.figures ≡ all_figures c start rows
