-- What holds of each line of the tables.
use Rattle.std.specs.Prelude.{◌≡◌, ◌+◌, ◌⊎◌, ℕ, true, List, [], ◌∷◌, ◌++◌, Some, None}
use Rattle.std.specs.List.{AllByRecursion}
use Rattle.site_base.specs.declared.actor.Actor.TheVariants.{Till}
use Rattle.site_base.specs.declared.event.Event.TheVariants.{ReplaceMeter}
use Rattle.site_base.specs.declared.refusal.Refusal.{Refusal}
use Rattle.site_base.specs.declared.row.Row.{Row}
use Rattle.site_base.specs.Configured.{Configured}
use Rattle.meters.specs.Nozzles.{opening_nozzles, reading_of}
use Rattle.written_site.specs.SiteChecks.{first_refusal}
use Rattle.written_site.specs.SiteRun.{events_of}
use Rattle.written_site.specs.SiteState.{SiteState, opening}
use Rattle.written_site.specs.Sound.{IsFit, Sound}
use Rattle.written_site.specs.SoundRuns.{AreInRange}
use Rattle.nozzle_figures.specs.NozzleMoves.{running_by_nozzle}
use Rattle.row_tally.specs.Readings.{is_of_meter, reading_told}
use Rattle.row_tally.specs.Runs.{run_settled}
use Rattle.meter_table.specs.declared.figures.NozzleFigures.{NozzleFigures}
use Rattle.meter_table.specs.Counting.{AreThere}
use Rattle.row_tally.specs.declared.meter_reading.MeterReading.{MeterReading}
use Rattle.row_tally.specs.declared.refused_run.RefusedRun.{RefusedRun}
use Rattle.meter_table.specs.declared.gap.Replacement.{Replacement}
use Rattle.row_tally.specs.declared.refused_run.RowPlace.{RowPlace}
use Rattle.meter_table.specs.Figures.{all_figures}
use Rattle.meter_table.specs.Gaps.{Gaps, gaps_with}

-- Closing less opening reading is what was metered, and the jumps of replaced meters. What was
-- metered, and what was in the fuelling under way at the beginning, was sold, drawn, or is in the
-- fuelling that is under way at the end.
pub record LineAddsUp (start : SiteState) (x : NozzleFigures) : Type 0 where
  pub counter : x.closing + x.lowered ≡ x.opening + x.metered + x.raised
  pub volumes : x.metered + running_by_nozzle x.point x.nozzle start ≡ x.sold + x.drawn + x.running

-- Each line of some rows adds up, from whatever site they begin: so a shift's as a history's.
abbrev pub EachLineAddsUp : Type 0
EachLineAddsUp = (c : Configured) (start : SiteState) (rows : List Row) → Sound start
    → AreInRange (events_of rows) → AreThere start.nozzles (opening_nozzles c)
    → AllByRecursion (LineAddsUp start) (all_figures c start rows)

-- the same of a whole history, before which no fuelling was under way
pub record WholeLineAddsUp (x : NozzleFigures) : Type 0 where
  pub counter : x.closing + x.lowered ≡ x.opening + x.metered + x.raised
  pub volumes : x.metered ≡ x.sold + x.drawn + x.running

-- Each line of a history adds up.
abbrev pub EachWholeLineAddsUp : Type 0
EachWholeLineAddsUp = (c : Configured) (rows : List Row) → IsFit c → AreInRange (events_of rows)
    → AllByRecursion WholeLineAddsUp (all_figures c (opening c) rows)

-- ---- gaps

-- one of these runs is so
abbrev pub AnyRun : (RefusedRun → Type 0) → List RefusedRun → Type 0
AnyRun P [] = ⊥
AnyRun P (run ∷ runs) = P run ⊎ AnyRun P runs

-- the run is of this reading's nozzle, and ends with it
pub record EndsWith (row : ℕ) (x : MeterReading) (run : RefusedRun) : Type 0 where
  pub point : run.point ≡ x.point
  pub nozzle : run.nozzle ≡ x.nozzle
  pub last : run.last ≡ row
  pub reported : run.reported ≡ x.reading

-- Each accepted replacement of a meter has its line: the row's place, its till, and both readings.
abbrev pub EachReplacementHasALine : Type 0
EachReplacementHasALine = (place : RowPlace) (s : SiteState) (r : Row) (g : Gaps) (t p n new : ℕ)
    → r.actor ≡ Till t → r.event ≡ ReplaceMeter p n new
    → first_refusal s r.actor r.event ≡ None
    → (gaps_with place s r g).replaced ≡ g.replaced
    ++ record {
      place = place;
      till = t;
      point = p;
      nozzle = n;
      old = reading_of p n s.nozzles;
      new = new;
    } ∷ []

-- Each reading that its meter refuses stands in an open run of its nozzle.
abbrev pub EachRefusedReadingHasARun : Type 0
EachRefusedReadingHasARun = (place : RowPlace) (s : SiteState) (r : Row) (g : Gaps)
    (x : MeterReading) (refusal : Refusal) → reading_told r.event ≡ Some x
    → first_refusal s r.actor r.event ≡ Some refusal → is_of_meter (Some refusal) ≡ true
    → AnyRun (EndsWith place.row x) (gaps_with place s r g).unsettled

-- the later run is this one: of the same nozzle, with the same first reading
pub record GoesOn (run later : RefusedRun) : Type 0 where
  pub first : later.first ≡ run.first
  pub point : later.point ≡ run.point
  pub nozzle : later.nozzle ≡ run.nozzle

-- an open run is open after a row too, or it is one of those that the row settles
abbrev pub StaysOrIsSettled : ℕ → RefusedRun → List RefusedRun → List RefusedRun → Type 0
StaysOrIsSettled row run settled unsettled =
    AnyRun (GoesOn run) unsettled ⊎ AnyRun (λ later. later ≡ run_settled row run) settled

-- No line is lost: what is replaced or settled stays, and each open run stays open or is settled.
pub record NoLineIsLost (place : RowPlace) (s : SiteState) (r : Row) (g : Gaps) : Type 0 where
  pub replaced : (more : List Replacement)
      × ((gaps_with place s r g).replaced ≡ g.replaced ++ more)
  pub settled : (more : List RefusedRun)
      × ((gaps_with place s r g).settled ≡ g.settled ++ more)
  pub unsettled : (run : RefusedRun) → AnyRun (λ x. x ≡ run) g.unsettled
      → StaysOrIsSettled place.row run (gaps_with place s r g).settled
      (gaps_with place s r g).unsettled

abbrev pub NoGapIsLost : Type 0
NoGapIsLost = (place : RowPlace) (s : SiteState) (r : Row) (g : Gaps) → NoLineIsLost place s r g
