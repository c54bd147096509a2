-- What holds at each nozzle, over any rows.
use Rattle.std.specs.Prelude.{◌≡◌, ◌+◌, ℕ, true, List, None, Some}
use Rattle.site_base.specs.declared.row.Row.{Row}
use Rattle.site_base.specs.Events.{nozzle_named, point_named, reading_carried}
use Rattle.meters.specs.Nozzles.{has_nozzle, reading_of}
use Rattle.written_site.specs.SiteChecks.{first_refusal}
use Rattle.written_site.specs.SiteRun.{events_of, site_of_rows}
use Rattle.written_site.specs.SiteState.{SiteState}
use Rattle.written_site.specs.SiteStep.{site_after}
use Rattle.written_site.specs.Sound.{InRange, Sound}
use Rattle.written_site.specs.SoundRuns.{AreInRange}
use Rattle.nozzle_figures.specs.NozzleMoves.{drawing, falling, flowing, of_accepted, rising}
use Rattle.nozzle_figures.specs.NozzleMoves.{running_by_nozzle, selling, sum_over}

-- Closing less opening reading is what was metered, and the jumps of replaced meters. What was
-- metered, and what was in the fuelling under way before, was sold, drawn, or is in the fuelling
-- that is under way then.
pub record AddsUp (p n : ℕ) (s : SiteState) (rows : List Row) : Type 0 where
  pub counter : reading_of p n (site_of_rows s rows).nozzles + sum_over (falling p n) s rows
      ≡ reading_of p n s.nozzles + sum_over (flowing p n) s rows + sum_over (rising p n) s rows
  pub volumes : sum_over (flowing p n) s rows + running_by_nozzle p n s
      ≡ sum_over (selling p n) s rows + sum_over (drawing p n) s rows
      + running_by_nozzle p n (site_of_rows s rows)

-- It is so at each nozzle of a site, over any rows that come there, and so for a shift as for the
-- whole history.
abbrev pub EachNozzleAddsUp : Type 0
EachNozzleAddsUp = (s : SiteState) (rows : List Row) (p n : ℕ) → Sound s
    → AreInRange (events_of rows) → has_nozzle p n s.nozzles ≡ true → AddsUp p n s rows

-- this reading is the nozzle's last one then, and what it adds to the one before is counted: as
-- metered, or as a jump
pub record IsCounted (p n reading : ℕ) (s : SiteState) (r : Row) : Type 0 where
  pub last : reading_of p n (site_after s r.actor r.event).nozzles ≡ reading
  pub counted : reading + of_accepted (falling p n) s r
      ≡ reading_of p n s.nozzles + of_accepted (flowing p n) s r + of_accepted (rising p n) s r

-- Each reading that an accepted row reports or notes is counted.
abbrev pub EachReadingIsCounted : Type 0
EachReadingIsCounted = (s : SiteState) (r : Row) (p n reading : ℕ) → Sound s → InRange r.event
    → has_nozzle p n s.nozzles ≡ true → point_named r.event ≡ Some p
    → nozzle_named r.event ≡ Some n → reading_carried r.event ≡ Some reading
    → first_refusal s r.actor r.event ≡ None → IsCounted p n reading s r
