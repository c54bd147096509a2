-- Histories one after another, each of which goes on where the one before ended.
use Rattle.std.specs.Prelude.{◌≡◌, ℕ, ◌+◌, true, List, [], ◌∷◌, if◌then◌else◌, unwrap_or}
use Rattle.site_base.specs.declared.row.Row.{Row}
use Rattle.site_base.specs.Configured.{Configured}
use Rattle.meters.specs.Nozzles.{has_nozzle, opening_nozzles, reading_of}
use Rattle.written_site.specs.FitLaws.{AreReadable}
use Rattle.written_site.specs.Histories.{Moment, moments_of}
use Rattle.written_site.specs.MeterLaws.{begun_of_row, read_after, replaces_meter}
use Rattle.written_site.specs.MeteredRows.{metered_read}
use Rattle.written_site.specs.RowWords.{total}
use Rattle.written_site.specs.SiteRun.{IsLegal, site_of_rows}
use Rattle.written_site.specs.SiteState.{SiteState, opening}
use Rattle.written_site.specs.Sound.{IsFit}
use Rattle.next_opening.specs.NextOpening.{GoesOnFrom}

-- one history: its configuration and its rows
pub record History : Type 0 where
  pub config : Configured
  pub rows : List Row

-- the site with which it ends
abbrev pub end_of : History → SiteState
end_of h = site_of_rows (opening h.config) h.rows

-- it is a legal history of a fit configuration, and each reading in it is one that a meter can
-- show: so it is with every history that a book keeps
pub record IsKept (h : History) : Type 0 where
  pub fit : IsFit h.config
  pub legal : IsLegal (opening h.config) h.rows
  pub readable : AreReadable h.rows

-- each is such a one, and the next one begins with the last readings and the prices of the one
-- before
abbrev pub IsChain : History → List History → Type 0
IsChain h [] = IsKept h
IsChain h (next ∷ more) =
    IsKept h × (GoesOnFrom (end_of h) (opening next.config) × IsChain next more)

-- the reading with which nozzle n of point p begins
abbrev pub first_reading : ℕ → ℕ → History → ℕ
first_reading p n h = reading_of p n (opening_nozzles h.config)

-- its last reading in the last history
abbrev pub last_reading : ℕ → ℕ → History → List History → ℕ
last_reading p n h [] = reading_of p n (end_of h).nozzles
last_reading p n h (next ∷ more) = last_reading p n next more

-- the millilitres that it metered in a history
abbrev pub litres : ℕ → ℕ → History → ℕ
litres p n h = metered_read h.config p n h.rows

-- what its meter read when a moment took it away
abbrev pub taken_at : Configured → ℕ → ℕ → Moment → ℕ
taken_at c p n m = if replaces_meter p n m then read_after c p n m.earlier else 0

-- what the meter read first that a moment put in its place
abbrev pub put_at : ℕ → ℕ → Moment → ℕ
put_at p n m = if replaces_meter p n m then unwrap_or (begun_of_row p n m.row) 0 else 0

-- what the meters read in the end that were taken away in a history
abbrev pub taken_away : ℕ → ℕ → History → ℕ
taken_away p n h = total (taken_at h.config p n) (moments_of h.config h.rows)

-- what those read first that were put in their place
abbrev pub put_in : ℕ → ℕ → History → ℕ
put_in p n h = total (put_at p n) (moments_of h.config h.rows)

-- Over any chain of histories a nozzle has metered its last reading less its first one; each meter
-- that was taken away adds what it read in the end, less what the one in its place read first.
abbrev pub LitresAddUp : Type 0
LitresAddUp = (p n : ℕ) (h : History) (more : List History) → IsChain h more
    → has_nozzle p n (opening_nozzles h.config) ≡ true
    → first_reading p n h + total (litres p n) (h ∷ more) + total (put_in p n) (h ∷ more)
    ≡ last_reading p n h more + total (taken_away p n) (h ∷ more)
