-- Every figure fits in 64 bits, for every legal history of a fit configuration.
use Rattle.std.proofs.Common.{ℕ, List, [], ◌∷◌, sym, subst, arith}
use Rattle.site_base.specs.declared.row.Row.{Row}
use Rattle.site_base.specs.Configured.{Configured}
use Rattle.written_site.specs.FitLaws.{AreReadable, DoVolumesFit, DoFiguresFitRows}
use Rattle.written_site.specs.RowWords.{OfBooks}
use Rattle.written_site.specs.SiteRun.{site_of_rows, IsLegal, events_of}
use Rattle.written_site.specs.SiteState.{SiteState, opening}
use Rattle.written_site.specs.Sound.{IsFit, Sound}
use Rattle.written_site.specs.SoundRuns.{AreInRange}
use Rattle.meters.proofs.Bounds.{bound}
use Rattle.written_site.proofs.Bridge.{legal_histories_are_runs}
use Rattle.written_site.proofs.FigureBounds.{figures_fit}
use Rattle.written_site.proofs.SoundRuns.{runs_stay_sound}
use Rattle.written_site.proofs.SoundSums.{adds_up, most_fits}

-- the events of readable rows are in range
in_range : (rows : List Row) → AreReadable rows → AreInRange (events_of rows)
in_range [] all = tt
in_range (r ∷ rs) all = (all.0, in_range rs all.1)

-- a legal history of a fit configuration, with readings in range, leads to a sound site
pub sound_rows : (c : Configured) (rows : List Row) → IsLegal (opening c) rows → IsFit c
    → AreReadable rows → Sound (site_of_rows (opening c) rows)
sound_rows c rows legal fit readable =
    subst Sound (sym (legal_histories_are_runs.run (opening c) rows legal).leads)
    (runs_stay_sound c (events_of rows) fit (in_range rows readable))

volumes_fit : (s : SiteState) (q : ℕ) → Sound s → DoVolumesFit s q
volumes_fit s q sound =
    let sums = adds_up s q sound in
    let whole = sums.whole in
    let fits = sums.fits in
    record {
      metered = fits;
      running = omega (arith, whole, fits);
      payable = omega (arith, whole, fits);
      locked = omega (arith, whole, fits);
      cleared = omega (arith, whole, fits);
      adjusted = omega (arith, whole, fits);
    }

pub every_figure_fits : OfBooks DoFiguresFitRows
every_figure_fits c rows legal fit readable =
    let sound = sound_rows c rows legal fit readable in
    record {
      metered = (let most = bound (site_of_rows (opening c) rows).nozzles sound.meters in
          omega (arith, most, most_fits));
      volumes = λ q. volumes_fit (site_of_rows (opening c) rows) q sound;
      shifts = λ h. figures_fit.fit (site_of_rows (opening c) rows) h sound;
    }
