-- Each line adds up.
use Rattle.std.proofs.Common.{◌≡◌, ℕ, ◌==◌, List, [], ◌∷◌, map, refl, ap}
use Rattle.std.proofs.Common.{◌∙◌, arith}
use Rattle.std.specs.Prelude.{if◌then◌else◌}
use Rattle.std.specs.List.{AllByRecursion}
use Rattle.site_base.specs.declared.row.Row.{Row}
use Rattle.site_base.specs.Configured.{Configured}
use Rattle.fuelling_point.specs.KeptPoints.{Facts}
use Rattle.meters.specs.Nozzles.{Nozzle, opening_nozzles}
use Rattle.written_site.specs.SiteRun.{events_of}
use Rattle.written_site.specs.SiteState.{SiteState, opening}
use Rattle.written_site.specs.Sound.{Sound}
use Rattle.written_site.specs.SoundRuns.{AreInRange}
use Rattle.written_site.specs.Volumes.{nozzle_out, running_at}
use Rattle.written_site.proofs.PointAfter.{opens_closed}
use Rattle.written_site.proofs.SoundOpening.{opening_sound}
use Rattle.nozzle_figures.specs.NozzleMoves.{running_by_nozzle}
use Rattle.nozzle_figures.proofs.NozzleMoves.{each_nozzle_adds_up, none_of}
use Rattle.meter_table.specs.declared.figures.NozzleFigures.{NozzleFigures}
use Rattle.meter_table.specs.Counting.{AreThere}
use Rattle.meter_table.specs.Figures.{all_figures, figures_of}
use Rattle.meter_table.specs.Laws.{EachLineAddsUp, EachWholeLineAddsUp, LineAddsUp}
use Rattle.meter_table.specs.Laws.{WholeLineAddsUp}
use Rattle.meter_table.proofs.Readers.{opening_there}

lines_add_up : (s : SiteState) (rows : List Row) (xs : List Nozzle) → Sound s
    → AreInRange (events_of rows) → AreThere s.nozzles xs
    → AllByRecursion (LineAddsUp s) (map (figures_of s rows) xs)
lines_add_up s rows [] sound range are = tt
lines_add_up s rows (x ∷ xs) sound range are =
    let law = each_nozzle_adds_up s rows x.point x.number sound range are.0 in (
      record { counter = law.counter; volumes = law.volumes },
      lines_add_up s rows xs sound range are.1,
    )

pub each_line_adds_up : EachLineAddsUp
each_line_adds_up = λ c s rows sound range are.
    lines_add_up s rows (opening_nozzles c) sound range are

-- nothing is under way at an opening
none_under_way : (c : Configured) (p n : ℕ) → running_by_nozzle p n (opening c) ≡ 0
none_under_way c p n =
    ap (λ (f : Facts). if nozzle_out f == n then running_at (opening c).nozzles p f else 0)
    (opens_closed c p)
    ∙ none_of (0 == n)

whole_lines : (c : Configured) (xs : List NozzleFigures)
    → AllByRecursion (LineAddsUp (opening c)) xs → AllByRecursion WholeLineAddsUp xs
whole_lines c [] all = tt
whole_lines c (x ∷ xs) all =
    let none = none_under_way c x.point x.nozzle in (
      record { counter = all.0.counter; volumes = omega (arith, all.0.volumes, none) },
      whole_lines c xs all.1,
    )

pub each_whole_line_adds_up : EachWholeLineAddsUp
each_whole_line_adds_up = λ c rows fit range.
    whole_lines c (all_figures c (opening c) rows)
    (lines_add_up (opening c) rows (opening_nozzles c) (opening_sound c fit) range
    (opening_there (opening c) c c.points refl refl))
