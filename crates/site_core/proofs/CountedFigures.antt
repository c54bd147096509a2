-- What a sound site gives to what is counted from its lists: each figure fits in 64 bits, and each
-- point is as points of the site always are.
use Rattle.std.proofs.Common.{◌≡◌, ℕ, ◌+◌, ◌*◌, ◌^◌, ◌<◌, ◌≤◌, List, ◌∷◌, length, drop, get_or}
use Rattle.std.proofs.Common.{Some, sym, ap, ◌∙◌, arith}
use Rattle.std.proofs.lemmas.List.{drop_more}
use Rattle.site_base.specs.declared.state.Status.{Status}
use Rattle.site_base.specs.declared.state.Status.TheVariants.{Payable, Locked, Cleared}
use Rattle.fuelling_point.specs.KeptPoints.{Facts}
use Rattle.meters.specs.MeteredVolumes.{most_of_a_site, product_alone}
use Rattle.meters.proofs.Bounds.{total_bound}
use Rattle.transaction_buffer.specs.Sums.{volume_by}
use Rattle.written_site.specs.SiteState.{SiteState}
use Rattle.written_site.specs.Sound.{Sound, IsPointSound}
use Rattle.written_site.specs.Volumes.{product_out, running_volume, running_at, running_by}
use Rattle.site_core.proofs.PointPlaces.{alone_place}
use Rattle.site_core.proofs.Reports.{rest_of}

pub volume_fits : (s : SiteState) (q : ℕ) (status : Status) → Sound s
    → volume_by q status s.sales < 2 ^ 64
volume_fits s q Payable sound =
    omega (arith, (rest_of s q sound).whole, total_bound q s.nozzles sound.meters)
volume_fits s q Locked sound =
    omega (arith, (rest_of s q sound).whole, total_bound q s.nozzles sound.meters)
volume_fits s q Cleared sound =
    omega (arith, (rest_of s q sound).whole, total_bound q s.nozzles sound.meters)

-- ---- a turn over the points

-- the point of the turn
pub sound_row : (s : SiteState) (rows : List (ℕ × Facts)) (i : ℕ) (row : ℕ × Facts) → Sound s
    → rows ≡ s.points → i < length rows → row ≡ get_or rows i row → IsPointSound s row.0 row.1
sound_row s rows i row sound are within is =
    let here : row ≡ get_or s.points i row =
    is ∙ ap (λ (xs : List (ℕ × Facts)). get_or xs i row) are in
    sound.points row.0 row.1
    ((alone_place row.0 s.points i row sound.numbers (omega (arith, within, ap length are))
    (ap (λ (e : ℕ × Facts). e.0) (sym here))).row row
    ∙ ap (λ (e : ℕ × Facts). Some e.1) (sym here))

-- what was counted before it, with what flows at its point, is no more than a site can meter
pub turn_fits : (s : SiteState) (q : ℕ) (rows : List (ℕ × Facts)) (i : ℕ) (row : ℕ × Facts)
    (sum flows : ℕ) → Sound s → i < length rows → row ≡ get_or rows i row
    → sum + running_by (product_alone q) s.nozzles (drop i rows) ≡ running_volume s q
    → flows ≡ product_alone q (product_out s.nozzles row.0 row.1) * running_at s.nozzles row.0 row.1
    → sum + flows ≤ most_of_a_site
turn_fits s q rows i row sum flows sound within is whole its =
    let split : running_by (product_alone q) s.nozzles (drop i rows)
    ≡ product_alone q (product_out s.nozzles row.0 row.1) * running_at s.nozzles row.0 row.1
    + running_by (product_alone q) s.nozzles (drop (i + 1) rows) =
    ap (running_by (product_alone q) s.nozzles) (drop_more rows i row within)
    ∙ ap (λ (e : ℕ × Facts). running_by (product_alone q) s.nozzles (e ∷ drop (i + 1) rows))
    (sym is) in
    omega (
      arith,
      whole,
      its,
      split,
      (rest_of s q sound).whole,
      total_bound q s.nozzles sound.meters,
    )
