-- Where a nozzle stands in a list, and the cells that tell it.
use Rattle.std.specs.Prelude.{◌≡◌, ℕ, ◌+◌, ◌-◌, ◌*◌, ◌<◌, ◌≤◌, List, [], ◌∷◌, length, Option, Some}
use Rattle.std.specs.Prelude.{None, option_map, if◌then◌else◌, slice_index, slice_index_or}
use Rattle.std.specs.Prelude.{slice_set}
use Rattle.site_base.specs.declared.limits.TheConstants.{NOZZLES, POINTS, PRODUCT_CELLS}
use Rattle.meters.specs.Nozzles.{Nozzle, is_nozzle, nozzle_of, product_of, last_of, replacements_of}
use Rattle.meters.specs.Nozzles.{with_last, with_meter, read_at, replaced_at, AreNozzles}
use Rattle.meters.specs.MeteredVolumes.{product_total}

-- the place of nozzle n of point p, if there is such a nozzle
abbrev pub place_in : ℕ → ℕ → List Nozzle → Option ℕ
place_in p n [] = None
place_in p n (x ∷ xs) = if is_nozzle p n x then Some 0 else option_map (λ i. i + 1)
    (place_in p n xs)

-- nozzle n of point p stands at i, and a change of it is a write there
pub record IsPlace (p n : ℕ) (xs : List Nozzle) (i : ℕ) : Type 0 where
  pub within : i < length xs
  pub nozzle : (d : Nozzle) → nozzle_of p n xs ≡ Some (slice_index_or xs i d)
  pub product : (d : Nozzle) → product_of p n xs ≡ Some (slice_index_or xs i d).product
  pub last : (d : Nozzle) → last_of p n xs ≡ Some (slice_index_or xs i d).last
  pub replaced : (d : Nozzle) → replacements_of p n xs ≡ Some (slice_index_or xs i d).replaced
  pub reads : (reading : ℕ) (d : Nozzle)
      → with_last p n reading xs ≡ slice_set xs i (read_at reading (slice_index_or xs i d))
  pub replaces : (reading : ℕ) (d : Nozzle)
      → with_meter p n reading xs ≡ slice_set xs i (replaced_at reading (slice_index_or xs i d))

-- the cell of nozzle n of point p among those of all nozzles that a site can have
abbrev pub nozzle_cell : ℕ → ℕ → ℕ
nozzle_cell p n = (p - 1) * NOZZLES + (n - 1)

-- each nozzle's cell tells its place
abbrev pub ArePlaces : List Nozzle → List (Option ℕ) → Type 0
ArePlaces xs cells = (p n : ℕ) → 1 ≤ p → p ≤ POINTS → 1 ≤ n → n ≤ NOZZLES
    → slice_index_or cells (nozzle_cell p n) None ≡ place_in p n xs

-- each product's cell holds what its nozzles have metered
abbrev pub AreTotals : List Nozzle → List ℕ → Type 0
AreTotals xs sums = (k : ℕ) → k < PRODUCT_CELLS → slice_index sums k ≡ product_total (k + 1) xs

-- what is kept of the nozzles: their places and the products' totals
pub record AreKept (xs : List Nozzle) (cells : List (Option ℕ)) (sums : List ℕ) : Type 0 where
  pub nozzles : AreNozzles xs
  pub places : ArePlaces xs cells
  pub totals : AreTotals xs sums
