-- The nozzles of a product, together.
use Rattle.std.specs.Prelude.{◌≡◌, ◌+◌, ◌==◌, ◌&&◌, not, ℕ, List, [], ◌∷◌, if◌then◌else◌}
use Rattle.site_base.specs.declared.row.Row.{Row}
use Rattle.site_base.specs.declared.state.Status.TheVariants.{Payable, Locked, Cleared}
use Rattle.site_base.specs.Configured.{Configured}
use Rattle.meters.specs.MeteredVolumes.{product_total}
use Rattle.meters.specs.Nozzles.{Nozzle, opening_nozzles}
use Rattle.transaction_buffer.specs.Sums.{volume_by}
use Rattle.written_site.specs.MeteredRows.{is_among}
use Rattle.written_site.specs.SiteRun.{events_of, site_of_rows}
use Rattle.written_site.specs.SiteState.{SiteState, opening}
use Rattle.written_site.specs.Sound.{IsFit}
use Rattle.written_site.specs.SoundRuns.{AreInRange}
use Rattle.written_site.specs.Volumes.{adjusted_volume, running_volume}
use Rattle.nozzle_figures.specs.NozzleMoves.{drawing, flowing, running_by_nozzle, selling, sum_over}

-- a figure of each of these nozzles that deliver product q, in all. Events name the first of two
-- nozzles of one name, which no site file configures.
abbrev pub sum_of_product : ℕ → (ℕ → ℕ → ℕ) → List Nozzle → List Nozzle → ℕ
sum_of_product q figure seen [] = 0
sum_of_product q figure seen (x ∷ xs) =
    (if x.product == q && not (is_among seen x.point x.number)
    then figure x.point x.number else 0)
    + sum_of_product q figure (x ∷ seen) xs

-- .. of each nozzle of a configuration
abbrev pub product_sum : Configured → ℕ → (ℕ → ℕ → ℕ) → ℕ
product_sum c q figure = sum_of_product q figure [] (opening_nozzles c)

-- A product's nozzles add up to the product's figures: metered, sold (payable, locked or cleared),
-- drawn, and in the fuellings under way.
pub record ProductAddsUp (c : Configured) (rows : List Row) (q : ℕ) (later : SiteState)
    : Type 0 where
  pub metered : product_sum c q (λ p n. sum_over (flowing p n) (opening c) rows)
      ≡ product_total q later.nozzles
  pub sold : product_sum c q (λ p n. sum_over (selling p n) (opening c) rows)
      ≡ volume_by q Payable later.sales + volume_by q Locked later.sales
      + volume_by q Cleared later.sales
  pub drawn : product_sum c q (λ p n. sum_over (drawing p n) (opening c) rows)
      ≡ adjusted_volume later q
  pub running : product_sum c q (λ p n. running_by_nozzle p n later) ≡ running_volume later q

-- It is so at the site that any rows lead to from the opening of a fit configuration.
abbrev pub EachProductAddsUp : Type 0
EachProductAddsUp = (c : Configured) (rows : List Row) (q : ℕ) → IsFit c
    → AreInRange (events_of rows)
    → ProductAddsUp c rows q (site_of_rows (opening c) rows)
