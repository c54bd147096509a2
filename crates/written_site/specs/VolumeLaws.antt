-- The law of volumes: what the meters count is somewhere.
use Rattle.std.specs.Prelude.{◌≡◌, ℕ, ◌+◌, ◌≤◌, List, true}
use Rattle.site_base.specs.declared.limits.TheConstants.{PRODUCTS}
use Rattle.site_base.specs.declared.row.Row.{Row}
use Rattle.site_base.specs.declared.state.Status.TheVariants.{Payable, Locked, Cleared}
use Rattle.site_base.specs.Configured.{Configured, are_points, are_products}
use Rattle.site_base.specs.Events.{growth_in_reply}
use Rattle.meters.specs.MeteredVolumes.{every_product, metered_by, product_total}
use Rattle.transaction_buffer.specs.Sums.{volume_by}
use Rattle.written_site.specs.MeteredRows.{metered_rows}
use Rattle.written_site.specs.RowWords.{total}
use Rattle.written_site.specs.ShiftFigures.{product_totals}
use Rattle.written_site.specs.SiteRun.{site_of_rows}
use Rattle.written_site.specs.SiteState.{SiteState, opening}
use Rattle.written_site.specs.Volumes.{adjusted_volume, all_metered, running_volume}

-- What the site shows as metered of a product is what the rows tell of its nozzles' meters. For
-- each product number that a product may have, this is in the fuellings under way, in sales that
-- are payable, locked or cleared, and in draws. The growths that the rows tell add up to what all
-- meters have counted.
pub record AreVolumesConserved (c : Configured) (rows : List Row) (s : SiteState) : Type 0 where
  pub metered : (q : ℕ) → product_total q s.nozzles ≡ metered_rows c q rows
  pub conserved : (q : ℕ) → 1 ≤ q → q ≤ PRODUCTS
      → metered_rows c q rows
      ≡ running_volume s q + volume_by q Payable s.sales + volume_by q Locked s.sales
      + volume_by q Cleared s.sales + adjusted_volume s q
  pub grown : total (λ r. growth_in_reply r.reply) rows ≡ metered_by every_product s.nozzles

-- of fit products and points: at the site that any rows lead to, what is metered of the products
-- adds up to what all meters have counted
abbrev pub DoProductsAddUp : Type 0
DoProductsAddUp = (c : Configured) (rows : List Row)
    → are_products c.products ≡ true → are_points c.products c.points ≡ true
    → total (λ v. v.metered) (product_totals (site_of_rows (opening c) rows))
    ≡ all_metered (site_of_rows (opening c) rows)
