-- The law of figures: each fits in 64 bits, whatever a fit site is asked.
use Rattle.std.specs.Prelude.{ℕ, ◌^◌, ◌<◌, List}
use Rattle.std.specs.List.{AllByRecursion}
use Rattle.site_base.specs.declared.row.Row.{Row}
use Rattle.site_base.specs.declared.state.Status.TheVariants.{Payable, Locked, Cleared}
use Rattle.site_base.specs.Configured.{Configured}
use Rattle.meters.specs.MeteredVolumes.{every_product, metered_by, product_total}
use Rattle.transaction_buffer.specs.Sums.{volume_by}
use Rattle.written_site.specs.FigureSteps.{AreFiguresInRange}
use Rattle.written_site.specs.SiteState.{SiteState}
use Rattle.written_site.specs.Sound.{InRange, IsFit}
use Rattle.written_site.specs.Volumes.{running_volume, adjusted_volume}

-- the volumes of product q fit in 64 bits: what was metered, what is in fuellings under way, in
-- sales of each status, and in draws
pub record DoVolumesFit (s : SiteState) (q : ℕ) : Type 0 where
  pub metered : product_total q s.nozzles < 2 ^ 64
  pub running : running_volume s q < 2 ^ 64
  pub payable : volume_by q Payable s.sales < 2 ^ 64
  pub locked : volume_by q Locked s.sales < 2 ^ 64
  pub cleared : volume_by q Cleared s.sales < 2 ^ 64
  pub adjusted : adjusted_volume s q < 2 ^ 64

-- each reading that these rows carry is one that a meter can show
abbrev pub AreReadable : List Row → Type 0
AreReadable rows = AllByRecursion (λ r. InRange r.event) rows

-- every figure fits: what all meters have counted, the volumes of each product, and the figures of
-- each shift and of all together
pub record HasFitFigures (s : SiteState) : Type 0 where
  pub metered : metered_by every_product s.nozzles < 2 ^ 64
  pub volumes : (q : ℕ) → DoVolumesFit s q
  pub shifts : (h : ℕ) → AreFiguresInRange s h

-- so it is where the configuration is fit and readings are in range, as the types of both give it
abbrev pub DoFiguresFitRows : Configured → List Row → SiteState → Type 0
DoFiguresFitRows c rows s = IsFit c → AreReadable rows → HasFitFigures s
