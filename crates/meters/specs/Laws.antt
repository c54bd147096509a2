-- What holds of the nozzles' meters by their definitions.
use Rattle.std.specs.Prelude.{◌≡◌, ℕ, ◌+◌, ◌*◌, ◌<◌, ◌≤◌, List, Some, None, ◌==◌, if◌then◌else◌}
use Rattle.meters.specs.declared.meter.TheConstants.{REPLACEMENT_LIMIT}
use Rattle.site_base.specs.declared.amounts.TheConstants.{GREATEST_READING}
use Rattle.site_base.specs.declared.refusal.Refusal.{Refusal}
use Rattle.site_base.specs.Configured.{Configured}
use Rattle.meters.specs.declared.report.Report.{Report}
use Rattle.meters.specs.Nozzles.{Nozzle, opening_nozzles, product_of, last_of, reading_of}
use Rattle.meters.specs.Nozzles.{times_replaced, with_last, with_meter, EachMetered, AreNozzles}
use Rattle.meters.specs.MeteredVolumes.{most_of_a_site, product_total, metered_by, every_product}
use Rattle.meters.specs.Reports.{report_refusal, growth_of, after_report}

-- a reading that isn't below the last one raises the total of the nozzle's product by the growth,
-- and no other total
abbrev pub GrowthRaisesOneTotal : Type 0
GrowthRaisesOneTotal = (xs : List Nozzle) (p n reading last product q : ℕ)
    → EachMetered xs → last_of p n xs ≡ Some last → product_of p n xs ≡ Some product
    → last ≤ reading
    → product_total q (with_last p n reading xs)
    ≡ product_total q xs + (if product == q then growth_of last reading else 0)

-- each nozzle is within its bounds when a site with readings in range opens, after a reading in
-- range that isn't below the last one, and after a replacement of a meter that may be replaced
pub record StaysWithinBounds : Type 0 where
  pub reads : (xs : List Nozzle) (p n reading last : ℕ)
      → EachMetered xs → last_of p n xs ≡ Some last → last ≤ reading → reading ≤ GREATEST_READING
      → EachMetered (with_last p n reading xs)
  pub replaces : (xs : List Nozzle) (p n reading : ℕ)
      → EachMetered xs → times_replaced p n xs < REPLACEMENT_LIMIT → reading ≤ GREATEST_READING
      → EachMetered (with_meter p n reading xs)

-- A site that opens has metered nothing. An accepted report of a nozzle raises what is metered by
-- the growth, weighed as the nozzle's product is; a refused one leaves every meter. A replacement
-- leaves what is metered as it was.
pub record ReportsAreMetered : Type 0 where
  pub opens : (w : ℕ → ℕ) (c : Configured) → metered_by w (opening_nozzles c) ≡ 0
  pub accepted : (w : ℕ → ℕ) (report : Report) (p n reading product : ℕ) (xs : List Nozzle)
      → EachMetered xs → product_of p n xs ≡ Some product
      → report_refusal report (reading_of p n xs) reading ≡ None
      → metered_by w (after_report report p n reading xs)
      ≡ metered_by w xs + w product * growth_of (reading_of p n xs) reading
  pub refused : (report : Report) (p n reading : ℕ) (refusal : Refusal) (xs : List Nozzle)
      → report_refusal report (reading_of p n xs) reading ≡ Some refusal
      → after_report report p n reading xs ≡ xs
  pub replaced : (w : ℕ → ℕ) (p n reading : ℕ) (xs : List Nozzle)
      → metered_by w (with_meter p n reading xs) ≡ metered_by w xs

-- a product's total is no more than what is metered of all products, and that at most what a site
-- can meter
pub record TotalsAreMetered : Type 0 where
  pub among_all : (q : ℕ) (xs : List Nozzle) → product_total q xs ≤ metered_by every_product xs
  pub bound : (xs : List Nozzle) → AreNozzles xs → metered_by every_product xs ≤ most_of_a_site
