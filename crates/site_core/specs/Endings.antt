-- What the end of a fuelling leaves: its sale, or its draw, from what the point tells of it.
use Rattle.std.specs.Prelude.{◌≡◌, ℕ, ◌+◌, ◌^◌, ◌<◌, List, Option, unwrap_or, true, is_some}
use Rattle.transaction_buffer.specs.declared.shelf.TheConstants.{UNPAID_LIMIT}
use Rattle.site_base.specs.Amounts.{amount}
use Rattle.fuelling_point.specs.declared.step.PointStep.{PointStep}
use Rattle.fuelling_point.specs.declared.step.PointStep.TheVariants.{Sold, Drawn}
use Rattle.meters.specs.Nozzles.{product_of}
use Rattle.transaction_buffer.specs.Sales.{Sale, Sales, HasNoneLater, new_standing, next_number}
use Rattle.transaction_buffer.specs.Sales.{unpaid_at, with_new}
use Rattle.transaction_buffer.specs.Sums.{volume_of}
use Rattle.written_site.specs.SiteState.{SiteState, open_shift}
use Rattle.written_site.specs.SiteStep.{draw_noted, first_locker}
use Rattle.written_site.specs.Volumes.{drawn_of}

-- the product of nozzle n of point p; of no nozzle, 0
abbrev pub product_by : SiteState → ℕ → ℕ → ℕ
product_by s p n = unwrap_or (product_of p n s.nozzles) 0

-- the sale of a fuelling of point p by this nozzle, of which the point tells volume, price and
-- prepaid cents
abbrev pub sale_told : SiteState → ℕ → ℕ → ℕ → ℕ → Option ℕ → Sale
sale_told s p nozzle volume price prepaid = record {
  shift = open_shift s;
  price = price;
  volume = volume;
  cents = amount volume price;
  prepaid = prepaid;
  product = product_by s p nozzle;
  standing = new_standing (first_locker s p prepaid);
}

-- the sales with that of this step of point p, if it is one
abbrev pub sales_with : SiteState → ℕ → PointStep → Sales
sales_with s p (Sold nozzle volume price prepaid) =
    with_new p (sale_told s p nozzle volume price prepaid) s.sales
sales_with s p step = s.sales

-- the draws with that of this step of point p, if it is one
abbrev pub draws_with : SiteState → ℕ → PointStep → List (List ℕ)
draws_with s p (Drawn nozzle volume) = draw_noted (product_by s p nozzle) volume s.drawn
draws_with s p step = s.drawn

-- one more sale of point p, of this product and volume, has its place, its number and its sums
pub record HasPlace (s : SiteState) (p product volume : ℕ) : Type 0 where
  pub unpaid : unpaid_at p s.sales < UNPAID_LIMIT
  pub number : is_some (next_number p (open_shift s) s.sales) ≡ true
  pub order : HasNoneLater p (open_shift s) s.sales
  pub fits : volume_of product s.sales + volume < 2 ^ 64

-- what this step of point p ends has its place
abbrev pub MayEnd : SiteState → ℕ → PointStep → Type 0
MayEnd s p (Sold nozzle volume price prepaid) =
    (is_some (product_of p nozzle s.nozzles) ≡ true) × HasPlace s p (product_by s p nozzle) volume
MayEnd s p (Drawn nozzle volume) =
    (is_some (product_of p nozzle s.nozzles) ≡ true)
    × (drawn_of (product_by s p nozzle) s.drawn + volume < 2 ^ 64)
MayEnd s p step = Unit {0}
