-- The volumes of a site, each product's weighed: what its meters have counted, what is in fuellings
-- under way, in sales, and drawn by tests.
use Rattle.std.specs.Prelude.{ℕ, ◌+◌, ◌-◌, ◌*◌, List, [], ◌∷◌, unwrap_or, if◌then◌else◌}
use Rattle.site_base.specs.declared.state.Status.TheVariants.{Payable, Locked, Cleared}
use Rattle.site_base.specs.declared.view.ProductView.{ProductView}
use Rattle.fuelling_point.specs.KeptPoints.{Facts, is_under_way}
use Rattle.meters.specs.MeteredVolumes.{every_product, metered_by, product_alone, product_total}
use Rattle.meters.specs.Nozzles.{Nozzle, product_of, reading_of}
use Rattle.transaction_buffer.specs.Sales.{Sales}
use Rattle.transaction_buffer.specs.Sums.{sum_of, volume_by}
use Rattle.written_site.specs.SiteState.{SiteState}

-- the nozzle that is out; of a point without one, 0
abbrev pub nozzle_out : Facts → ℕ
nozzle_out f = unwrap_or f.out 0

-- the product of the nozzle that is out at point p; of no nozzle, 0
abbrev pub product_out : List Nozzle → ℕ → Facts → ℕ
product_out nozzles p f = unwrap_or (product_of p (nozzle_out f) nozzles) 0

-- the millilitres of the fuelling under way at point p: the last reading of the nozzle that is out,
-- less the one at its start; 0 where none is under way
abbrev pub running_at : List Nozzle → ℕ → Facts → ℕ
running_at nozzles p f =
    if is_under_way f.state then reading_of p (nozzle_out f) nozzles - f.start else 0

-- the millilitres in the fuellings under way, each product's weighed by w
abbrev pub running_by : (ℕ → ℕ) → List Nozzle → List (ℕ × Facts) → ℕ
running_by w nozzles [] = 0
running_by w nozzles (e ∷ es) =
    w (product_out nozzles e.0 e.1) * running_at nozzles e.0 e.1 + running_by w nozzles es

-- the millilitres of all sales, each product's weighed by w
abbrev pub sold_by : (ℕ → ℕ) → Sales → ℕ
sold_by w sales = sum_of (λ x. w x.product * x.volume) sales

-- these millilitres of the products from number q on, each weighed by w
abbrev pub weighed_from : (ℕ → ℕ) → ℕ → List ℕ → ℕ
weighed_from w q [] = 0
weighed_from w q (v ∷ vs) = w q * v + weighed_from w (q + 1) vs

-- the millilitres that tests drew in all shifts, each product's weighed by w
abbrev pub drawn_by : (ℕ → ℕ) → List (List ℕ) → ℕ
drawn_by w [] = 0
drawn_by w (shift ∷ shifts) = weighed_from w 1 shift + drawn_by w shifts

-- the millilitres of product q in fuellings under way
abbrev pub running_volume : SiteState → ℕ → ℕ
running_volume s q = running_by (product_alone q) s.nozzles s.points

-- the millilitres that tests drew of product q in all shifts
abbrev pub drawn_of : ℕ → List (List ℕ) → ℕ
drawn_of q drawn = drawn_by (product_alone q) drawn

abbrev pub adjusted_volume : SiteState → ℕ → ℕ
adjusted_volume s q = drawn_of q s.drawn

-- a product at this price as a read shows it
abbrev pub product_view : SiteState → ℕ → ℕ → ProductView
product_view s q price = record {
  price = price;
  metered = product_total q s.nozzles;
  running = running_volume s q;
  payable = volume_by q Payable s.sales;
  locked = volume_by q Locked s.sales;
  cleared = volume_by q Cleared s.sales;
  adjusted = adjusted_volume s q;
}

-- what all meters of the site have counted, in millilitres
abbrev pub all_metered : SiteState → ℕ
all_metered s = metered_by every_product s.nozzles
