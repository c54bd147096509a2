-- The site state, and the words that read it.
use Rattle.std.specs.Prelude.{ℕ, Bool, true, false, ◌&&◌, List, [], ◌∷◌, map, length, replicate}
use Rattle.std.specs.Prelude.{Option, option_and_then, Some, None, is_some, unwrap_or}
use Rattle.std.specs.Ordering.{nat_cmp}
use Rattle.std.specs.FinMap as finite
use Rattle.std.specs.FinSet as set
use Rattle.site_base.specs.declared.limits.TheConstants.{PRODUCT_CELLS}
use Rattle.site_base.specs.declared.sale.SaleId.{SaleId}
use Rattle.site_base.specs.declared.state.PointState.{PointState}
use Rattle.site_base.specs.declared.state.PointState.TheVariants.{Closed, Idle, Calling}
use Rattle.site_base.specs.declared.view.PointView.{PointView}
use Rattle.site_base.specs.declared.view.TransactionView.{TransactionView}
use Rattle.site_base.specs.declared.config.PointEntry.{PointEntry}
use Rattle.site_base.specs.Configured.{Configured}
use Rattle.site_base.specs.Prices.{prices_of}
use Rattle.site_base.specs.Table.{row_of}
use Rattle.fuelling_point.specs.KeptPoints.{Facts, empty_point, point_view}
use Rattle.meters.specs.Nozzles.{Nozzle, opening_nozzles, product_of, reading_of}
use Rattle.transaction_buffer.specs.Sales.{Key, key, Sales, no_sales, view_of_sale}

-- The points by their numbers, in configured order; the nozzles with their meters; which till holds
-- which point; the sales; the products' numbers with today's prices, in configured order; the tills
-- that are managers, and those that are signed on; and for each shift, from the first to the open
-- one, the millilitres that tests drew of each product, from product 1 on.
pub record SiteState : Type 0 where
  pub points : List (ℕ × Facts)
  pub nozzles : List Nozzle
  pub holds : finite.FinMap nat_cmp ℕ
  pub sales : Sales
  pub prices : List (ℕ × ℕ)
  pub managers : set.FinSet nat_cmp
  pub signed_on : set.FinSet nat_cmp
  pub drawn : List (List ℕ)

-- each configured point, closed
abbrev pub points_of : List PointEntry → List (ℕ × Facts)
points_of entries = map (λ p. (p.number, empty_point Closed)) entries

-- tests have drawn nothing of any product
abbrev pub nothing_drawn : List ℕ
nothing_drawn = replicate PRODUCT_CELLS 0

-- the opening site: every point closed, each meter at its opening reading, each product at its
-- configured price, nobody signed on, no hold, no sale, and shift 1 open
abbrev pub opening : Configured → SiteState
opening c = record {
  points = points_of c.points;
  nozzles = opening_nozzles c;
  holds = finite.empty;
  sales = no_sales;
  prices = prices_of c.products;
  managers = set.from_list c.managers;
  signed_on = set.empty;
  drawn = nothing_drawn ∷ [];
}

abbrev pub is_signed_on : SiteState → ℕ → Bool
is_signed_on s t = set.contains s.signed_on t

abbrev pub is_manager : SiteState → ℕ → Bool
is_manager s t = set.contains s.managers t

abbrev pub has_point : SiteState → ℕ → Bool
has_point s p = is_some (row_of p s.points)

-- what the point with this number keeps; where none has it, what a closed one does
abbrev pub facts_in : List (ℕ × Facts) → ℕ → Facts
facts_in points p = unwrap_or (row_of p points) (empty_point Closed)

-- what the point keeps; of a point that isn't there, a closed one's
abbrev pub facts_of : SiteState → ℕ → Facts
facts_of s p = facts_in s.points p

-- the till that holds the point
abbrev pub holder_of : SiteState → ℕ → Option ℕ
holder_of s p = finite.get s.holds p

-- a point in this state rests: it is closed, idle or calling; in any other it is inoperative,
-- released, or has a fuelling under way
abbrev pub is_resting : PointState → Bool
is_resting Closed = true
is_resting Idle = true
is_resting Calling = true
is_resting state = false

-- the point is there, and rests: it is closed, idle or calling
abbrev pub rests : List (ℕ × Facts) → ℕ → Bool
rests points p = is_some (row_of p points) && is_resting (facts_in points p).state

-- the point as a read shows it
abbrev pub view_point : SiteState → ℕ → Option PointView
view_point s p = option_and_then (λ f. Some (point_view f (holder_of s p))) (row_of p s.points)

-- the number of the open shift: the last one with draws, so it is their count
abbrev pub open_shift : SiteState → ℕ
open_shift s = length s.drawn

-- the shift of a sale that a till names: the open one, where it names none
abbrev pub shift_named : SiteState → SaleId → ℕ
shift_named s id = unwrap_or id.shift (open_shift s)

-- the name of the sale of this point that a till calls so
abbrev pub key_named : SiteState → ℕ → SaleId → Key
key_named s p id = key (shift_named s id) p id.seq

-- that sale as a read shows it
abbrev pub view_sale : SiteState → ℕ → SaleId → Option TransactionView
view_sale s p id = view_of_sale (key_named s p id) s.sales

-- today's price of the product of nozzle n of point p, if there is such a nozzle
abbrev pub price_of : List Nozzle → List (ℕ × ℕ) → ℕ → ℕ → Option ℕ
price_of nozzles prices p n = option_and_then (λ q. row_of q prices) (product_of p n nozzles)

-- the price that a fuelling takes which starts at point p by this nozzle, in mills: today's price
-- of the nozzle's product. Without a nozzle nothing starts, and the least price stands for it.
abbrev pub price_at_start : SiteState → ℕ → Option ℕ → ℕ
price_at_start s p None = 1
price_at_start s p (Some n) = unwrap_or (price_of s.nozzles s.prices p n) 1

-- the reading at which such a fuelling starts: the nozzle's last one; without a nozzle, 0
abbrev pub reading_at_start : SiteState → ℕ → Option ℕ → ℕ
reading_at_start s p None = 0
reading_at_start s p (Some n) = reading_of p n s.nozzles
