-- What a site always keeps: the facts on which the code of the site and its laws rely. An opening
-- site has them, and every event leaves them.
use Rattle.std.specs.Prelude.{◌≡◌, ℕ, ◌+◌, ◌<◌, ◌≤◌, Bool, true, false, List, map, length, Some}
use Rattle.std.specs.Prelude.{is_some, IfSome, ◌==◌, nat_eq, nat_le}
use Rattle.std.specs.List.{list_all}
use Rattle.site_base.specs.declared.actor.Actor.{Actor}
use Rattle.site_base.specs.declared.config.NozzleEntry.{NozzleEntry}
use Rattle.site_base.specs.declared.event.Event.{Event}
use Rattle.site_base.specs.declared.amounts.TheConstants.{GREATEST_PRICE}
use Rattle.site_base.specs.declared.amounts.TheConstants.{GREATEST_READING}
use Rattle.site_base.specs.declared.numbers.TheConstants.{GREATEST_SHIFT}
use Rattle.site_base.specs.declared.numbers.TheConstants.{GREATEST_SEQ}
use Rattle.site_base.specs.declared.limits.TheConstants.{PRODUCT_CELLS, PRODUCTS}
use Rattle.transaction_buffer.specs.declared.shelf.TheConstants.{UNPAID_LIMIT}
use Rattle.site_base.specs.Amounts.{amount}
use Rattle.site_base.specs.Ranges.{is_between}
use Rattle.site_base.specs.declared.config.ProductEntry.{ProductEntry}
use Rattle.site_base.specs.Configured.{Configured, none_alike, is_site}
use Rattle.site_base.specs.Events.{reading_carried}
use Rattle.site_base.specs.Prices.{prices_of, are_in_range}
use Rattle.site_base.specs.Table.{row_of}
use Rattle.fuelling_point.specs.KeptPoints.{Facts, is_under_way}
use Rattle.fuelling_point.specs.Whole.{IsWhole, is_released}
use Rattle.meters.specs.MeteredVolumes.{metered_by}
use Rattle.meters.specs.Nozzles.{AreNozzles, has_nozzle, product_of, reading_of}
use Rattle.transaction_buffer.specs.declared.standing.Standing.{Standing}
use Rattle.transaction_buffer.specs.declared.standing.Standing.TheVariants.{Payable, LockedBy}
use Rattle.transaction_buffer.specs.declared.standing.Standing.TheVariants.{ClearedBy}
use Rattle.transaction_buffer.specs.Sales.{Key, Sale, sale_of, made_at, unpaid_at}
use Rattle.written_site.specs.SiteState.{SiteState, opening, holder_of, is_signed_on, open_shift}
use Rattle.written_site.specs.SiteStep.{site_after}
use Rattle.written_site.specs.Volumes.{nozzle_out, running_by, sold_by, drawn_by}

-- a price that a product may have, in mills per litre
pub record IsPrice (price : ℕ) : Type 0 where
  pub low : 1 ≤ price
  pub high : price ≤ GREATEST_PRICE

-- the point may make one more sale: fewer of its sales are unpaid than may be, and the open shift
-- has a number left for it
pub record MaySell (s : SiteState) (p : ℕ) : Type 0 where
  pub unpaid : unpaid_at p s.sales < UNPAID_LIMIT
  pub number : made_at p (open_shift s) s.sales < GREATEST_SEQ

-- What a point of the site always is. It is whole. A nozzle that is out is one of its own. Where it
-- is released, a till holds it. Where a fuelling is under way, the volume since its start is what
-- the nozzle's meter has grown, and the price that it took is one that a product may have. Where it
-- is released for a sale, it may make one.
pub record IsPointSound (s : SiteState) (p : ℕ) (f : Facts) : Type 0 where
  pub whole : IsWhole f
  pub nozzle : (n : ℕ) → f.out ≡ Some n → has_nozzle p n s.nozzles ≡ true
  pub held : is_released f.state ≡ true → is_some (holder_of s p) ≡ true
  pub flowed : is_under_way f.state ≡ true
      → f.start + f.volume ≡ reading_of p (nozzle_out f) s.nozzles
  pub price : is_under_way f.state ≡ true → IsPrice f.price
  pub room : is_released f.state ≡ true → f.test ≡ false → MaySell s p

-- a product that a nozzle delivers: it has a price, and a number that a product may have
pub record IsSupplied (s : SiteState) (q : ℕ) : Type 0 where
  pub low : 1 ≤ q
  pub high : q ≤ PRODUCT_CELLS
  pub priced : is_some (row_of q s.prices) ≡ true

-- what a sale always is: of a millilitre at least, at a price that a product may have, and of the
-- amount of its volume at its price
pub record IsSaleSound (x : Sale) : Type 0 where
  pub something : 1 ≤ x.volume
  pub price : IsPrice x.price
  pub cents : x.cents ≡ amount x.volume x.price

-- how a sale may stand: its locker is signed on; it wasn't cleared in a shift to come
abbrev pub IsStanding : SiteState → Standing → Type 0
IsStanding s Payable = Unit {0}
IsStanding s (LockedBy t) = is_signed_on s t ≡ true
IsStanding s (ClearedBy t h) = h ≤ open_shift s

-- a number that a shift may have
pub record IsShift (h : ℕ) : Type 0 where
  pub low : 1 ≤ h
  pub high : h ≤ GREATEST_SHIFT

-- the points' numbers, in configured order
abbrev pub numbers_of : List (ℕ × Facts) → List ℕ
numbers_of points = map (λ e. e.0) points

-- the draws of a shift have a figure for each product
abbrev pub is_draw_row : List ℕ → Bool
is_draw_row row = length row == PRODUCT_CELLS

-- What a site always is. No point number stands twice, and each point, product and sale is as it
-- always is; so is each nozzle, and there are no more of them than a site can have. At every point,
-- released or not, no more sales are unpaid than may be. No sale is of a shift after the open one,
-- or cleared in one, and the locker of a sale is signed on. The number of the open shift is one
-- that a shift may have, and each shift has a figure of draws for each product. And however the
-- products are weighed: what the meters have counted is in the fuellings under way, in sales and in
-- draws.
pub record Sound (s : SiteState) : Type 0 where
  pub numbers : none_alike nat_eq (numbers_of s.points) ≡ true
  pub points : (p : ℕ) (f : Facts) → row_of p s.points ≡ Some f → IsPointSound s p f
  pub products : (p n q : ℕ) → product_of p n s.nozzles ≡ Some q → IsSupplied s q
  pub prices : are_in_range s.prices ≡ true
  pub meters : AreNozzles s.nozzles
  pub unpaid : (p : ℕ) → unpaid_at p s.sales ≤ UNPAID_LIMIT
  pub order : (p h : ℕ) → open_shift s < h → made_at p h s.sales ≡ 0
  pub sales : (k : Key) (x : Sale) → sale_of k s.sales ≡ Some x → IsSaleSound x
  pub standings : (k : Key) (x : Sale) → sale_of k s.sales ≡ Some x → IsStanding s x.standing
  pub shift : IsShift (open_shift s)
  pub draws : list_all is_draw_row s.drawn ≡ true
  pub conserved : (w : ℕ → ℕ) → metered_by w s.nozzles
      ≡ running_by w s.nozzles s.points + sold_by w s.sales + drawn_by w s.drawn

-- the reading that an event carries is one that a meter can show
abbrev pub InRange : Event → Type 0
InRange event = IfSome (reading_carried event) (λ reading. reading ≤ GREATEST_READING)

-- each product's number is one that a product may have
abbrev pub are_numbered : List ProductEntry → Bool
are_numbered products = list_all (λ p. is_between 1 PRODUCTS p.number) products

-- each of these nozzles has an opening reading that a meter can show
abbrev pub are_readable : List NozzleEntry → Bool
are_readable nozzles = list_all (λ n. nat_le n.reading GREATEST_READING) nozzles

-- a configuration that a site can open from: it is fit, and each product's number, each price and
-- each nozzle's reading is in its range
pub record IsFit (c : Configured) : Type 0 where
  pub site : is_site c ≡ true
  pub products : are_numbered c.products ≡ true
  pub prices : are_in_range (prices_of c.products) ≡ true
  pub readings : list_all (λ p. are_readable p.nozzles) c.points ≡ true

-- the opening site of each such configuration is sound, and each event leaves a sound site sound
pub record StaysSound : Type 0 where
  pub opens : (c : Configured) → IsFit c → Sound (opening c)
  pub keeps : (s : SiteState) (actor : Actor) (event : Event) → InRange event → Sound s
      → Sound (site_after s actor event)
