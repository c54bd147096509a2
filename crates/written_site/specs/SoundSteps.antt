-- What is promised of an event at a sound site: how it moves the volumes, that what grows fits, and
-- what is true where its point sells or draws.
use Rattle.std.specs.Prelude.{◌≡◌, ◌≢◌, ℕ, ◌+◌, ◌*◌, ◌^◌, ◌<◌, ◌≤◌, Bool, true, false, List, length}
use Rattle.std.specs.Prelude.{Option, Some, None, is_some, unwrap_or}
use Rattle.site_base.specs.declared.actor.Actor.{Actor}
use Rattle.site_base.specs.declared.actor.Actor.TheVariants.{Till}
use Rattle.site_base.specs.declared.event.Event.{Event}
use Rattle.site_base.specs.declared.limits.TheConstants.{PRODUCT_CELLS}
use Rattle.site_base.specs.declared.amounts.TheConstants.{GREATEST_READING}
use Rattle.transaction_buffer.specs.declared.shelf.TheConstants.{UNPAID_LIMIT}
use Rattle.site_base.specs.declared.state.Status.{Status}
use Rattle.site_base.specs.declared.state.Status.TheVariants as statuses
use Rattle.site_base.specs.Members.{member}
use Rattle.fuelling_point.specs.declared.event.PointEvent.{PointEvent}
use Rattle.fuelling_point.specs.declared.step.PointStep.TheVariants.{Sold, Drawn}
use Rattle.fuelling_point.specs.KeptPoints.{FitsGrowth, growth_of}
use Rattle.fuelling_point.specs.Laws.{sold_in, drawn_in, is_end}
use Rattle.fuelling_point.specs.Step.{step_of}
use Rattle.meters.specs.MeteredVolumes.{most_of_a_site, metered_by, product_alone, product_total}
use Rattle.meters.specs.Nozzles.{product_of}
use Rattle.transaction_buffer.specs.declared.request.Request.{Request}
use Rattle.transaction_buffer.specs.Sales.{Key, Sale, HasNoneLater, next_number, sale_of, unpaid_at}
use Rattle.transaction_buffer.specs.Sums.{volume_of, volume_by, volume_with}
use Rattle.transaction_buffer.specs.TransactionTable.{sale_after_request}
use Rattle.written_site.specs.SiteState.{SiteState, facts_of, holder_of, open_shift}
use Rattle.written_site.specs.SiteChecks.{own_event, numbers, at_point, metering, sale_request}
use Rattle.written_site.specs.SiteStep.{step_at, nozzles_after, points_after, sales_after}
use Rattle.written_site.specs.SiteStep.{drawn_after}
use Rattle.written_site.specs.Sound.{InRange, IsPrice, IsSupplied, Sound}
use Rattle.written_site.specs.Volumes.{nozzle_out, product_out, running_at, running_by, sold_by}
use Rattle.written_site.specs.Volumes.{drawn_by, running_volume, adjusted_volume}

-- The event passes the checks on which points and volumes depend: what it names is there, its point
-- takes it, and its meter agrees. Its reading is in range.
pub record IsTaken (s : SiteState) (event : Event) : Type 0 where
  pub names : numbers s event ≡ None
  pub takes : at_point s event ≡ None
  pub reads : metering s event ≡ None
  pub range : InRange event

-- the millilitres that flow in what an event is to its point; in what is nothing to a point, none
abbrev pub growth_by : Option (ℕ × PointEvent) → ℕ
growth_by None = 0
growth_by (Some e) = growth_of e.1

-- the millilitres that flow in an event
abbrev pub growth_at : SiteState → Event → ℕ
growth_at s event = growth_by (own_event s event)

-- the product of the nozzle that is out at the point of an event; of no point, 0
abbrev pub product_by : SiteState → Option (ℕ × PointEvent) → ℕ
product_by s None = 0
product_by s (Some e) = product_out s.nozzles e.0 (facts_of s e.0)

-- the product that an event moves: that of the nozzle that is out at its point
abbrev pub product_at : SiteState → Event → ℕ
product_at s event = product_by s (own_event s event)

-- the millilitres that the event's point sells of it; that it draws of it
abbrev pub sold_at : SiteState → Event → ℕ
sold_at s event = sold_in (step_at s event)

abbrev pub drawn_at : SiteState → Event → ℕ
drawn_at s event = drawn_in (step_at s event)

-- what an event is to its point ends a fuelling: it is a hang up or an offline
abbrev pub ends_by : Option (ℕ × PointEvent) → Bool
ends_by None = false
ends_by (Some e) = is_end e.1

-- How an event moves the volumes, however the products are weighed. What flows in it is metered,
-- and is in the fuelling under way; what is sold or drawn of it leaves the fuelling, and is in the
-- sales or the draws. Nothing else moves.
pub record MovesVolumes (w : ℕ → ℕ) (s : SiteState) (actor : Actor) (event : Event) : Type 0 where
  pub metered : metered_by w (nozzles_after s event)
      ≡ metered_by w s.nozzles + w (product_at s event) * growth_at s event
  pub running : running_by w (nozzles_after s event) (points_after s event)
      + w (product_at s event) * (sold_at s event + drawn_at s event)
      ≡ running_by w s.nozzles s.points + w (product_at s event) * growth_at s event
  pub sold : sold_by w (sales_after s actor event)
      ≡ sold_by w s.sales + w (product_at s event) * sold_at s event
  pub drawn : drawn_by w (drawn_after s event)
      ≡ drawn_by w s.drawn + w (product_at s event) * drawn_at s event

-- the volume of the fuelling at the event's point, with what flows in the event, is one that a
-- meter can show
abbrev pub FitsOwn : SiteState → Option (ℕ × PointEvent) → Type 0
FitsOwn s None = Unit {0}
FitsOwn s (Some e) = FitsGrowth e.1 (facts_of s e.0)

-- What is true where the fuelling at point p is over with an event. The nozzle and the volume that
-- the point tells are what the site reads of it; the volume is a millilitre at least, and one that
-- a meter can show. The nozzle delivers the product that the event moves, of whose volume under way
-- this is a part. A till holds the point.
pub record IsDelivery (s : SiteState) (event : Event) (p nozzle volume : ℕ) : Type 0 where
  pub out : nozzle ≡ nozzle_out (facts_of s p)
  pub run : volume ≡ running_at (nozzles_after s event) p (facts_of s p)
  pub something : 1 ≤ volume
  pub within : volume ≤ GREATEST_READING
  pub product : product_of p nozzle s.nozzles ≡ Some (product_at s event)
  pub still : product_out (nozzles_after s event) p (facts_of s p) ≡ product_at s event
  pub supplied : IsSupplied s (product_at s event)
  pub leaves : volume ≤ running_volume s (product_at s event) + growth_at s event
  pub held : is_some (holder_of s p) ≡ true

-- What is true where it is sold. The price is the one that the fuelling took, and in range. Fewer
-- sales of the point are unpaid than may be, the open shift has a number left for it, and it has no
-- sale of a later shift. With this one, the product's volume in all sales fits in 64 bits.
pub record IsSaleFit (s : SiteState) (event : Event) (p nozzle volume price : ℕ)
    (prepaid : Option ℕ) : Type 0 where
  pub delivery : IsDelivery s event p nozzle volume
  pub taken : price ≡ (facts_of s p).price
  pub paid : prepaid ≡ (facts_of s p).prepaid
  pub in_range : IsPrice price
  pub unpaid : unpaid_at p s.sales < UNPAID_LIMIT
  pub number : is_some (next_number p (open_shift s) s.sales) ≡ true
  pub order : HasNoneLater p (open_shift s) s.sales
  pub sums : volume_of (product_at s event) s.sales + volume < 2 ^ 64

-- the draws of the open shift, a figure for each product
abbrev pub open_draws : SiteState → Option (List ℕ)
open_draws s = member (open_shift s) s.drawn

-- What is true where it is drawn by a test. The open shift has its draws, with a figure for each
-- product. With this one, the figure of the product and all draws of it fit in 64 bits.
pub record IsDrawFit (s : SiteState) (event : Event) (p nozzle volume : ℕ) : Type 0 where
  pub delivery : IsDelivery s event p nozzle volume
  pub noted : is_some (open_draws s) ≡ true
  pub cells : (row : List ℕ) → open_draws s ≡ Some row → length row ≡ PRODUCT_CELLS
  pub figure : (row : List ℕ) → open_draws s ≡ Some row
      → unwrap_or (member (product_at s event) row) 0 + volume < 2 ^ 64
  pub total : adjusted_volume s (product_at s event) + volume < 2 ^ 64

-- How an event moves the volume of product q under way: by what flows in it, less what is sold or
-- drawn, if it moves this product; else not at all.
pub record MovesRunning (s : SiteState) (event : Event) (q : ℕ) : Type 0 where
  pub own : product_at s event ≡ q
      → running_by (product_alone q) (nozzles_after s event) (points_after s event)
      + (sold_at s event + drawn_at s event)
      ≡ running_volume s q + growth_at s event
  pub other : product_at s event ≢ q
      → running_by (product_alone q) (nozzles_after s event) (points_after s event)
      ≡ running_volume s q

-- The volumes of product q: what its meters have counted is in the fuellings under way, in sales of
-- each status and in draws, and it is no more than a site can meter, so that each of them fits in
-- 64 bits.
pub record AddUp (s : SiteState) (q : ℕ) : Type 0 where
  pub whole : product_total q s.nozzles
      ≡ running_volume s q + volume_by q statuses.Payable s.sales
      + volume_by q statuses.Locked s.sales
      + volume_by q statuses.Cleared s.sales + adjusted_volume s q
  pub sold : volume_by q statuses.Payable s.sales + volume_by q statuses.Locked s.sales
      + volume_by q statuses.Cleared s.sales ≡ volume_of q s.sales
  pub most : product_total q s.nozzles ≤ most_of_a_site
  pub fits : product_total q s.nozzles < 2 ^ 64

-- How what a till asks of transaction x moves the volumes by status: the transaction's own leaves
-- the status that it had and joins the one that it has then. Nothing else moves, and the volume of
-- all sales stays.
pub record MovesStatus (s : SiteState) (t : ℕ) (event : Event) (request : Request) (x : Sale)
    : Type 0 where
  pub by_status : (q : ℕ) (status : Status)
      → volume_by q status (sales_after s (Till t) event) + volume_with q status x
      ≡ volume_by q status s.sales + volume_with q status (sale_after_request request t x)
  pub whole : (q : ℕ) → volume_of q (sales_after s (Till t) event) ≡ volume_of q s.sales

-- A sound site's volumes add up, for each product, and an event that the site takes moves them by
-- what flows in it and what is sold or drawn; what a till asks of a transaction moves its volume
-- from status to status.
pub record DoVolumesAddUp : Type 0 where
  pub adds_up : (s : SiteState) (q : ℕ) → Sound s → AddUp s q
  pub moves : (w : ℕ → ℕ) (s : SiteState) (actor : Actor) (event : Event)
      → Sound s → IsTaken s event → MovesVolumes w s actor event
  pub runs : (s : SiteState) (event : Event) (q : ℕ)
      → Sound s → IsTaken s event → MovesRunning s event q
  pub asks : (s : SiteState) (t : ℕ) (event : Event) (request : Request) (k : Key) (x : Sale)
      → sale_request s event ≡ Some (request, k) → sale_of k s.sales ≡ Some x
      → MovesStatus s t event request x

-- At a sound site what flows in an event that the site takes fits in its fuelling, and in 64 bits
-- with all that is under way of its product; and where the point of the event sells or draws, the
-- sale or the draw fits.
pub record FindsRoom : Type 0 where
  pub grows : (s : SiteState) (event : Event) → Sound s → IsTaken s event
      → FitsOwn s (own_event s event)
  pub runs : (s : SiteState) (event : Event) → Sound s → IsTaken s event
      → running_volume s (product_at s event) + growth_at s event < 2 ^ 64
  pub sells : (s : SiteState) (event : Event) (p : ℕ) (own : PointEvent)
      (nozzle volume price : ℕ) (prepaid : Option ℕ)
      → Sound s → IsTaken s event → own_event s event ≡ Some (p, own)
      → step_of own (facts_of s p) ≡ Sold nozzle volume price prepaid
      → IsSaleFit s event p nozzle volume price prepaid
  pub draws : (s : SiteState) (event : Event) (p : ℕ) (own : PointEvent) (nozzle volume : ℕ)
      → Sound s → IsTaken s event → own_event s event ≡ Some (p, own)
      → step_of own (facts_of s p) ≡ Drawn nozzle volume → IsDrawFit s event p nozzle volume
