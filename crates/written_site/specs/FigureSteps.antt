-- How an event moves the figures of the shifts, and why they fit in 64 bits.
use Rattle.std.specs.Prelude.{◌≡◌, ℕ, ◌+◌, ◌^◌, ◌<◌, Bool, true, false, ◌&&◌, ◌==◌, if◌then◌else◌}
use Rattle.std.specs.Prelude.{Some, None, sum_by}
use Rattle.site_base.specs.declared.actor.Actor.{Actor}
use Rattle.site_base.specs.declared.actor.Actor.TheVariants.{Till}
use Rattle.site_base.specs.declared.event.Event.{Event}
use Rattle.site_base.specs.declared.event.Event.TheVariants.{Clear}
use Rattle.site_base.specs.declared.sale.SaleId.{SaleId}
use Rattle.transaction_buffer.specs.Clears.{FitsOneClear}
use Rattle.transaction_buffer.specs.Sales.{Key, Sale, Sales, sale_of, is_unpaid}
use Rattle.written_site.specs.SiteState.{SiteState, key_named, nothing_drawn, open_shift}
use Rattle.written_site.specs.SiteChecks.{at_sale}
use Rattle.written_site.specs.SiteStep.{accepted_site, sales_after}
use Rattle.written_site.specs.ShiftFigures.{clears_in, cents_in, cleared_in, clears_by, cents_by}
use Rattle.written_site.specs.ShiftFigures.{product_cents_in, takings_in, shift_draws, shift_drawn}
use Rattle.written_site.specs.ShiftFigures.{tills}
use Rattle.written_site.specs.Sound.{Sound}
use Rattle.written_site.specs.SoundSteps.{IsTaken, product_at, drawn_at}

-- the event is a clear
abbrev pub is_clear : Event → Bool
is_clear (Clear p id) = true
is_clear event = false

-- One clear more, of sale x by till t in shift h: it counts for this till, shift and product, with
-- its cents and its millilitres. Every other figure stays.
pub record HasClear (old new : Sales) (t h : ℕ) (x : Sale) : Type 0 where
  pub clears : (g u : ℕ)
      → clears_in g u new ≡ clears_in g u old + (if g == h && u == t then 1 else 0)
  pub cents : (g u : ℕ)
      → cents_in g u new ≡ cents_in g u old + (if g == h && u == t then x.cents else 0)
  pub cleared : (g q : ℕ)
      → cleared_in g q new
      ≡ cleared_in g q old + (if g == h && q == x.product then x.volume else 0)
  pub product_cents : (g q : ℕ)
      → product_cents_in g q new
      ≡ product_cents_in g q old + (if g == h && q == x.product then x.cents else 0)
  pub all_clears : (u : ℕ) → clears_by u new ≡ clears_by u old + (if u == t then 1 else 0)
  pub all_cents : (u : ℕ) → cents_by u new ≡ cents_by u old + (if u == t then x.cents else 0)

-- nothing is cleared: the figures of what tills cleared stay
pub record HasSameClears (old new : Sales) : Type 0 where
  pub clears : (g u : ℕ) → clears_in g u new ≡ clears_in g u old
  pub cents : (g u : ℕ) → cents_in g u new ≡ cents_in g u old
  pub cleared : (g q : ℕ) → cleared_in g q new ≡ cleared_in g q old
  pub product_cents : (g q : ℕ) → product_cents_in g q new ≡ product_cents_in g q old
  pub all_clears : (u : ℕ) → clears_by u new ≡ clears_by u old
  pub all_cents : (u : ℕ) → cents_by u new ≡ cents_by u old

-- in shift h nothing is cleared or drawn
pub record IsEmptyShift (s : SiteState) (h : ℕ) : Type 0 where
  pub clears : (t : ℕ) → clears_in h t s.sales ≡ 0
  pub cents : (t : ℕ) → cents_in h t s.sales ≡ 0
  pub cleared : (q : ℕ) → cleared_in h q s.sales ≡ 0
  pub product_cents : (q : ℕ) → product_cents_in h q s.sales ≡ 0
  pub draws : shift_draws s h ≡ nothing_drawn

-- Every figure of shift h fits in 64 bits: of each till, of each product, and the cents of all
-- tills together. So do the clears and the cents of all tills in all shifts, and of each till.
pub record AreFiguresInRange (s : SiteState) (h : ℕ) : Type 0 where
  pub clears : (t : ℕ) → clears_in h t s.sales < 2 ^ 64
  pub cents : (t : ℕ) → cents_in h t s.sales < 2 ^ 64
  pub cleared : (q : ℕ) → cleared_in h q s.sales < 2 ^ 64
  pub product_cents : (q : ℕ) → product_cents_in h q s.sales < 2 ^ 64
  pub drawn : (q : ℕ) → shift_drawn s h q < 2 ^ 64
  pub takings : takings_in h s.sales < 2 ^ 64
  pub all_clears : (t : ℕ) → clears_by t s.sales < 2 ^ 64
  pub all_cents : (t : ℕ) → cents_by t s.sales < 2 ^ 64
  pub clears_together : sum_by (λ t. clears_by t s.sales) tills < 2 ^ 64
  pub cents_together : sum_by (λ t. cents_by t s.sales) tills < 2 ^ 64

-- How an accepted event moves the figures. A clear by till t counts once in the open shift, with
-- the sale that it names. Every other event leaves what was cleared. A draw adds its volume to its
-- product in the open shift; every other event leaves what was drawn. In a shift that isn't open
-- yet nothing is cleared or drawn.
pub record DoFiguresMove : Type 0 where
  pub clears : (s : SiteState) (t p : ℕ) (id : SaleId) (x : Sale)
      → sale_of (key_named s p id) s.sales ≡ Some x → at_sale s (Till t) (Clear p id) ≡ None
      → HasClear s.sales (sales_after s (Till t) (Clear p id)) t (open_shift s) x
  pub keeps : (s : SiteState) (actor : Actor) (event : Event) → is_clear event ≡ false
      → HasSameClears s.sales (sales_after s actor event)
  pub draws : (s : SiteState) (actor : Actor) (event : Event) (g q : ℕ) → Sound s → IsTaken s event
      → shift_drawn (accepted_site s actor event) g q
      ≡ shift_drawn s g q
      + (if g == open_shift s && q == product_at s event then drawn_at s event else 0)
  pub opens : (s : SiteState) (h : ℕ) → Sound s → open_shift s < h → IsEmptyShift s h

-- At a sound site every figure fits in 64 bits, and so does each with one more clear of a sale that
-- isn't cleared.
pub record DoFiguresFit : Type 0 where
  pub fit : (s : SiteState) (h : ℕ) → Sound s → AreFiguresInRange s h
  pub clears : (s : SiteState) (t h : ℕ) (k : Key) (x : Sale) → Sound s → sale_of k s.sales ≡ Some x
      → is_unpaid x.standing ≡ true → FitsOneClear h t x s.sales
