-- The laws of what is sold: at the price of its start, and what flowed since; and no sale is lost.
use Rattle.std.specs.Prelude.{◌≡◌, ℕ, ◌+◌, List, ◌∷◌, ◌++◌, Option, Some, None, unwrap_or, Ok}
use Rattle.site_base.specs.declared.answer.Answer.TheVariants.{Cleared}
use Rattle.site_base.specs.declared.row.Row.{Row}
use Rattle.site_base.specs.Amounts.{amount}
use Rattle.site_base.specs.Configured.{Configured}
use Rattle.transaction_buffer.specs.Sales.{Key, Sale, sale_of}
use Rattle.written_site.specs.FuellingWords.{product_at, growth_at, HasFuelling}
use Rattle.written_site.specs.Histories.{Moment, moments_of}
use Rattle.written_site.specs.SaleWords.{ToldRelease, release_after, sold_as, clears_sale}
use Rattle.written_site.specs.SiteState.{SiteState}

-- the cents of a release that is prepaid
abbrev pub cents_paid : Option ToldRelease → Option ℕ
cents_paid None = None
cents_paid (Some release) = release.prepaid

-- A sale of this name that moment m tells after these moments. A fuelling of its point went on, and
-- the sale has its price, the product of its nozzle, the millilitres that flowed in it, those of m
-- among them, the amount of these at that price, and the cents of the Prepay that released the
-- point, if one did.
pub record IsSoldAsRead (c : Configured) (before : List Moment) (m : Moment) (k : Key) (x : Sale)
    : Type 0 where
  pub nozzle : ℕ
  pub flowed : ℕ
  pub fuelling : HasFuelling c k.point before nozzle x.price flowed
  pub volume : x.volume ≡ flowed + growth_at k.point m
  pub product : x.product ≡ unwrap_or (product_at c k.point nozzle) 0
  pub cents : x.cents ≡ amount x.volume x.price
  pub prepaid : x.prepaid ≡ cents_paid (release_after k.point m.earlier)

-- the sale of this name stands at the site, as it was told
pub record IsKeptAsRead (c : Configured) (before : List Moment) (m : Moment) (k : Key)
    (s : SiteState)
    : Type 0 where
  pub sale : Sale
  pub there : sale_of k s.sales ≡ Some sale
  pub as_read : IsSoldAsRead c before m k sale

-- After a row that tells a sale the sale stands for good, as it was told: at the price that its
-- product had before its fuelling started, whatever prices were given since. A clear of it is
-- answered with its cents.
pub record AreSalesKept (c : Configured) (rows : List Row) (s : SiteState) : Type 0 where
  pub stands : (k : Key) (before since : List Moment) (m : Moment)
      → moments_of c rows ≡ before ++ m ∷ since → sold_as m ≡ Some k
      → IsKeptAsRead c before m k s
  pub cleared : (k : Key) (t : ℕ) (before since : List Moment) (m : Moment) (x : Sale)
      → moments_of c rows ≡ before ++ m ∷ since → clears_sale k m ≡ Some t
      → sale_of k s.sales ≡ Some x → m.row.reply ≡ Ok (Cleared x.cents)

-- a fuelling of point p goes on at the end of these moments, and took this price at its start
pub record IsPricedAtStart (c : Configured) (p : ℕ) (moments : List Moment)
    (price : ℕ) : Type 0 where
  pub nozzle : ℕ
  pub flowed : ℕ
  pub fuelling : HasFuelling c p moments nozzle price flowed

-- the price of each sale is the one that its nozzle's product had before the row that started its
-- fuelling
pub record ArePricedAtStart (c : Configured) (rows : List Row) (s : SiteState) : Type 0 where
  pub priced : (k : Key) (before since : List Moment) (m : Moment) (x : Sale)
      → moments_of c rows ≡ before ++ m ∷ since → sold_as m ≡ Some k
      → sale_of k s.sales ≡ Some x → IsPricedAtStart c k.point before x.price
