-- The laws of locks and clears: no transaction has two lockers at once, or two clears.
use Rattle.std.specs.Prelude.{◌≡◌, ◌≢◌, ◌↔◌, ℕ, true, false, List, ◌∷◌, ◌++◌, Some, is_some}
use Rattle.std.specs.List.{list_any}
use Rattle.site_base.specs.declared.row.Row.{Row}
use Rattle.site_base.specs.Configured.{Configured}
use Rattle.transaction_buffer.specs.Sales.{Key}
use Rattle.transaction_buffer.specs.TransactionTable.{locker_of}
use Rattle.written_site.specs.SiteState.{SiteState}
use Rattle.written_site.specs.Histories.{Moment, moments_of}
use Rattle.written_site.specs.SaleWords.{locks_sale, lets_go, ends_lock, clears_sale}
use Rattle.written_site.specs.Slots.{IsLastTake}

-- Between rows that lock a transaction for two different tills stands an Unlock of it by the first,
-- or its SignOff. The locks of the site are exactly the locking rows that no accepted Unlock or
-- Clear of the transaction and no SignOff of that till follows.
pub record AreLockedByOne (c : Configured) (rows : List Row) (s : SiteState) : Type 0 where
  pub one : (k : Key) (t u : ℕ) (before between since : List Moment) (first second : Moment)
      → moments_of c rows ≡ before ++ first ∷ between ++ second ∷ since
      → locks_sale k first ≡ Some t → locks_sale k second ≡ Some u → t ≢ u
      → list_any (lets_go k t) between ≡ true
  pub unended : (k : Key) (t : ℕ)
      → (locker_of k s.sales ≡ Some t)
      ↔ IsLastTake (locks_sale k) (ends_lock k) t (moments_of c rows)

-- No transaction is cleared twice. The till that clears one is the last for which a row locked it,
-- and that lock hasn't ended.
pub record AreClearedOnce (c : Configured) (rows : List Row) (s : SiteState) : Type 0 where
  pub once : (k : Key) (t : ℕ) (before since : List Moment) (m : Moment)
      → moments_of c rows ≡ before ++ m ∷ since → clears_sale k m ≡ Some t
      → list_any (λ x. is_some (clears_sale k x)) since ≡ false
  pub locked : (k : Key) (t : ℕ) (before since : List Moment) (m : Moment)
      → moments_of c rows ≡ before ++ m ∷ since → clears_sale k m ≡ Some t
      → IsLastTake (locks_sale k) (ends_lock k) t before
