-- Worked locks, clears, prices and shifts, by computing the definitions on a site of which one sale
-- is made: at point 2 in shift 1, 10,000 millilitres of product 1 for 1,500 cents. Tills 1 and 2
-- are signed on, and till 1 is a manager.
use Rattle.std.proofs.Common.{◌≡◌, ℕ, ◌+◌, [], ◌∷◌, Some, None, Ok, Err, if◌then◌else◌, refl, ap}
use Rattle.std.proofs.Common.{◌∙◌, nat_cmp, arith}
use Rattle.std.specs.List.{sum_by}
use Rattle.std.specs.FinMap.{get-empty}
use Rattle.std.specs.FinSet as set
use Rattle.site_base.specs.declared.actor.Actor.TheVariants.{Till, Dispenser}
use Rattle.site_base.specs.declared.answer.Answer.TheVariants.{Done, Locked, Unlocked, Cleared}
use Rattle.site_base.specs.declared.answer.Answer.TheVariants.{ShiftClosed, SiteIs}
use Rattle.site_base.specs.declared.event.Event.TheVariants.{Lock, Unlock, Clear, SetPrice}
use Rattle.site_base.specs.declared.event.Event.TheVariants.{CloseShift, ReadSite}
use Rattle.site_base.specs.declared.refusal.Refusal.TheVariants.{NoSuchProduct, NoSuchTransaction}
use Rattle.site_base.specs.declared.refusal.Refusal.TheVariants.{NotManager, BadPrice, NotYourPoint}
use Rattle.site_base.specs.declared.refusal.Refusal.TheVariants.{LockedByOther, NotLocked}
use Rattle.site_base.specs.declared.refusal.Refusal.TheVariants.{AlreadyCleared}
use Rattle.site_base.specs.declared.sale.SaleId.{SaleId}
use Rattle.transaction_buffer.specs.declared.standing.Standing.{Standing}
use Rattle.transaction_buffer.specs.declared.standing.Standing.TheVariants.{Payable, LockedBy}
use Rattle.transaction_buffer.specs.declared.standing.Standing.TheVariants.{ClearedBy}
use Rattle.transaction_buffer.specs.Sales.{Sale, Sales, key, no_sales, sale_of, with_new}
use Rattle.transaction_buffer.proofs.OnShelves.{nothing_sold}
use Rattle.transaction_buffer.proofs.Reading.{read_after}
use Rattle.transaction_buffer.proofs.Summing.{sold_sum}
use Rattle.written_site.specs.ShiftFigures.{is_clear_of, takings_in, tills}
use Rattle.written_site.specs.SiteState.{SiteState, nothing_drawn, open_shift}
use Rattle.written_site.specs.SiteStep.{reply_to, site_after}
use Rattle.written_site.proofs.FigureBounds.{swapped}
use Rattle.written_site.proofs.WorkedSteps.{first, till_1, till_2, one_of_two, two_of_two}

abbrev pub one_sale : Standing → Sale
one_sale standing = record {
  shift = 1;
  price = 1500;
  volume = 10000;
  cents = 1500;
  prepaid = None;
  product = 1;
  standing = standing;
}

abbrev pub sales_so : Standing → Sales
sales_so standing = with_new 2 (one_sale standing) no_sales

abbrev pub selling : Standing → SiteState
selling standing = record first {
  sales = sales_so standing;
  prices = (1, 1500) ∷ [];
  managers = set.insert set.empty 1;
  signed_on = set.insert (set.insert set.empty 1) 2;
}

-- the same a shift later
abbrev pub next_shift : Standing → SiteState
next_shift standing = record (selling standing) { drawn = nothing_drawn ∷ nothing_drawn ∷ [] }

-- the sale in the open shift, and in shift 1
abbrev open_1 : SaleId
open_1 = record { shift = None; seq = 1 }

abbrev first_1 : SaleId
first_1 = record { shift = Some 1; seq = 1 }

found : (standing : Standing) → sale_of (key 1 2 1) (sales_so standing) ≡ Some (one_sale standing)
found standing =
    read_after.sold 2 (one_sale standing) (key 1 2 1) no_sales ∙ rw (get-empty nat_cmp 2) refl

not_found : (standing : Standing) → sale_of (key 2 2 1) (sales_so standing) ≡ None
not_found standing =
    read_after.sold 2 (one_sale standing) (key 2 2 1) no_sales ∙ rw (get-empty nat_cmp 2) refl

-- ---- locks and clears

locks : reply_to (selling Payable) (Till 2) (Lock 2 open_1) ≡ Ok Locked
locks = rw (two_of_two, found Payable) refl

locks_again : reply_to (selling (LockedBy 2)) (Till 2) (Lock 2 open_1) ≡ Ok Locked
locks_again = rw (two_of_two, found (LockedBy 2)) refl

locked_by_another : reply_to (selling (LockedBy 1)) (Till 2) (Lock 2 open_1) ≡ Err (LockedByOther 1)
locked_by_another = rw (two_of_two, found (LockedBy 1)) refl

cleared_by_another : reply_to (selling (LockedBy 1)) (Till 2) (Clear 2 open_1)
    ≡ Err (LockedByOther 1)
cleared_by_another = rw (two_of_two, found (LockedBy 1)) refl

unlocks : reply_to (selling (LockedBy 2)) (Till 2) (Unlock 2 open_1) ≡ Ok Unlocked
unlocks = rw (two_of_two, found (LockedBy 2)) refl

clears_unlocked : reply_to (selling Payable) (Till 2) (Clear 2 open_1) ≡ Err NotLocked
clears_unlocked = rw (two_of_two, found Payable) refl

clears : reply_to (selling (LockedBy 2)) (Till 2) (Clear 2 open_1) ≡ Ok (Cleared 1500)
clears = rw (two_of_two, found (LockedBy 2)) refl

clears_twice : reply_to (selling (ClearedBy 2 1)) (Till 2) (Clear 2 open_1) ≡ Err (AlreadyCleared 2)
clears_twice = rw (two_of_two, found (ClearedBy 2 1)) refl

-- a sale without a shift is one of the open shift; an earlier shift's is named with it
not_in_this_shift : reply_to (next_shift (LockedBy 2)) (Till 2) (Clear 2 open_1)
    ≡ Err NoSuchTransaction
not_in_this_shift = rw (two_of_two, not_found (LockedBy 2)) refl

of_an_earlier_shift : reply_to (next_shift (LockedBy 2)) (Till 2) (Clear 2 first_1)
    ≡ Ok (Cleared 1500)
of_an_earlier_shift = rw (two_of_two, found (LockedBy 2)) refl

-- a transaction that isn't there comes before the kind of actor
no_sale_there : reply_to (next_shift Payable) (Dispenser 2) (Lock 2 open_1) ≡ Err NoSuchTransaction
no_sale_there = rw (not_found Payable) refl

strange_lock : reply_to (selling Payable) (Dispenser 2) (Lock 2 open_1) ≡ Err NotYourPoint
strange_lock = rw (found Payable) refl

-- ---- prices

price_by_any_till : reply_to (selling Payable) (Till 2) (SetPrice 1 1600) ≡ Err NotManager
price_by_any_till = rw (two_of_two, till_2) refl

price_of_no_product : reply_to (selling Payable) (Till 2) (SetPrice 9 1600) ≡ Err NoSuchProduct
price_of_no_product = rw two_of_two refl

bad_price : reply_to (selling Payable) (Till 1) (SetPrice 1 0) ≡ Err BadPrice
bad_price = rw (one_of_two, till_1) refl

too_dear : reply_to (selling Payable) (Till 1) (SetPrice 1 100000) ≡ Err BadPrice
too_dear = rw (one_of_two, till_1) refl

sets_price : reply_to (selling Payable) (Till 1) (SetPrice 1 1600) ≡ Ok Done
sets_price = rw (one_of_two, till_1) refl

price_is_set : (site_after (selling Payable) (Till 1) (SetPrice 1 1600)).prices ≡ (1, 1600) ∷ []
price_is_set = rw (one_of_two, till_1) refl

-- ---- shifts

close_by_any_till : reply_to (selling Payable) (Till 2) CloseShift ≡ Err NotManager
close_by_any_till = rw (two_of_two, till_2) refl

closes : reply_to (selling Payable) (Till 1) CloseShift ≡ Ok (ShiftClosed 1)
closes = rw (one_of_two, till_1) refl

opens_the_next : open_shift (site_after (selling Payable) (Till 1) CloseShift) ≡ 2
opens_the_next = rw (one_of_two, till_1) refl

-- what the tills took in a shift: the cents of the sale, if it was cleared in it
taken : (h : ℕ) (standing : Standing)
    → takings_in h (sales_so standing)
    ≡ sum_by (λ t. if is_clear_of h t (one_sale standing) then 1500 else 0) tills
taken h standing =
    let cents : ℕ → Sale → ℕ = λ t x. if is_clear_of h t x then x.cents else 0 in
    let of_tills : Sale → ℕ = λ x. sum_by (λ t. cents t x) tills in
    swapped cents tills (sales_so standing)
    ∙ sold_sum of_tills 2 (one_sale standing) no_sales
    ∙ ap (λ (n : ℕ). n + of_tills (one_sale standing)) (nothing_sold of_tills)
    ∙ omega arith

reads_site : reply_to (selling (ClearedBy 2 1)) (Till 1) ReadSite
    ≡ Ok (SiteIs (record { cents = 1500; shift = 1 }))
reads_site =
    let cents : takings_in 1 (sales_so (ClearedBy 2 1)) ≡ 1500 = taken 1 (ClearedBy 2 1) in
    rw (one_of_two, cents) refl

reads_next_shift : reply_to (next_shift (ClearedBy 2 1)) (Till 1) ReadSite
    ≡ Ok (SiteIs (record { cents = 0; shift = 2 }))
reads_next_shift =
    let cents : takings_in 2 (sales_so (ClearedBy 2 1)) ≡ 0 = taken 2 (ClearedBy 2 1) in
    rw (one_of_two, cents) refl
