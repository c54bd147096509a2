-- The sales of a site, and the words that read and change them.
use Rattle.std.specs.Prelude.{◌≡◌, ℕ, ◌+◌, ◌-◌, ◌<◌, ◌≤◌, List, [], ◌∷◌, ◌++◌, map, Bool, true}
use Rattle.std.specs.Prelude.{false, Option, option_map, Some, None, is_some, unwrap_or, ◌&&◌, ◌==◌}
use Rattle.std.specs.Prelude.{nat_lt, if◌then◌else◌}
use Rattle.std.specs.Ordering.{nat_cmp}
use Rattle.std.specs.FinMap as finite
use Rattle.std.specs.FinMap.{FinMap}
use Rattle.site_base.specs.declared.numbers.TheConstants.{GREATEST_SHIFT}
use Rattle.site_base.specs.declared.numbers.TheConstants.{GREATEST_SEQ}
use Rattle.site_base.specs.declared.state.Status.{Status}
use Rattle.site_base.specs.declared.state.Status.TheVariants as statuses
use Rattle.site_base.specs.declared.view.TransactionView.{TransactionView}
use Rattle.transaction_buffer.specs.declared.standing.Standing.{Standing}
use Rattle.transaction_buffer.specs.declared.standing.Standing.TheVariants.{Payable, LockedBy}
use Rattle.transaction_buffer.specs.declared.standing.Standing.TheVariants.{ClearedBy}

-- what a sale is called by: the shift in which it was sold, its fuelling point, and its number
-- there in that shift
pub record Key : Type 0 where
  pub shift : ℕ
  pub point : ℕ
  pub number : ℕ

abbrev pub key : ℕ → ℕ → ℕ → Key
key h p n = record { shift = h; point = p; number = n }

-- a sale: the shift in which it was sold, the price taken, the volume, the amount due, the prepaid
-- cents where it was prepaid, the product, and how it stands
pub record Sale : Type 0 where
  pub shift : ℕ
  pub price : ℕ
  pub volume : ℕ
  pub cents : ℕ
  pub prepaid : Option ℕ
  pub product : ℕ
  pub standing : Standing

-- the points that have sold, each with its sales in the order in which they were made
abbrev pub Sales : Type 0
Sales = FinMap nat_cmp (List Sale)

-- no point has sold anything
abbrev pub no_sales : Sales
no_sales = finite.empty

-- the sales of point p
abbrev pub sales_at : ℕ → Sales → List Sale
sales_at p s = unwrap_or (finite.get s p) []

-- the sale of shift h with number n among a point's sales: the nth of that shift
abbrev pub sale_in : ℕ → ℕ → List Sale → Option Sale
sale_in h n [] = None
sale_in h n (x ∷ xs) =
    if x.shift == h then (if n == 1 then Some x else sale_in h (n - 1) xs) else sale_in h n xs

-- how many of a point's sales are of shift h
abbrev pub made_in : ℕ → List Sale → ℕ
made_in h [] = 0
made_in h (x ∷ xs) = (if x.shift == h then 1 else 0) + made_in h xs

-- a point's sales, with y in the place of the sale of shift h with number n
abbrev pub with_in : ℕ → ℕ → Sale → List Sale → List Sale
with_in h n y [] = []
with_in h n y (x ∷ xs) =
    if x.shift == h then (if n == 1 then y ∷ xs else x ∷ with_in h (n - 1) y xs)
    else x ∷ with_in h n y xs

-- the sale of this name, if there is one
abbrev pub sale_of : Key → Sales → Option Sale
sale_of k s = sale_in k.shift k.number (sales_at k.point s)

abbrev pub has_sale : Key → Sales → Bool
has_sale k s = is_some (sale_of k s)

-- two names of one sale
abbrev pub same_key : Key → Key → Bool
same_key k j = k.point == j.point && (k.shift == j.shift && k.number == j.number)

-- how many sales point p has made in shift h
abbrev pub made_at : ℕ → ℕ → Sales → ℕ
made_at p h s = made_in h (sales_at p s)

-- no sale of point p is of a shift after h
abbrev pub HasNoneLater : ℕ → ℕ → Sales → Type 0
HasNoneLater p h s = (g : ℕ) → h < g → g ≤ GREATEST_SHIFT → made_at p g s ≡ 0

-- the number of the next sale after so many: 1 more, and none after the greatest
abbrev pub next_after : ℕ → Option ℕ
next_after made = if nat_lt made GREATEST_SEQ then Some (made + 1) else None

-- the number of the next sale of point p in shift h
abbrev pub next_number : ℕ → ℕ → Sales → Option ℕ
next_number p h s = next_after (made_at p h s)

-- the name of the next sale of point p in shift h
abbrev pub next_key : ℕ → ℕ → Sales → Key
next_key p h s = key h p (made_at p h s + 1)

-- unpaid: payable or locked
abbrev pub is_unpaid : Standing → Bool
is_unpaid Payable = true
is_unpaid (LockedBy till) = true
is_unpaid (ClearedBy till shift) = false

-- how many of these sales are unpaid
abbrev pub unpaid_among : List Sale → ℕ
unpaid_among [] = 0
unpaid_among (x ∷ xs) = (if is_unpaid x.standing then 1 else 0) + unpaid_among xs

-- how many sales of point p are unpaid
abbrev pub unpaid_at : ℕ → Sales → ℕ
unpaid_at p s = unpaid_among (sales_at p s)

-- the sales, with this one in the place of the one of the same name
abbrev pub with_sale : Key → Sale → Sales → Sales
with_sale k sale s =
    finite.insert s k.point (with_in k.shift k.number sale (sales_at k.point s))

-- one more sale of point p, with the next number of its shift
abbrev pub with_new : ℕ → Sale → Sales → Sales
with_new p sale s = finite.insert s p (sales_at p s ++ sale ∷ [])

-- each sale changed in this way
abbrev pub each_changed : (Sale → Sale) → Sales → Sales
each_changed change s = finite.from_entries (map (λ e. (e.0, map change e.1)) (finite.entries s))

-- the status that a standing is shown as
abbrev pub status_of : Standing → Status
status_of Payable = statuses.Payable
status_of (LockedBy till) = statuses.Locked
status_of (ClearedBy till shift) = statuses.Cleared

-- the till that has locked or cleared it
abbrev pub till_of : Standing → Option ℕ
till_of Payable = None
till_of (LockedBy till) = Some till
till_of (ClearedBy till shift) = Some till

-- a sale as a read shows it
abbrev pub view_of : Sale → TransactionView
view_of x = record {
  price = x.price;
  volume = x.volume;
  cents = x.cents;
  prepaid = x.prepaid;
  status = status_of x.standing;
  till = till_of x.standing;
  product = x.product;
}

-- the sale of this name as a read shows it
abbrev pub view_of_sale : Key → Sales → Option TransactionView
view_of_sale k s = option_map view_of (sale_of k s)

-- payable without a till, or locked with one
abbrev pub begins : Status → Option ℕ → Bool
begins statuses.Payable None = true
begins statuses.Locked (Some till) = true
begins status till = false

-- a new sale is payable without a till, or locked with one
abbrev pub is_new : TransactionView → Bool
is_new v = begins v.status v.till

-- a new sale without a till is payable, with one it is locked by that till
abbrev pub new_standing : Option ℕ → Standing
new_standing None = Payable
new_standing (Some till) = LockedBy till

-- the sale of shift h that such a view shows
abbrev pub new_sale : ℕ → TransactionView → Sale
new_sale h v = record {
  shift = h;
  price = v.price;
  volume = v.volume;
  cents = v.cents;
  prepaid = v.prepaid;
  product = v.product;
  standing = new_standing v.till;
}
