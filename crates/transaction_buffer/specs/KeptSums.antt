-- The sums that the buffer keeps: for each product one for each status.
use Rattle.std.specs.Prelude.{◌≡◌, ℕ, ◌+◌, ◌-◌, ◌^◌, ◌<◌, ◌≤◌, slice_index}
use Rattle.site_base.specs.declared.limits.TheConstants.{PRODUCTS}
use Rattle.site_base.specs.declared.state.Status.{Status}
use Rattle.site_base.specs.declared.state.Status.TheVariants as statuses
use Rattle.transaction_buffer.specs.declared.sums.Sums.{Sums}
use Rattle.transaction_buffer.specs.Sales.{Sale, Sales}
use Rattle.transaction_buffer.specs.Sums.{volume_of, volume_by, volume_with}

-- the kept sum of product q and this status
abbrev pub kept_sum : ℕ → Status → Sums → ℕ
kept_sum q statuses.Payable sums = slice_index sums.payable (q - 1)
kept_sum q statuses.Locked sums = slice_index sums.locked (q - 1)
kept_sum q statuses.Cleared sums = slice_index sums.cleared (q - 1)

-- each kept sum is that of the sales, and the volume of a product in all sales fits in 64 bits
pub record AreSums (s : Sales) (sums : Sums) : Type 0 where
  pub fit : (q : ℕ) → volume_of q s < 2 ^ 64
  pub kept : (q : ℕ) (status : Status) → 1 ≤ q → q ≤ PRODUCTS
      → kept_sum q status sums ≡ volume_by q status s

-- the sums with this sale's volume too
abbrev pub AreWith : Sale → Sums → Sums → Type 0
AreWith x old new = (q : ℕ) (status : Status) → 1 ≤ q → q ≤ PRODUCTS
    → kept_sum q status new ≡ kept_sum q status old + volume_with q status x

-- the sums have room to let so many millilitres of each product go: they are among the locked ones,
-- and fit with the payable ones
pub record CanMove (volume : ℕ → ℕ) (sums : Sums) : Type 0 where
  pub among : (q : ℕ) → 1 ≤ q → q ≤ PRODUCTS → volume q ≤ kept_sum q statuses.Locked sums
  pub fits : (q : ℕ) → 1 ≤ q → q ≤ PRODUCTS
      → kept_sum q statuses.Payable sums + volume q < 2 ^ 64

-- the sums once so many millilitres of each product, which were locked, are payable
pub record AreMoved (volume : ℕ → ℕ) (old new : Sums) : Type 0 where
  pub payable : (q : ℕ) → 1 ≤ q → q ≤ PRODUCTS
      → kept_sum q statuses.Payable new ≡ kept_sum q statuses.Payable old + volume q
  pub locked : (q : ℕ) → 1 ≤ q → q ≤ PRODUCTS
      → kept_sum q statuses.Locked new + volume q ≡ kept_sum q statuses.Locked old
  pub cleared : (q : ℕ) → 1 ≤ q → q ≤ PRODUCTS
      → kept_sum q statuses.Cleared new ≡ kept_sum q statuses.Cleared old

-- the sums without this sale's volume
abbrev pub AreWithout : Sale → Sums → Sums → Type 0
AreWithout x old new = (q : ℕ) (status : Status) → 1 ≤ q → q ≤ PRODUCTS
    → kept_sum q status new + volume_with q status x ≡ kept_sum q status old
