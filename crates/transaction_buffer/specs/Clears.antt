-- What was cleared: by each till and of each product, in one shift and in all.
use Rattle.std.specs.Prelude.{ℕ, ◌+◌, ◌^◌, ◌<◌, Bool, false, ◌&&◌, ◌==◌, if◌then◌else◌}
use Rattle.transaction_buffer.specs.declared.standing.Standing.{Standing}
use Rattle.transaction_buffer.specs.declared.standing.Standing.TheVariants.{ClearedBy}
use Rattle.transaction_buffer.specs.Sales.{Sale, Sales}
use Rattle.transaction_buffer.specs.Sums.{product_cents, sum_of, volume_in}

-- a sale that stands so is cleared by till t
abbrev pub is_cleared_by : ℕ → Standing → Bool
is_cleared_by t (ClearedBy till shift) = till == t
is_cleared_by t standing = false

-- a sale that stands so is cleared in shift h
abbrev pub is_cleared_in : ℕ → Standing → Bool
is_cleared_in h (ClearedBy till shift) = shift == h
is_cleared_in h standing = false

-- the sale is cleared in shift h by till t
abbrev pub is_clear_of : ℕ → ℕ → Sale → Bool
is_clear_of h t x = is_cleared_in h x.standing && is_cleared_by t x.standing

-- how many sales till t cleared in shift h
abbrev pub clears_in : ℕ → ℕ → Sales → ℕ
clears_in h t sales = sum_of (λ x. if is_clear_of h t x then 1 else 0) sales

-- the cents of the sales that till t cleared in shift h
abbrev pub cents_in : ℕ → ℕ → Sales → ℕ
cents_in h t sales = sum_of (λ x. if is_clear_of h t x then x.cents else 0) sales

-- the millilitres of product q that were cleared in shift h
abbrev pub cleared_in : ℕ → ℕ → Sales → ℕ
cleared_in h q sales = sum_of (λ x. if is_cleared_in h x.standing then volume_in q x else 0) sales

-- the cents of what was cleared of product q in shift h
abbrev pub product_cents_in : ℕ → ℕ → Sales → ℕ
product_cents_in h q sales =
    sum_of (λ x. if is_cleared_in h x.standing then product_cents q x else 0) sales

-- how many sales till t cleared in all shifts
abbrev pub clears_by : ℕ → Sales → ℕ
clears_by t sales = sum_of (λ x. if is_cleared_by t x.standing then 1 else 0) sales

-- the cents of the sales that till t cleared in all shifts
abbrev pub cents_by : ℕ → Sales → ℕ
cents_by t sales = sum_of (λ x. if is_cleared_by t x.standing then x.cents else 0) sales

-- one more clear, of sale x by till t in shift h, fits in 64 bits: in the figures of that shift,
-- and in all that the till cleared
pub record FitsOneClear (h t : ℕ) (x : Sale) (sales : Sales) : Type 0 where
  pub clears : clears_in h t sales + 1 < 2 ^ 64
  pub cents : cents_in h t sales + x.cents < 2 ^ 64
  pub cleared : cleared_in h x.product sales + x.volume < 2 ^ 64
  pub product_cents : product_cents_in h x.product sales + x.cents < 2 ^ 64
  pub all_clears : clears_by t sales + 1 < 2 ^ 64
  pub all_cents : cents_by t sales + x.cents < 2 ^ 64
