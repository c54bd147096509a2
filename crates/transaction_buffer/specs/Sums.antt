-- Sums over the sales.
use Rattle.std.specs.Prelude.{ℕ, ◌+◌, List, [], ◌∷◌, Bool, true, false, ◌&&◌, ◌==◌, if◌then◌else◌}
use Rattle.std.specs.FinMap as finite
use Rattle.site_base.specs.declared.state.Status.{Status}
use Rattle.site_base.specs.declared.state.Status.TheVariants as statuses
use Rattle.transaction_buffer.specs.declared.standing.Standing.{Standing}
use Rattle.transaction_buffer.specs.declared.standing.Standing.TheVariants.{Payable, LockedBy}
use Rattle.transaction_buffer.specs.declared.standing.Standing.TheVariants.{ClearedBy}
use Rattle.transaction_buffer.specs.Sales.{Sale, Sales}
use Rattle.transaction_buffer.specs.TransactionTable.{is_locked_by}

-- a figure summed over some sales
abbrev pub sum_among : (Sale → ℕ) → List Sale → ℕ
sum_among figure [] = 0
sum_among figure (x ∷ xs) = figure x + sum_among figure xs

-- the same over the sales of some points
abbrev pub sum_over : (Sale → ℕ) → List (ℕ × List Sale) → ℕ
sum_over figure [] = 0
sum_over figure (e ∷ es) = sum_among figure e.1 + sum_over figure es

-- a figure summed over every sale
abbrev pub sum_of : (Sale → ℕ) → Sales → ℕ
sum_of figure s = sum_over figure (finite.entries s)

-- a sale that stands so has this status
abbrev pub has_status : Status → Standing → Bool
has_status statuses.Payable Payable = true
has_status statuses.Locked (LockedBy till) = true
has_status statuses.Cleared (ClearedBy till shift) = true
has_status status standing = false

-- the millilitres of product q in a sale
abbrev pub volume_in : ℕ → Sale → ℕ
volume_in q x = if x.product == q then x.volume else 0

-- the cents of a sale, if it is of product q
abbrev pub product_cents : ℕ → Sale → ℕ
product_cents q x = if x.product == q then x.cents else 0

-- the millilitres of product q in a sale, if it has this status
abbrev pub volume_with : ℕ → Status → Sale → ℕ
volume_with q status x = if x.product == q && has_status status x.standing then x.volume else 0

-- the millilitres of product q in all sales
abbrev pub volume_of : ℕ → Sales → ℕ
volume_of q s = sum_of (volume_in q) s

-- the millilitres of product q in the sales of this status
abbrev pub volume_by : ℕ → Status → Sales → ℕ
volume_by q status s = sum_of (volume_with q status) s

-- the millilitres of product q in a sale, if till t has locked it
abbrev pub volume_locked_by : ℕ → ℕ → Sale → ℕ
volume_locked_by q t x = if is_locked_by t x.standing then volume_in q x else 0

-- the millilitres of product q in the sales that till t has locked
abbrev pub locked_volume : ℕ → ℕ → Sales → ℕ
locked_volume q t s = sum_of (volume_locked_by q t) s
