-- Marks: which places of a history were found receipted.
use Rattle.std.specs.Prelude.{◌≡◌, ℕ, suc, ◌+◌, ◌<◌, ◌≤◌, Bool, true, false, if◌then◌else◌, List}
use Rattle.std.specs.Prelude.{[], ◌∷◌, slice_index_or, ◌⊎◌}
use Rattle.std.specs.List.{AllByRecursion}
use Rattle.site_base.specs.declared.row.Row.{Row}
use Rattle.counter_desk.specs.declared.receipt.Receipt.{Receipt}
use Rattle.counter_desk.specs.Receipts.{StandsAt}
use Rattle.counter_desk.specs.Settlement.{weigh, weigh_all, IsInOrder}

-- the places that are marked, each weighed, where the first mark is of this place
abbrev pub weigh_marks : (ℕ → ℕ) → ℕ → List Bool → ℕ
weigh_marks h from [] = 0
weigh_marks h from (mark ∷ marks) = (if mark then h from else 0) + weigh_marks h (suc from) marks

-- the receipt was marked: it is the row at its place, which isn't below low and wasn't marked
pub record IsMarked (history : List Row) (old new : List Bool) (low : ℕ)
    (r : Receipt) : Type 0 where
  pub above : low ≤ r.place
  pub stands : StandsAt history r
  pub weighed : (h : ℕ → ℕ) → weigh_marks h 0 new ≡ weigh_marks h 0 old + h r.place

-- why a receipt isn't marked
abbrev pub IsUnmarkable : List Row → List Bool → ℕ → Receipt → Type 0
IsUnmarkable history marks low r =
    (StandsAt history r → ⊥) ⊎ ((r.place < low) ⊎ (slice_index_or marks r.place false ≡ true))

-- these receipts were marked, one after another
pub record AreMarked (history : List Row) (old new : List Bool)
    (receipts : List Receipt) : Type 0 where
  pub in_order : IsInOrder history receipts
  pub weighed : (h : ℕ → ℕ) → weigh_marks h 0 new ≡ weigh_marks h 0 old + weigh h receipts

-- so were those of all lists, where nothing was marked before
pub record AreAllMarked (history : List Row) (marks : List Bool)
    (lists : List (List Receipt)) : Type 0 where
  pub in_order : AllByRecursion (IsInOrder history) lists
  pub weighed : (h : ℕ → ℕ) → weigh_marks h 0 marks ≡ weigh_all h lists
