-- How the buffer keeps the sales: on a shelf for each point, each shift's sales one behind the
-- other.
use Rattle.std.specs.Prelude.{◌≡◌, ℕ, ◌+◌, ◌-◌, ◌<◌, ◌≤◌, List, [], ◌∷◌, length, map, Option}
use Rattle.std.specs.Prelude.{option_map, Some, None, ◌==◌, if◌then◌else◌, slice_index_or}
use Rattle.std.specs.FinMap as finite
use Rattle.transaction_buffer.specs.declared.shelf.TheConstants.{UNPAID_LIMIT}
use Rattle.site_base.specs.declared.numbers.TheConstants.{GREATEST_SHIFT}
use Rattle.site_base.specs.declared.numbers.TheConstants.{GREATEST_SEQ}
use Rattle.site_base.specs.Cells.{entries_from}
use Rattle.transaction_buffer.specs.declared.locked_points.Lockers.{Lockers}
use Rattle.transaction_buffer.specs.declared.span.Span.{Span}
use Rattle.transaction_buffer.specs.Sales.{Sale, Sales, unpaid_among}
use Rattle.transaction_buffer.specs.Sums.{sum_among}
use Rattle.transaction_buffer.specs.UnpaidPlaces.{AreUnpaid}

-- the sales of a point, how many more there is room for, and the tills that have locked the sales
-- at its two unpaid places
pub record Shelf : Type 0 where
  pub sales : List Sale
  pub room : ℕ
  pub lockers : Lockers

-- a point that has sold nothing has no sales to show
abbrev pub stock : List Sale → Option (List Sale)
stock [] = None
stock (x ∷ xs) = Some (x ∷ xs)

-- the sales on the shelves of the points from 1 on
abbrev pub sales_on : List Shelf → Sales
sales_on shelves = finite.from_entries (entries_from 1 (map (λ x. stock x.sales) shelves))

abbrev pub rooms_on : List Shelf → List ℕ
rooms_on shelves = map (λ x. x.room) shelves

-- a figure summed over the sales on these shelves
abbrev pub sum_on : (Sale → ℕ) → List Shelf → ℕ
sum_on figure [] = 0
sum_on figure (x ∷ xs) = sum_among figure x.sales + sum_on figure xs

-- the shifts of some sales
abbrev pub shifts_of : List Sale → List ℕ
shifts_of xs = map (λ x. x.shift) xs

-- how many of these shifts are h
abbrev pub count_in : ℕ → List ℕ → ℕ
count_in h [] = 0
count_in h (g ∷ gs) = (if g == h then 1 else 0) + count_in h gs

-- the place of the nth of these shifts that is h
abbrev pub place_in : ℕ → ℕ → List ℕ → Option ℕ
place_in h n [] = None
place_in h n (g ∷ gs) =
    if g == h then (if n == 1 then Some 0 else option_map (λ i. i + 1) (place_in h (n - 1) gs))
    else option_map (λ i. i + 1) (place_in h n gs)

-- none of these shifts is after h, up to the greatest
abbrev pub NoneAfter : ℕ → List ℕ → Type 0
NoneAfter h gs = (g : ℕ) → h < g → g ≤ GREATEST_SHIFT → count_in g gs ≡ 0

-- the span of shift h tells how many of these shifts are h, and where each of them stands; where
-- none is after h, it ends with the last one
pub record IsSpan (h : ℕ) (gs : List ℕ) (span : Span) : Type 0 where
  pub counts : span.count ≡ count_in h gs
  pub few : span.count ≤ GREATEST_SEQ
  pub places : (n : ℕ) → n < span.count → place_in h (n + 1) gs ≡ Some (span.first + n)
  pub ends : NoneAfter h gs → 0 < span.count → span.first + span.count ≡ length gs

-- no sales
abbrev pub no_span : Span
no_span = record { first = 0; count = 0 }

-- each shift's span stands in its cell; where there is no such cell, the shift has no sales
abbrev pub AreSpans : List ℕ → List Span → Type 0
AreSpans gs spans = (h : ℕ) → 1 ≤ h → h ≤ GREATEST_SHIFT
    → IsSpan h gs (slice_index_or spans (h - 1) no_span)

-- what a shelf always is
pub record IsShelf (xs : List Sale) (cells : List Span) (one other : Option ℕ) : Type 0 where
  pub unpaid : unpaid_among xs ≤ UNPAID_LIMIT
  pub places : AreUnpaid xs one other
  pub few : length cells ≤ GREATEST_SHIFT
  pub spans : AreSpans (shifts_of xs) cells
