-- The laws of room and numbers: a sale finds both, and its number is the next one of its point in
-- its shift.
use Rattle.std.specs.Prelude.{◌≡◌, ℕ, ◌+◌, ◌<◌, ◌≤◌, Bool, false, ◌&&◌, ◌==◌, List, ◌∷◌, ◌++◌}
use Rattle.std.specs.Prelude.{Option, Some, None, is_ok}
use Rattle.site_base.specs.declared.event.Event.{Event}
use Rattle.site_base.specs.declared.event.Event.TheVariants.{Clear}
use Rattle.transaction_buffer.specs.declared.shelf.TheConstants.{UNPAID_LIMIT}
use Rattle.site_base.specs.declared.numbers.TheConstants.{GREATEST_SEQ}
use Rattle.site_base.specs.declared.row.Row.{Row}
use Rattle.site_base.specs.Configured.{Configured}
use Rattle.transaction_buffer.specs.Sales.{Key, unpaid_at}
use Rattle.written_site.specs.SiteState.{SiteState}
use Rattle.written_site.specs.Histories.{Moment, moments_of}
use Rattle.written_site.specs.RowWords.{count}
use Rattle.written_site.specs.SaleWords.{sold_as}

-- a sale of this name is one of point p in shift h
abbrev pub is_key_of : ℕ → ℕ → Option Key → Bool
is_key_of p h None = false
is_key_of p h (Some k) = k.point == p && k.shift == h

-- a moment sells at point p in shift h
abbrev pub sells_in : ℕ → ℕ → Moment → Bool
sells_in p h m = is_key_of p h (sold_as m)

-- a sale of this name is one of point p
abbrev pub is_key_at : ℕ → Option Key → Bool
is_key_at p None = false
is_key_at p (Some k) = k.point == p

-- a moment sells at point p
abbrev pub sells_at : ℕ → Moment → Bool
sells_at p m = is_key_at p (sold_as m)

-- the event clears a transaction of point p
abbrev pub clear_at : ℕ → Event → Bool
clear_at p (Clear q id) = q == p
clear_at p event = false

-- an accepted Clear of a transaction of point p
abbrev pub clears_at : ℕ → Moment → Bool
clears_at p m = is_ok m.row.reply && clear_at p m.row.event

-- The sales of a point in a shift are told under the numbers 1, 2, 3 and so on, none above the
-- greatest. Before each of them fewer of the point's sales have no clear yet than may be unpaid,
-- and never are there more. The unpaid sales of the site are those without a clear.
pub record AreNumbered (c : Configured) (rows : List Row) (s : SiteState) : Type 0 where
  pub next : (k : Key) (before since : List Moment) (m : Moment)
      → moments_of c rows ≡ before ++ m ∷ since → sold_as m ≡ Some k
      → k.number ≡ count (sells_in k.point k.shift) before + 1
  pub within : (k : Key) (before since : List Moment) (m : Moment)
      → moments_of c rows ≡ before ++ m ∷ since → sold_as m ≡ Some k → k.number ≤ GREATEST_SEQ
  pub room : (k : Key) (before since : List Moment) (m : Moment)
      → moments_of c rows ≡ before ++ m ∷ since → sold_as m ≡ Some k
      → count (sells_at k.point) before < count (clears_at k.point) before + UNPAID_LIMIT
  pub few : (p : ℕ) → count (sells_at p) (moments_of c rows)
      ≤ count (clears_at p) (moments_of c rows) + UNPAID_LIMIT
  pub unpaid : (p : ℕ) → unpaid_at p s.sales + count (clears_at p) (moments_of c rows)
      ≡ count (sells_at p) (moments_of c rows)
