-- What hinders the end of a history: what is unpaid, released or under way.
use Rattle.std.specs.Prelude.{◌≡◌, ℕ, ◌≤◌, ◌/◌, ◌%◌, ◌==◌, Bool, true, false, List, [], ◌∷◌, ◌++◌}
use Rattle.std.specs.Prelude.{codes, decimal, filter, flat_map, map, if◌then◌else◌}
use Rattle.std.specs.List.{range_with_len}
use Rattle.site_base.specs.declared.limits.TheConstants.{POINTS}
use Rattle.site_base.specs.declared.state.PointState.{PointState}
use Rattle.site_base.specs.declared.state.PointState.TheVariants.{Authorised}
use Rattle.fuelling_point.specs.KeptPoints.{is_under_way}
use Rattle.site_book.specs.declared.named_sale.NamedSale.{NamedSale}
use Rattle.site_book.specs.Book.{Book, site_of_book}
use Rattle.site_book.specs.Unpaid.{unpaid_sales}
use Rattle.written_site.specs.SiteState.{SiteState, facts_of}
use Rattle.next_opening.specs.declared.obstacle.Obstacle.{Obstacle}
use Rattle.next_opening.specs.declared.obstacle.Obstacle.TheVariants.{Unpaid, Released, UnderWay}

-- the point is released, and no nozzle is out yet
abbrev pub is_released : PointState → Bool
is_released Authorised = true
is_released state = false

-- so many cents that are unpaid, as money with two decimals: ` is unpaid: 12.34`
abbrev pub money_words : ℕ → List ℕ
money_words cents =
    codes " is unpaid: " ++ decimal (cents / 100) ++ codes "."
    ++ decimal (cents / 10 % 10) ++ decimal (cents % 10)

-- a sale of a point
abbrev pub sale_words : NamedSale → List ℕ
sale_words x = codes "point " ++ decimal x.point ++ codes ": sale " ++ decimal x.number

-- the shift in which it was sold
abbrev pub shift_words : ℕ → List ℕ
shift_words h = codes " of shift " ++ decimal h

-- which sale is unpaid
abbrev pub unpaid_words : NamedSale → List ℕ
unpaid_words x = sale_words x ++ shift_words x.shift

-- an obstacle in words
abbrev pub obstacle_text : Obstacle → List ℕ
obstacle_text (Unpaid x) = unpaid_words x ++ money_words x.sale.cents
obstacle_text (Released p) = codes "point " ++ decimal p ++ codes " is released"
obstacle_text (UnderWay p) = codes "point " ++ decimal p ++ codes ": a fuelling is under way"

-- what hinders at point p in this state
abbrev pub of_state : ℕ → PointState → List Obstacle
of_state p state =
    if is_released state then Released p ∷ []
    else if is_under_way state then UnderWay p ∷ [] else []

-- the sale is one of point p
abbrev pub is_at : ℕ → NamedSale → Bool
is_at p x = x.point == p

-- what hinders at point p: its unpaid sales, in their order, and its state
abbrev pub at_point : SiteState → List NamedSale → ℕ → List Obstacle
at_point s unpaid p =
    map Unpaid (filter (is_at p) unpaid) ++ of_state p (facts_of s p).state

-- the points that a site may have
abbrev pub points : List ℕ
points = range_with_len 1 POINTS

-- what hinders the end of a book's history, point by point
unfoldable pub obstacles : Book → List Obstacle
obstacles b = flat_map (at_point (site_of_book b) (unpaid_sales b)) points

-- nothing is unpaid, and no point is released or has a fuelling under way
pub record IsAtRest (b : Book) : Type 0 where
  pub paid : unpaid_sales b ≡ []
  pub released : (p : ℕ) → 1 ≤ p → p ≤ POINTS
      → is_released (facts_of (site_of_book b) p).state ≡ false
  pub under_way : (p : ℕ) → 1 ≤ p → p ≤ POINTS
      → is_under_way (facts_of (site_of_book b) p).state ≡ false
