-- The moments that rows tell, as JSON. Members stand in the order of their names.
use Rattle.std.specs.Prelude.{ℕ, Bool, true, false, if◌then◌else◌, List, [], ◌∷◌, Option, Some}
use Rattle.std.specs.Prelude.{None, codes, flat_map, map}
use Rattle.serde_json.specs.Data.{Data, null, object, member, no_members}
use Rattle.site_base.specs.declared.config.PointEntry.{PointEntry}
use Rattle.site_base.specs.declared.state.PointState.{PointState}
use Rattle.site_base.specs.declared.state.PointState.TheVariants as points
use Rattle.site_base.specs.declared.view.PointView.{PointView}
use Rattle.written_site.specs.SiteState.{SiteState, view_point}
use Rattle.site_book.specs.Book.{Book, site_of_book}
use Rattle.day_report.specs.Figures.{figure, listed}
use Rattle.row_tally.specs.declared.sold_at.SoldAt.{SoldAt}
use Rattle.row_tally.specs.Moments.{Moments, last_call}
use Rattle.row_tally.specs.Tally.{Tally}
use Rattle.site_json.specs.Figures.{text_if}

-- a point that calls since this time
abbrev pub call_data : ℕ → Option (List ℕ) → Data
call_data p since =
    object (member (codes "point") (figure p) (member (codes "since") (text_if since) no_members))

-- a point in this state calls
abbrev pub is_calling : PointState → Bool
is_calling points.Calling = true
is_calling state = false

-- a point that a read shows so, with the time at which it called last, if it calls
abbrev pub call_if : Moments → ℕ → Option PointView → List Data
call_if m p None = []
call_if m p (Some v) = if is_calling v.state then call_data p (last_call p m) ∷ [] else []

-- the points that call, in the order of the configuration
abbrev pub calls_data : SiteState → Moments → List PointEntry → List Data
calls_data s m entries = flat_map (λ e. call_if m e.number (view_point s e.number)) entries

-- .. if there is a tally
abbrev pub calling_data : Book → Option Tally → Data
calling_data b None = null
calling_data b (Some t) = listed (calls_data (site_of_book b) t.moments b.config.points)

-- when a transaction was sold
abbrev pub sale_data : SoldAt → Data
sale_data x =
    object
    (member (codes "at") (text_if x.at)
    (member (codes "number") (figure x.number)
    (member (codes "point") (figure x.point)
    (member (codes "shift") (figure x.shift)
    no_members))))

-- the transactions that aren't cleared yet, in the order in which they were sold, if there is a
-- tally
abbrev pub sold_data : Option Tally → Data
sold_data None = null
sold_data (Some t) = listed (map sale_data t.moments.sold)
