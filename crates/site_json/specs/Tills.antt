-- A till as JSON. Members stand in the order of their names.
use Rattle.std.specs.Prelude.{ℕ, List, codes, map}
use Rattle.serde_json.specs.Data.{Data, boolean, object, member, no_members}
use Rattle.written_site.specs.ShiftFigures.{cents_in, clears_in, tills}
use Rattle.written_site.specs.SiteState.{SiteState, is_signed_on, open_shift}
use Rattle.day_report.specs.Figures.{figure}

-- a till: whether it is signed on, and its clears in the open shift with their cents
abbrev pub till_data : SiteState → ℕ → Data
till_data s t =
    object
    (member (codes "cents") (figure (cents_in (open_shift s) t s.sales))
    (member (codes "clears") (figure (clears_in (open_shift s) t s.sales))
    (member (codes "number") (figure t)
    (member (codes "signed on") (boolean (is_signed_on s t))
    no_members))))

-- the tills that a site may have
abbrev pub tills_data : SiteState → List Data
tills_data s = map (till_data s) tills
