-- A station as JSON: its site, and among its members what its rows tell, and its name.
use Rattle.std.specs.Prelude.{ℕ, List, Option, codes}
use Rattle.serde_json.specs.Data.{Data, object, put}
use Rattle.site_book.specs.declared.named_sale.NamedSale.{NamedSale}
use Rattle.site_book.specs.Book.{Book}
use Rattle.site_json.specs.declared.sessions.PeerSession.{PeerSession}
use Rattle.site_json.specs.SiteData.{members_of, site_data}
use Rattle.row_tally.specs.Tally.{Tally}
use Rattle.site_json.specs.Figures.{text_if}
use Rattle.site_gaps.specs.GapData.{gaps_data}
use Rattle.site_gaps.specs.JumpData.{jumps_data}
use Rattle.site_gaps.specs.MomentData.{calling_data, sold_data}

-- an object with these calling points, these gaps, these jumps, this name and these times of sales,
-- which stand at the places of their names
abbrev pub with_told : Data → Data → Data → Data → Data → Data → Data
with_told calling gaps jumps name sold site =
    object (put (codes "sold") sold (put (codes "name") name (put (codes "jumps") jumps
    (put (codes "gaps") gaps (put (codes "calling") calling (members_of site))))))

-- the site of a book, with these transactions, so many connections, these sessions, and of its
-- history, if there is one, the time of the open shift's first row and the last seal; since when
-- points call, when what isn't cleared was sold, the open gaps of its rows and their jumps, if
-- there is a tally of them; and the site's name, if it has one
abbrev pub station_data : Book → List NamedSale → ℕ → List PeerSession → Option (List ℕ)
    → Option (List ℕ) → Option (List ℕ) → Option Tally → Option (List ℕ) → Data
station_data b unpaid connections sessions at opened seal tally name =
    with_told (calling_data b tally) (gaps_data tally) (jumps_data tally) (text_if name)
    (sold_data tally) (site_data b unpaid connections sessions at opened seal)
