-- A site as JSON: what stands at its points, in its products, at its tills and unpaid. Members
-- stand in the order of their names.
use Rattle.std.specs.Prelude.{ℕ, List, Option, codes, length}
use Rattle.serde_json.specs.Data.{Data, object, Members, member, no_members, put}
use Rattle.site_book.specs.declared.named_sale.NamedSale.{NamedSale}
use Rattle.site_book.specs.Book.{Book, site_of_book}
use Rattle.written_site.specs.ShiftFigures.{product_totals}
use Rattle.written_site.specs.SiteState.{open_shift}
use Rattle.day_report.specs.Figures.{figure, listed}
use Rattle.kept_history.specs.KeptRows.{kept_rows}
use Rattle.site_json.specs.Figures.{sum_data, text_if}
use Rattle.site_json.specs.declared.sessions.PeerSession.{PeerSession}
use Rattle.site_json.specs.Points.{points_data}
use Rattle.site_json.specs.Sessions.{sessions_data}
use Rattle.day_report.specs.Products.{products_data}
use Rattle.site_json.specs.ShiftProducts.{open_products}
use Rattle.site_json.specs.Tills.{tills_data}
use Rattle.site_json.specs.Transactions.{cents_of, dues_of, transactions_data}

-- a book's figures at this time, with so many connections, of its history this time of the open
-- shift's first row and this last seal, with these lists of what stands at its site, sessions among
-- them, and with these cents of what is unpaid
abbrev pub figure_members : Book → Data → ℕ → Data → Data → Data → Data → Data → Data → Data → Data
    → Members
figure_members b at connections opened seal points products sessions tills transactions unpaid =
    member (codes "at") at
    (member (codes "connections") (figure connections)
    (member (codes "opened") opened
    (member (codes "points") points
    (member (codes "products") products
    (member (codes "rows") (figure (length (kept_rows b.rows)))
    (member (codes "seal") seal
    (member (codes "sessions") sessions
    (member (codes "shift") (figure (open_shift (site_of_book b)))
    (member (codes "tills") tills
    (member (codes "transactions") transactions
    (member (codes "unpaid cents") unpaid
    no_members)))))))))))

-- the members of the site of a book, but for its dues and the products of its open shift
abbrev pub site_members : Book → List NamedSale → ℕ → List PeerSession → Option (List ℕ)
    → Option (List ℕ) → Option (List ℕ) → Members
site_members b unpaid connections sessions at opened seal =
    figure_members b (text_if at) connections (text_if opened) (text_if seal)
    (listed (points_data (site_of_book b) sessions b.config.points))
    (listed (products_data b.config.products (product_totals (site_of_book b))))
    (listed (sessions_data sessions))
    (listed (tills_data (site_of_book b)))
    (listed (transactions_data unpaid))
    (sum_data (cents_of unpaid))

-- the members of an object
abbrev pub members_of : Data → Members
members_of (object members) = members
members_of other = no_members

-- an object with the products of the open shift, and what is due of what is unpaid: members more,
-- at the places of their names
abbrev pub with_dues : Data → Data → Data → Data
with_dues shift due site =
    object (put (codes "due cents") due (put (codes "shift products") shift (members_of site)))

-- the site of a book at this time, with these transactions, so many connections, these sessions,
-- and of its history, if there is one, the time of the open shift's first row and the last seal
abbrev pub site_data : Book → List NamedSale → ℕ → List PeerSession → Option (List ℕ)
    → Option (List ℕ) → Option (List ℕ) → Data
site_data b unpaid connections sessions at opened seal =
    with_dues (listed (open_products (site_of_book b) b.config.products))
    (sum_data (dues_of unpaid))
    (object (site_members b unpaid connections sessions at opened seal))
