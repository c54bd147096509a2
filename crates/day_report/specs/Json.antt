-- The report as JSON. Members stand in the order of their names.
use Rattle.std.specs.Prelude.{ℕ, List, ◌++◌, codes, map}
use Rattle.serde_json.specs.Data.{Data, object, member, no_members}
use Rattle.serde_json.specs.Written.{compact_text}
use Rattle.site_base.specs.declared.config.ProductEntry.{ProductEntry}
use Rattle.site_base.specs.declared.totals.Totals.{Totals}
use Rattle.day_report.specs.Figures.{figure, listed}
use Rattle.day_report.specs.Products.{products_data}

-- a till with its clears in all shifts, and their cents
abbrev pub cleared_data : ℕ × ℕ × ℕ → Data
cleared_data till =
    object
    (member (codes "cents") (figure till.2)
    (member (codes "clears") (figure till.1)
    (member (codes "number") (figure till.0)
    no_members)))

-- these products and totals, and so many shares that settled
abbrev pub report_data : List ProductEntry → Totals → ℕ → Data
report_data products t shares =
    object
    (member (codes "products") (listed (products_data products t.products))
    (member (codes "rows") (figure t.rows)
    (member (codes "shares") (figure shares)
    (member (codes "tills") (listed (map cleared_data t.tills))
    no_members))))

-- its text: the object on one line
abbrev pub json_text : List ProductEntry → Totals → ℕ → List ℕ
json_text products t shares = compact_text (report_data products t shares) ++ codes "\n"
