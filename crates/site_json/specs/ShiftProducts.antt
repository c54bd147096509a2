-- The products of a shift as JSON. Members stand in the order of their names.
use Rattle.std.specs.Prelude.{List, [], Option, Some, None, codes, map}
use Rattle.serde_json.specs.Data.{Data, object, member, no_members}
use Rattle.site_base.specs.declared.config.ProductEntry.{ProductEntry}
use Rattle.shift_ledger.specs.declared.row.ShiftRow.{ShiftRow}
use Rattle.shift_ledger.specs.Figures.{adjusted_figure, product_cents_figure, product_figure}
use Rattle.site_core.specs.Accounts.{shift_row}
use Rattle.written_site.specs.SiteState.{SiteState, open_shift}
use Rattle.day_report.specs.Figures.{figure}

-- a product: its millilitres that were cleared in a shift with these figures, their cents, and the
-- millilitres that tests drew
abbrev pub shift_product : ShiftRow → ProductEntry → Data
shift_product row e =
    object
    (member (codes "cents") (figure (product_cents_figure e.number row))
    (member (codes "cleared") (figure (product_figure e.number row))
    (member (codes "drawn") (figure (adjusted_figure e.number row))
    (member (codes "number") (figure e.number)
    no_members))))

-- these products in a shift with these figures
abbrev pub shift_products : ShiftRow → List ProductEntry → List Data
shift_products row products = map (shift_product row) products

-- the same, if the shift is there
abbrev pub products_in : Option ShiftRow → List ProductEntry → List Data
products_in None products = []
products_in (Some row) products = shift_products row products

-- these products in the open shift
abbrev pub open_products : SiteState → List ProductEntry → List Data
open_products s products = products_in (shift_row (open_shift s) s.sales s.drawn) products
