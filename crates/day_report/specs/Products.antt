-- A product as JSON. Members stand in the order of their names.
use Rattle.std.specs.Prelude.{List, [], ◌∷◌, codes}
use Rattle.serde_json.specs.Data.{Data, string, object, member, no_members}
use Rattle.site_base.specs.declared.config.ProductEntry.{ProductEntry}
use Rattle.site_base.specs.declared.view.ProductView.{ProductView}
use Rattle.day_report.specs.Figures.{figure}

-- a product of the configuration with the figures of a read
abbrev pub product_data : ProductEntry → ProductView → Data
product_data p v =
    object
    (member (codes "adjusted") (figure v.adjusted)
    (member (codes "cleared") (figure v.cleared)
    (member (codes "locked") (figure v.locked)
    (member (codes "metered") (figure v.metered)
    (member (codes "mills") (figure v.price)
    (member (codes "name") (string p.name)
    (member (codes "number") (figure p.number)
    (member (codes "payable") (figure v.payable)
    (member (codes "running") (figure v.running)
    no_members)))))))))

-- each product with its figures, in configured order
abbrev pub products_data : List ProductEntry → List ProductView → List Data
products_data (p ∷ ps) (v ∷ vs) = product_data p v ∷ products_data ps vs
products_data ps vs = []
