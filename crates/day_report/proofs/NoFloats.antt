-- No number of a report is a float.
use Rattle.std.proofs.Common.{◌≡◌, ℕ, false, List, [], ◌∷◌, map, refl}
use Rattle.serde_json.specs.Data.{Data}
use Rattle.serde_json.specs.View.{items_of}
use Rattle.serde_json.specs.Written.{has_float, items_have_float}
use Rattle.site_base.specs.declared.config.ProductEntry.{ProductEntry}
use Rattle.site_base.specs.declared.totals.Totals.{Totals}
use Rattle.site_base.specs.declared.view.ProductView.{ProductView}
use Rattle.day_report.specs.Json.{cleared_data, report_data}
use Rattle.day_report.specs.Products.{products_data}

pub no_float_mapped : {A : Type 0} (f : A → Data) (xs : List A)
    → ((x : A) → has_float (f x) ≡ false) → items_have_float (items_of (map f xs)) ≡ false
no_float_mapped f [] none = refl
no_float_mapped f (x ∷ xs) none = rw (none x) (no_float_mapped f xs none)

pub no_float_products : (ps : List ProductEntry) (vs : List ProductView)
    → items_have_float (items_of (products_data ps vs)) ≡ false
no_float_products [] vs = refl
no_float_products (p ∷ ps) [] = refl
no_float_products (p ∷ ps) (v ∷ vs) = no_float_products ps vs

pub no_float_report : (ps : List ProductEntry) (t : Totals) (shares : ℕ)
    → has_float (report_data ps t shares) ≡ false
no_float_report ps t shares =
    rw (no_float_products ps t.products, no_float_mapped cleared_data t.tills (λ x. refl)) refl
