-- What a site file configures, and which configurations are fit.
use Rattle.std.specs.Prelude.{ℕ, Bool, true, List, [], ◌∷◌, length, not, ◌&&◌, ◌||◌, ◌==◌, nat_eq}
use Rattle.std.specs.List.{list_all, list_any}
use Rattle.std.specs.Str.{bytes_eq}
use Rattle.site_base.specs.declared.config.NozzleEntry.{NozzleEntry}
use Rattle.site_base.specs.declared.config.PointEntry.{PointEntry}
use Rattle.site_base.specs.declared.config.ProductEntry.{ProductEntry}
use Rattle.site_base.specs.declared.limits.TheConstants.{NOZZLES, POINTS, PRODUCTS}
use Rattle.site_base.specs.declared.config.TheConstants.{GREATEST_ROWS}
use Rattle.site_base.specs.Names.{is_name}
use Rattle.site_base.specs.Ranges.{is_between}

-- a site: the most rows of its history, the tills that are managers, its products and its points
pub record Configured : Type 0 where
  pub rows : ℕ
  pub managers : List ℕ
  pub products : List ProductEntry
  pub points : List PointEntry

-- no member is like a later one
abbrev pub none_alike : {A : Type 0} → (A → A → Bool) → List A → Bool
none_alike alike [] = true
none_alike alike (x ∷ xs) = not (list_any (λ y. alike x y) xs) && none_alike alike xs

-- two products of one number or of one name
abbrev pub same_product : ProductEntry → ProductEntry → Bool
same_product p q = p.number == q.number || bytes_eq p.name q.name

-- two points of one number
abbrev pub same_point : PointEntry → PointEntry → Bool
same_point p q = p.number == q.number

-- as many products as may be, each with a fit name, none like another
abbrev pub are_products : List ProductEntry → Bool
are_products ps = is_between 1 PRODUCTS (length ps) && list_all (λ p. is_name p.name) ps &&
    none_alike same_product ps

-- a product with this number is there
abbrev pub has_product : List ProductEntry → ℕ → Bool
has_product ps number = list_any (λ p. p.number == number) ps

-- as many nozzles as may be, each of a product that is there
abbrev pub are_nozzles : List ProductEntry → List NozzleEntry → Bool
are_nozzles ps nozzles = is_between 1 NOZZLES (length nozzles) && list_all
    (λ n. has_product ps n.product) nozzles

-- as many points as may be, each with fit nozzles, none like another
abbrev pub are_points : List ProductEntry → List PointEntry → Bool
are_points products ps = is_between 1 POINTS (length ps) && list_all
    (λ p. are_nozzles products p.nozzles) ps && none_alike same_point ps

-- a fit site: rows in range, no manager twice, fit products and fit points
abbrev pub is_site : Configured → Bool
is_site c = is_between 1 GREATEST_ROWS c.rows && none_alike nat_eq c.managers && are_products
    c.products && are_points c.products c.points
