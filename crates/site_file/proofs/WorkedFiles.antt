-- Worked site files, by computing the definitions.
use Rattle.std.specs.Prelude.{codes, map, if◌then◌else◌, nat_lt, ◌/◌, ◌%◌}
use Rattle.std.proofs.Common.{◌≡◌, ℕ, zero, suc, List, [], ◌∷◌, ◌++◌, ◌+◌, Ok, Err, refl}
use Rattle.std.specs.Str.{is_utf8, chars}
use Rattle.toml.proofs.OnLiterals.{toml_on_literals}
use Rattle.site_base.specs.declared.config.NozzleEntry.{NozzleEntry}
use Rattle.site_base.specs.declared.config.PointEntry.{PointEntry}
use Rattle.site_base.specs.declared.config.ProductEntry.{ProductEntry}
use Rattle.site_base.specs.Configured.{Configured}
use Rattle.site_file.specs.declared.fault.ConfigFault.TheVariants.{UnknownKey, MissingKey}
use Rattle.site_file.specs.declared.fault.ConfigFault.TheVariants.{OutOfRange}
use Rattle.site_file.specs.declared.key.Key.TheVariants.{Product, Number, Price}
use Rattle.site_file.specs.Keys.{printed_key}
use Rattle.site_file.specs.SiteFile.{with_keys, value_at, number_in, number_at, list_at, manager_of}
use Rattle.site_file.specs.SiteFile.{managers_of, product_number, product_name, product_of}
use Rattle.site_file.specs.SiteFile.{products_of, nozzle_of, nozzles_of, point_number, point_of}
use Rattle.site_file.specs.SiteFile.{points_of, site_of, tree_of, config_of}

-- all that a site file's text is computed by
unfoldable pub on_parts : Unit {0}
unfolding printed_key with_keys value_at number_in number_at list_at product_number product_name
on_parts = tt

unfoldable pub on_lists : Unit {0}
unfolding manager_of managers_of product_of products_of nozzle_of nozzles_of point_number point_of
    points_of
on_lists = tt

unfoldable pub on_texts : Unit {0}
unfolding toml_on_literals is_utf8 chars on_parts on_lists site_of tree_of config_of
on_texts = tt

empty : config_of (codes "") ≡ Err (MissingKey Product)
unfolding on_texts
empty = refl

-- two products, and a point of two nozzles; till 1 a manager
abbrev products_text : List ℕ
products_text =
    codes "managers = [1]\n"
    ++ codes "[[product]]\n"
    ++ codes "number = 1\n"
    ++ codes "name = \"diesel\"\n"
    ++ codes "price = 1500\n"
    ++ codes "[[product]]\n"
    ++ codes "number = 2\n"
    ++ codes "name = \"petrol\"\n"
    ++ codes "price = 1799\n"

abbrev point_text : List ℕ → List ℕ
point_text number =
    codes "[[point]]\n"
    ++ codes "number = " ++ number ++ codes "\n"
    ++ codes "nozzles = [{product = 1, reading = 0}, {product = 2, reading = 1000}]\n"

abbrev nozzles : List NozzleEntry
nozzles = record { product = 1; reading = 0 } ∷ record { product = 2; reading = 1000 } ∷ []

abbrev point : ℕ → PointEntry
point number = record { number = number; nozzles = nozzles }

abbrev diesel : ProductEntry
diesel = record { number = 1; name = codes "diesel"; price = 1500 }

abbrev petrol : ProductEntry
petrol = record { number = 2; name = codes "petrol"; price = 1799 }

abbrev site : List PointEntry → Configured
site points = record {
  rows = 1000000;
  managers = 1 ∷ [];
  products = diesel ∷ petrol ∷ [];
  points = points;
}

abbrev points_text : List (List ℕ) → List ℕ
points_text [] = []
points_text (number ∷ numbers) = point_text number ++ points_text numbers

-- five such points
abbrev five_numbers : List (List ℕ)
five_numbers = codes "1" ∷ codes "2" ∷ codes "3" ∷ codes "4" ∷ codes "5" ∷ []

five_points : config_of (products_text ++ points_text five_numbers)
    ≡ Ok (site (point 1 ∷ point 2 ∷ point 3 ∷ point 4 ∷ point 5 ∷ []))
unfolding on_texts
five_points = refl

-- a number below 100 in decimal digits
abbrev digits : ℕ → List ℕ
digits n = if nat_lt n 10 then (48 + n) ∷ [] else (48 + n / 10) ∷ (48 + n % 10) ∷ []

abbrev numbers_from : ℕ → ℕ → List ℕ
numbers_from n zero = []
numbers_from n (suc count) = n ∷ numbers_from (n + 1) count

-- sixty-four
sixty_four_points : config_of (products_text ++ points_text (map digits (numbers_from 1 64)))
    ≡ Ok (site (map point (numbers_from 1 64)))
unfolding on_texts
sixty_four_points = refl

-- a price of nothing, and a point above the last
abbrev free_text : List ℕ
free_text =
    codes "[[product]]\n"
    ++ codes "number = 1\n"
    ++ codes "name = \"diesel\"\n"
    ++ codes "price = 0\n"

no_price : config_of free_text ≡ Err (OutOfRange Price)
unfolding on_texts
no_price = refl

point_65 : config_of (products_text ++ point_text (codes "65")) ≡ Err (OutOfRange Number)
unfolding on_texts
point_65 = refl

unknown : config_of (codes "tills = 5") ≡ Err (UnknownKey (codes "tills"))
unfolding on_texts
unknown = refl
