-- The text of a site file that says a configuration, line for line.
use Rattle.std.specs.Prelude.{ℕ, List, [], ◌∷◌, ◌++◌, codes, decimal, flat_map}
use Rattle.site_base.specs.declared.config.NozzleEntry.{NozzleEntry}
use Rattle.site_base.specs.declared.config.PointEntry.{PointEntry}
use Rattle.site_base.specs.declared.config.ProductEntry.{ProductEntry}
use Rattle.site_base.specs.Configured.{Configured}

-- these members, with a comma and a space between two
abbrev pub listed : {A : Type 0} → (A → List ℕ) → List A → List ℕ
listed text [] = []
listed text (x ∷ xs) = text x ++ flat_map (λ y. codes ", " ++ text y) xs

-- the rows, and the tills that are managers
abbrev pub head_text : ℕ → List ℕ → List ℕ
head_text rows managers =
    codes "rows = " ++ decimal rows
    ++ codes "\nmanagers = [" ++ listed decimal managers ++ codes "]\n"

-- the line of a product's number, or a point's
abbrev pub number_line : ℕ → List ℕ
number_line n = codes "number = " ++ decimal n ++ codes "\n"

-- the lines of a product's name and price
abbrev pub name_lines : ProductEntry → List ℕ
name_lines p =
    codes "name = \"" ++ p.name ++ codes "\"\nprice = " ++ decimal p.price ++ codes "\n"

-- a product: its number, its name and its price
unfoldable pub product_text : ProductEntry → List ℕ
product_text p = codes "\n[[product]]\n" ++ (number_line p.number ++ name_lines p)

-- a nozzle: its product and its reading
abbrev pub nozzle_text : NozzleEntry → List ℕ
nozzle_text n =
    codes "{product = " ++ decimal n.product ++ codes ", reading = " ++ decimal n.reading
    ++ codes "}"

-- the line of a point's nozzles
abbrev pub nozzles_line : List NozzleEntry → List ℕ
nozzles_line nozzles = codes "nozzles = [" ++ listed nozzle_text nozzles ++ codes "]\n"

-- a fuelling point: its number and its nozzles
unfoldable pub point_text : PointEntry → List ℕ
point_text p = codes "\n[[point]]\n" ++ (number_line p.number ++ nozzles_line p.nozzles)

-- the text of a site file that configures this site
abbrev pub site_text : Configured → List ℕ
site_text c =
    head_text c.rows c.managers ++ flat_map product_text c.products
    ++ flat_map point_text c.points
