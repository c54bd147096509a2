-- The site that the program knows by itself.
use Rattle.std.specs.Prelude.{ℕ, List, [], ◌∷◌, codes}
use Rattle.site_base.specs.declared.config.NozzleEntry.{NozzleEntry}
use Rattle.site_base.specs.declared.config.PointEntry.{PointEntry}
use Rattle.site_base.specs.declared.config.ProductEntry.{ProductEntry}
use Rattle.site_base.specs.Configured.{Configured}

-- diesel at 1500 mills
abbrev pub diesel : ProductEntry
diesel = record { number = 1; name = codes "diesel"; price = 1500 }

-- petrol at 1799 mills
abbrev pub petrol : ProductEntry
petrol = record { number = 2; name = codes "petrol"; price = 1799 }

-- nozzle 1 of diesel from reading 0, nozzle 2 of petrol from reading 1000
abbrev pub known_nozzles : List NozzleEntry
known_nozzles = record { product = 1; reading = 0 } ∷ record { product = 2; reading = 1000 } ∷ []

abbrev pub known_point : ℕ → PointEntry
known_point p = record { number = p; nozzles = known_nozzles }

abbrev pub known_points : List PointEntry
known_points = known_point 1 ∷ known_point 2 ∷ known_point 3 ∷ known_point 4 ∷ known_point 5 ∷ []

-- two products, five points of two nozzles, till 1 a manager, and a book of so many rows
abbrev pub known_site_of : ℕ → Configured
known_site_of rows = record {
  rows = rows;
  managers = 1 ∷ [];
  products = diesel ∷ petrol ∷ [];
  points = known_points;
}

-- the same, with as many rows as a site file may allow
abbrev pub known_site : Configured
known_site = known_site_of 1000000
