-- How large a site is.
use Rattle.std.specs.Prelude.{ℕ, ◌+◌, List, [], ◌∷◌, length}
use Rattle.site_base.specs.declared.config.PointEntry.{PointEntry}
use Rattle.site_base.specs.Configured.{Configured}
use Rattle.forecourt_engines.specs.declared.sizes.Sizes.{Sizes}

-- the nozzles of fuelling points
abbrev pub nozzle_count : List PointEntry → ℕ
nozzle_count [] = 0
nozzle_count (p ∷ ps) = length p.nozzles + nozzle_count ps

abbrev pub sizes_of : Configured → Sizes
sizes_of c = record {
  points = length c.points;
  nozzles = nozzle_count c.points;
  products = length c.products;
}
