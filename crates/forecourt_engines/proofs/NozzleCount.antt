-- No site has more nozzles than its points may have.
use Rattle.std.proofs.Common.{◌≡◌, ◌≤◌, ◌*◌, List, [], ◌∷◌, length, Bool, true, arith}
use Rattle.std.specs.Prelude.{◌&&◌}
use Rattle.std.specs.List.{list_all}
use Rattle.std.proofs.lemmas.Bool.{and_parts}
use Rattle.std.proofs.lemmas.Bool.Decides.{nat_tests}
use Rattle.site_base.specs.declared.limits.TheConstants.{NOZZLES, POINTS}
use Rattle.site_base.specs.Ranges.{is_between}
use Rattle.site_base.specs.declared.config.PointEntry.{PointEntry}
use Rattle.site_base.specs.declared.config.ProductEntry.{ProductEntry}
use Rattle.site_base.specs.Configured.{are_nozzles, are_points}
use Rattle.forecourt_engines.specs.SiteSizes.{nozzle_count}

few_nozzles : (products : List ProductEntry) (ps : List PointEntry)
    → list_all (λ p. are_nozzles products p.nozzles) ps ≡ true
    → nozzle_count ps ≤ NOZZLES * length ps
few_nozzles products [] fit = omega arith
few_nozzles products (p ∷ ps) fit =
    let parts = and_parts (are_nozzles products p.nozzles) _ fit in
    let few = and_parts (is_between 1 NOZZLES (length p.nozzles)) _ parts.0 in
    let most : length p.nozzles ≤ NOZZLES = grind (arith, nat_tests) in
    omega (arith, most, few_nozzles products ps parts.1)

pub as_many_nozzles : (products : List ProductEntry) (ps : List PointEntry)
    → are_points products ps ≡ true → nozzle_count ps ≤ POINTS * NOZZLES
as_many_nozzles products ps fit =
    let fits : Bool = list_all (λ p. are_nozzles products p.nozzles) ps in
    let parts = and_parts (is_between 1 POINTS (length ps) && fits) _ fit in
    let both = and_parts (is_between 1 POINTS (length ps)) fits parts.0 in
    let most : length ps ≤ POINTS = grind (arith, nat_tests) in
    omega (arith, most, few_nozzles products ps both.1)
