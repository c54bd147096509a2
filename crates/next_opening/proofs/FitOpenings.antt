-- A configuration stays fit, whatever its prices and its nozzles' readings are.
use Rattle.std.proofs.Common.{◌≡◌, ℕ, ◌+◌, ◌≤◌, true, List, [], ◌∷◌, length, map, refl}
use Rattle.std.proofs.Common.{arith}
use Rattle.std.specs.Prelude.{nat_eq}
use Rattle.std.proofs.lemmas.Bool.Decides.{nat_tests}
use Rattle.std.specs.List.{list_all, list_any}
use Rattle.site_base.specs.declared.config.NozzleEntry.{NozzleEntry}
use Rattle.site_base.specs.declared.config.PointEntry.{PointEntry}
use Rattle.site_base.specs.declared.config.ProductEntry.{ProductEntry}
use Rattle.site_base.specs.declared.config.TheConstants.{GREATEST_ROWS}
use Rattle.site_base.specs.Configured.{Configured, are_nozzles, are_points, are_products}
use Rattle.site_base.specs.Configured.{has_product, is_site, none_alike, same_point, same_product}
use Rattle.site_base.specs.Names.{is_name}
use Rattle.site_base.specs.Ranges.{is_between}
use Rattle.meters.specs.Nozzles.{Nozzle}
use Rattle.written_site.specs.SiteState.{SiteState}
use Rattle.next_opening.specs.NextOpening.{next_opening, priced, prices_today, read_from}
use Rattle.next_opening.specs.NextOpening.{with_last_readings}

-- ---- products at other prices

length-priced : (ps : List ProductEntry) (ms : List ℕ) → length (priced ps ms) ≡ length ps
length-priced [] ms = refl
length-priced (p ∷ ps) [] = refl
length-priced (p ∷ ps) (m ∷ ms) = rw (length-priced ps ms) refl

names-priced : (ps : List ProductEntry) (ms : List ℕ)
    → list_all (λ p. is_name p.name) (priced ps ms) ≡ list_all (λ p. is_name p.name) ps
names-priced [] ms = refl
names-priced (p ∷ ps) [] = refl
names-priced (p ∷ ps) (m ∷ ms) = rw (names-priced ps ms) refl

like-priced : (q : ProductEntry) (ps : List ProductEntry) (ms : List ℕ)
    → list_any (λ p. same_product q p) (priced ps ms) ≡ list_any (λ p. same_product q p) ps
like-priced q [] ms = refl
like-priced q (p ∷ ps) [] = refl
like-priced q (p ∷ ps) (m ∷ ms) = rw (like-priced q ps ms) refl

none_alike-priced : (ps : List ProductEntry) (ms : List ℕ)
    → none_alike same_product (priced ps ms) ≡ none_alike same_product ps
none_alike-priced [] ms = refl
none_alike-priced (p ∷ ps) [] = refl
none_alike-priced (p ∷ ps) (m ∷ ms) = rw (like-priced p ps ms, none_alike-priced ps ms) refl

are_products-priced : (ps : List ProductEntry) (ms : List ℕ)
    → are_products (priced ps ms) ≡ are_products ps
are_products-priced ps ms =
    rw (length-priced ps ms, names-priced ps ms, none_alike-priced ps ms) refl

has_product-priced : (q : ℕ) (ps : List ProductEntry) (ms : List ℕ)
    → has_product (priced ps ms) q ≡ has_product ps q
has_product-priced q [] ms = refl
has_product-priced q (p ∷ ps) [] = refl
has_product-priced q (p ∷ ps) (m ∷ ms) = rw (has_product-priced q ps ms) refl

-- ---- nozzles with other readings

length-read : (xs : List Nozzle) (p n : ℕ) (es : List NozzleEntry)
    → length (read_from xs p n es) ≡ length es
length-read xs p n [] = refl
length-read xs p n (e ∷ es) = rw (length-read xs p (n + 1) es) refl

supplied-read : (ps : List ProductEntry) (ms : List ℕ) (xs : List Nozzle) (p n : ℕ)
    (es : List NozzleEntry)
    → list_all (λ e. has_product (priced ps ms) e.product) (read_from xs p n es)
    ≡ list_all (λ e. has_product ps e.product) es
supplied-read ps ms xs p n [] = refl
supplied-read ps ms xs p n (e ∷ es) =
    rw (has_product-priced e.product ps ms, supplied-read ps ms xs p (n + 1) es) refl

are_nozzles-read : (ps : List ProductEntry) (ms : List ℕ) (xs : List Nozzle) (c : PointEntry)
    → are_nozzles (priced ps ms) (with_last_readings xs c).nozzles ≡ are_nozzles ps c.nozzles
are_nozzles-read ps ms xs c =
    rw (length-read xs c.number 1 c.nozzles, supplied-read ps ms xs c.number 1 c.nozzles) refl

-- ---- points

length-points : (xs : List Nozzle) (cs : List PointEntry)
    → length (map (with_last_readings xs) cs) ≡ length cs
length-points xs [] = refl
length-points xs (c ∷ cs) = rw (length-points xs cs) refl

nozzles-points : (ps : List ProductEntry) (ms : List ℕ) (xs : List Nozzle) (cs : List PointEntry)
    → list_all (λ c. are_nozzles (priced ps ms) c.nozzles) (map (with_last_readings xs) cs)
    ≡ list_all (λ c. are_nozzles ps c.nozzles) cs
nozzles-points ps ms xs [] = refl
nozzles-points ps ms xs (c ∷ cs) =
    rw (are_nozzles-read ps ms xs c, nozzles-points ps ms xs cs) refl

like-points : (xs : List Nozzle) (b : PointEntry) (cs : List PointEntry)
    → list_any (λ c. same_point b c) (map (with_last_readings xs) cs)
    ≡ list_any (λ c. same_point b c) cs
like-points xs b [] = refl
like-points xs b (c ∷ cs) = rw (like-points xs b cs) refl

none_alike-points : (xs : List Nozzle) (cs : List PointEntry)
    → none_alike same_point (map (with_last_readings xs) cs) ≡ none_alike same_point cs
none_alike-points xs [] = refl
none_alike-points xs (c ∷ cs) = rw (like-points xs c cs, none_alike-points xs cs) refl

are_points-read : (ps : List ProductEntry) (ms : List ℕ) (xs : List Nozzle)
    (cs : List PointEntry)
    → are_points (priced ps ms) (map (with_last_readings xs) cs) ≡ are_points ps cs
are_points-read ps ms xs cs =
    rw (length-points xs cs, nozzles-points ps ms xs cs, none_alike-points xs cs) refl

-- ---- the configuration

-- a configuration of these parts is the next one
pub assembled : (c : Configured) (s : SiteState) (rows : ℕ) (managers : List ℕ)
    (products : List ProductEntry) (points : List PointEntry)
    → rows ≡ c.rows → managers ≡ c.managers → products ≡ priced c.products (prices_today s)
    → points ≡ map (with_last_readings s.nozzles) c.points
    → record { rows = rows; managers = managers; products = products; points = points }
    ≡ next_opening c s
assembled c s rows managers products points a b d e = rw (a, b, d, e) refl

-- a number in a range is between its ends
between : (n most : ℕ) → 1 ≤ n → n ≤ most → is_between 1 most n ≡ true
between n most low high = grind (arith, nat_tests)

-- the next configuration is fit, since the one that it goes on from is
pub stays_fit : (c : Configured) (s : SiteState)
    → 1 ≤ c.rows → c.rows ≤ GREATEST_ROWS → none_alike nat_eq c.managers ≡ true
    → are_products c.products ≡ true → are_points c.products c.points ≡ true
    → is_site (next_opening c s) ≡ true
stays_fit c s low high managers products points =
    rw (
      between c.rows GREATEST_ROWS low high,
      managers,
      are_products-priced c.products (prices_today s),
      products,
      are_points-read c.products (prices_today s) s.nozzles c.points,
      points,
    ) refl
