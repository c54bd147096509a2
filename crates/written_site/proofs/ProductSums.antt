-- The products' metered volumes add up to what all meters have counted.
use Rattle.std.proofs.Common.{◌≡◌, ℕ, ◌+◌, ◌*◌, ◌==◌, ◌&&◌, ◌||◌, not, Bool, true, false, List, []}
use Rattle.std.proofs.Common.{◌∷◌, ◌++◌, length, map, refl, sym, ap, subst, ◌∙◌}
use Rattle.std.proofs.Common.{if◌then◌else◌, arith}
use Rattle.std.proofs.lemmas.Bool.{and_parts, or_parts}
use Rattle.std.specs.List.{AllByRecursion, list_all, list_any}
use Rattle.std.specs.Str.{bytes_eq}
use Rattle.site_base.specs.declared.config.NozzleEntry.{NozzleEntry}
use Rattle.site_base.specs.declared.limits.TheConstants.{NOZZLES, POINTS, PRODUCTS}
use Rattle.site_base.specs.declared.event.Event.{Event}
use Rattle.site_base.specs.declared.event.Event.TheVariants.{Flow, HangUp, ReplaceMeter}
use Rattle.site_base.specs.declared.view.ProductView.{ProductView}
use Rattle.site_base.specs.Names.{is_name}
use Rattle.site_base.specs.Ranges.{is_between}
use Rattle.site_base.specs.declared.config.PointEntry.{PointEntry}
use Rattle.site_base.specs.declared.config.ProductEntry.{ProductEntry}
use Rattle.site_base.specs.Configured.{are_nozzles, has_product, none_alike, same_point}
use Rattle.site_base.specs.Configured.{same_product}
use Rattle.meters.specs.MeteredVolumes.{every_product, volume_metered, metered_by, product_alone}
use Rattle.meters.specs.MeteredVolumes.{product_total}
use Rattle.meters.specs.Nozzles.{Nozzle, is_nozzle, nozzles_of_points, number_nozzles, read_at}
use Rattle.meters.specs.Nozzles.{replaced_at, with_nozzle}
use Rattle.written_site.specs.RowWords.{total}
use Rattle.written_site.specs.SiteRun.{site_of_rows}
use Rattle.written_site.specs.SiteState.{SiteState, opening}
use Rattle.written_site.specs.SiteStep.{nozzles_after}
use Rattle.written_site.specs.Volumes.{product_view}
use Rattle.written_site.proofs.SoundTables.{same, turned}
use Rattle.written_site.specs.VolumeLaws.{DoProductsAddUp}
use Rattle.written_site.proofs.ListSums.{total_map, total_zero, total_both}
use Rattle.written_site.proofs.RunsKeep.{rows_keep}
use Rattle.written_site.proofs.ProductNumbers.{configured_numbers, product_numbers}

-- ---- one product among many

-- no number stands twice
abbrev Apart : List ℕ → Type 0
Apart [] = Unit {0}
Apart (n ∷ ns) = (list_any (λ m. n == m) ns ≡ false) × Apart ns

-- these millilitres of product p, as product n counts them
abbrev share : ℕ → ℕ → ℕ → ℕ
share p ml n = product_alone n p * ml

absent : (p ml : ℕ) (ns : List ℕ) → list_any (λ m. p == m) ns ≡ false
    → total (share p ml) ns ≡ 0
absent p ml [] none = refl
absent p ml (n ∷ ns) none =
    let parts = or_parts (p == n) (list_any (λ m. p == m) ns) none in
    let rest = absent p ml ns parts.1 in
    let here : product_alone n p ≡ 0 = ap (λ (b : Bool). if b then 1 else 0) parts.0 in
    omega (arith, rest, ap (λ (w : ℕ). w * ml) here)

once : (p ml : ℕ) (ns : List ℕ) → Apart ns → list_any (λ m. m == p) ns ≡ true
    → total (share p ml) ns ≡ ml
once p ml [] apart there = cc
once p ml (n ∷ ns) apart there = by_test (p == n) refl (once p ml ns apart.1)
  where
    by_test : (b : Bool) → (p == n) ≡ b
        → (list_any (λ m. m == p) ns ≡ true → total (share p ml) ns ≡ ml)
        → total (share p ml) (n ∷ ns) ≡ ml
    by_test true is later =
        let rest = absent p ml ns (subst (λ m. list_any (λ k. m == k) ns ≡ false)
        (sym (same p n is)) apart.0) in
        let here : product_alone n p ≡ 1 = ap (λ (b : Bool). if b then 1 else 0) is in
        omega (arith, rest, ap (λ (w : ℕ). w * ml) here)
    by_test false is later =
        let behind : list_any (λ m. m == p) ns ≡ true =
        ap (λ (b : Bool). b || list_any (λ m. m == p) ns) (sym (turned n p ∙ is)) ∙ there in
        let rest = later behind in
        let here : product_alone n p ≡ 0 = ap (λ (b : Bool). if b then 1 else 0) is in
        omega (arith, rest, ap (λ (w : ℕ). w * ml) here)

-- ---- nozzles of these products

-- each product is one of these
abbrev AreThere : List ℕ → List ℕ → Type 0
AreThere ns products = AllByRecursion (λ q. list_any (λ m. m == q) ns ≡ true) products

abbrev products_of : List Nozzle → List ℕ
products_of xs = map (λ x. x.product) xs

by_product : (ns : List ℕ) (xs : List Nozzle) → Apart ns → AreThere ns (products_of xs)
    → total (λ n. product_total n xs) ns ≡ metered_by every_product xs
by_product ns [] apart there = total_zero ns
by_product ns (x ∷ xs) apart there =
    let rest = by_product ns xs apart there.1 in
    let here = once x.product (volume_metered x) ns apart there.0 in
    let both = total_both (share x.product (volume_metered x)) (λ n. product_total n xs) ns in
    omega (arith, rest, here, both)

-- ---- the nozzles keep their products

kept_by : (p n : ℕ) (change : Nozzle → Nozzle) (xs : List Nozzle)
    → ((x : Nozzle) → (change x).product ≡ x.product)
    → products_of (with_nozzle p n change xs) ≡ products_of xs
kept_by p n change [] kept = refl
kept_by p n change (x ∷ xs) kept = by_test (is_nozzle p n x) (kept_by p n change xs kept)
  where
    by_test : (b : Bool) → products_of (with_nozzle p n change xs) ≡ products_of xs
        → products_of (if b then change x ∷ xs else x ∷ with_nozzle p n change xs)
        ≡ products_of (x ∷ xs)
    by_test true rest = ap (λ (q : ℕ). q ∷ products_of xs) (kept x)
    by_test false rest = ap (λ qs. x.product ∷ qs) rest

event_keeps : (s : SiteState) (e : Event) → products_of (nozzles_after s e) ≡ products_of s.nozzles
event_keeps s (Flow p n reading) = kept_by p n (read_at reading) s.nozzles (λ x. refl)
event_keeps s (HangUp p n reading) = kept_by p n (read_at reading) s.nozzles (λ x. refl)
event_keeps s (ReplaceMeter p n reading) = kept_by p n (replaced_at reading) s.nozzles (λ x. refl)
event_keeps s e = refl

-- ---- as configured

numbers_apart : (ps : List ProductEntry) → none_alike same_product ps ≡ true
    → Apart (configured_numbers ps)
numbers_apart [] alone = tt
numbers_apart (p ∷ ps) alone =
    let parts = and_parts (not (list_any (λ q. same_product p q) ps)) (none_alike same_product ps)
    alone in
    (differs ps (negated (list_any (λ q. same_product p q) ps) parts.0), numbers_apart ps parts.1)
  where
    negated : (b : Bool) → not b ≡ true → b ≡ false
    negated true is = cc
    negated false is = refl

    differs : (qs : List ProductEntry) → list_any (λ q. same_product p q) qs ≡ false
        → list_any (λ m. p.number == m) (configured_numbers qs) ≡ false
    differs [] none = refl
    differs (q ∷ qs) none =
        let parts = or_parts (same_product p q) (list_any (λ x. same_product p x) qs) none in
        let here = or_parts (p.number == q.number) (bytes_eq p.name q.name) parts.0 in
        ap (λ (b : Bool). b || list_any (λ m. p.number == m) (configured_numbers qs)) here.0
        ∙ differs qs parts.1

has_number : (ps : List ProductEntry) (q : ℕ) → has_product ps q ≡ true
    → list_any (λ m. m == q) (configured_numbers ps) ≡ true
has_number [] q has = cc
has_number (p ∷ ps) q has = by_test (p.number == q) has (has_number ps q)
  where
    by_test : (b : Bool) → (b || has_product ps q) ≡ true
        → (has_product ps q ≡ true → list_any (λ m. m == q) (configured_numbers ps) ≡ true)
        → (b || list_any (λ m. m == q) (configured_numbers ps)) ≡ true
    by_test true has later = refl
    by_test false has later = later has

there_joined : (ns : List ℕ) (xs ys : List Nozzle) → AreThere ns (products_of xs)
    → AreThere ns (products_of ys) → AreThere ns (products_of (xs ++ ys))
there_joined ns [] ys one two = two
there_joined ns (x ∷ xs) ys one two = (one.0, there_joined ns xs ys one.1 two)

point_there : (ps : List ProductEntry) (p n : ℕ) (es : List NozzleEntry)
    → list_all (λ e. has_product ps e.product) es ≡ true
    → AreThere (configured_numbers ps) (products_of (number_nozzles p n es))
point_there ps p n [] all = tt
point_there ps p n (e ∷ es) all =
    let parts = and_parts (has_product ps e.product) (list_all (λ x. has_product ps x.product) es)
    all in
    (has_number ps e.product parts.0, point_there ps p (n + 1) es parts.1)

points_there : (ps : List ProductEntry) (points : List PointEntry)
    → list_all (λ p. are_nozzles ps p.nozzles) points ≡ true
    → AreThere (configured_numbers ps) (products_of (nozzles_of_points points))
points_there ps [] all = tt
points_there ps (p ∷ points) all =
    let parts = and_parts (are_nozzles ps p.nozzles)
    (list_all (λ x. are_nozzles ps x.nozzles) points) all in
    let own = and_parts (is_between 1 NOZZLES (length p.nozzles))
    (list_all (λ n. has_product ps n.product) p.nozzles) parts.0 in
    there_joined (configured_numbers ps) (number_nozzles p.number 1 p.nozzles)
    (nozzles_of_points points)
    (point_there ps p.number 1 p.nozzles own.1)
    (points_there ps points parts.1)

-- ---- all rows

pub metered_of_products : DoProductsAddUp
metered_of_products c rows products points =
    let s : SiteState = site_of_rows (opening c) rows in
    let counted : Bool = is_between 1 PRODUCTS (length c.products) && list_all (λ p. is_name p.name)
    c.products in
    let fit = and_parts counted (none_alike same_product c.products) products in
    let served : Bool = list_all (λ p. are_nozzles c.products p.nozzles) c.points in
    let count : Bool = is_between 1 POINTS (length c.points) in
    let parts = and_parts (count && served) (none_alike same_point c.points) points in
    let there = points_there c.products c.points (and_parts count served parts.0).1 in
    total_map (λ (v : ProductView). v.metered) (λ (e : ℕ × ℕ). product_view s e.0 e.1) s.prices
    ∙ sym (total_map (λ (n : ℕ). product_total n s.nozzles) (λ (e : ℕ × ℕ). e.0) s.prices)
    ∙ ap (total (λ (n : ℕ). product_total n s.nozzles)) (product_numbers c rows)
    ∙ by_product (configured_numbers c.products) s.nozzles (numbers_apart c.products fit.1)
    (subst (AreThere (configured_numbers c.products))
    (sym (rows_keep (λ s. products_of s.nozzles) (λ s a e. event_keeps s e) (opening c) rows))
    there)
