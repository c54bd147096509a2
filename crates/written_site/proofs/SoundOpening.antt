-- The opening site of a fit configuration is sound.
use Rattle.std.proofs.Common.{◌++◌, ◌≡◌, ℕ, suc, ◌+◌, ◌*◌, ◌≤◌, ◌==◌, ◌&&◌, ◌||◌, not, nat_le, Bool}
use Rattle.std.proofs.Common.{true, false, List, [], ◌∷◌, length, length-append, Option, Some, None}
use Rattle.std.proofs.Common.{is_some, unwrap_or, refl, sym, ap, subst, ◌∙◌, arith}
use Rattle.std.proofs.Math.Nat.{mul-zero}
use Rattle.std.proofs.lemmas.Bool.{and_parts, and_from, leb-true, le-leb, false≢true}
use Rattle.std.proofs.lemmas.Bool.Decides.{nat_tests}
use Rattle.std.proofs.lemmas.List.Folds.{list_all-append}
use Rattle.std.specs.List.{list_all, list_any}
use Rattle.std.specs.Ordering.{nat_cmp}
use Rattle.std.specs.Prelude.{nat_eq}
use Rattle.std.specs.FinMap.{get-empty}
use Rattle.site_base.specs.declared.config.NozzleEntry.{NozzleEntry}
use Rattle.site_base.specs.declared.limits.TheConstants.{NOZZLES}
use Rattle.site_base.specs.declared.config.TheConstants.{GREATEST_ROWS}
use Rattle.site_base.specs.declared.amounts.TheConstants.{GREATEST_READING}
use Rattle.site_base.specs.declared.limits.TheConstants.{POINTS, PRODUCTS}
use Rattle.site_base.specs.declared.state.PointState.TheVariants.{Closed}
use Rattle.site_base.specs.Ranges.{is_between}
use Rattle.site_base.specs.declared.config.PointEntry.{PointEntry}
use Rattle.site_base.specs.declared.config.ProductEntry.{ProductEntry}
use Rattle.site_base.specs.Configured.{Configured, none_alike, same_point, are_points, are_nozzles}
use Rattle.site_base.specs.Configured.{are_products, has_product, is_site}
use Rattle.site_base.specs.Prices.{prices_of}
use Rattle.site_base.specs.Table.{row_of}
use Rattle.fuelling_point.specs.KeptPoints.{Facts, empty_point}
use Rattle.fuelling_point.proofs.Whole.{stays_whole}
use Rattle.meters.specs.MeteredVolumes.{metered_by}
use Rattle.meters.specs.Nozzles.{Nozzle, product_of, is_nozzle, number_nozzles, nozzles_of_point}
use Rattle.meters.specs.Nozzles.{nozzles_of_points, opening_nozzles, EachMetered, AreNozzles}
use Rattle.meters.proofs.Bounds.{each_joined}
use Rattle.meters.proofs.Weights.{open_nothing}
use Rattle.transaction_buffer.specs.Sales.{Key, Sale, no_sales, sales_at, sale_in, sale_of, made_in}
use Rattle.transaction_buffer.specs.Sales.{made_at, unpaid_among, unpaid_at}
use Rattle.transaction_buffer.proofs.OnShelves.{nothing_sold}
use Rattle.written_site.specs.SiteState.{SiteState, opening, points_of, nothing_drawn}
use Rattle.written_site.specs.Sound.{IsFit, are_numbered, are_readable, IsPointSound, IsSupplied}
use Rattle.written_site.specs.Sound.{Sound, numbers_of}
use Rattle.written_site.specs.Volumes.{running_by, sold_by, drawn_by}
use Rattle.written_site.proofs.SoundTables.{same, told_once}

-- ---- the points

found_alike : (p : PointEntry) (ps : List PointEntry)
    → list_any (λ q. nat_eq p.number q) (numbers_of (points_of ps))
    ≡ list_any (λ q. same_point p q) ps
found_alike p [] = refl
found_alike p (q ∷ qs) = ap (λ (b : Bool). (p.number == q.number) || b) (found_alike p qs)

pub numbers_alone : (ps : List PointEntry)
    → none_alike nat_eq (numbers_of (points_of ps)) ≡ none_alike same_point ps
numbers_alone [] = refl
numbers_alone (p ∷ ps) =
    ap (λ (b : Bool). not b && none_alike nat_eq (numbers_of (points_of ps))) (found_alike p ps)
    ∙ ap (λ (b : Bool). not (list_any (λ q. same_point p q) ps) && b) (numbers_alone ps)

closed_rows : (p : ℕ) (f : Facts) (ps : List PointEntry) → row_of p (points_of ps) ≡ Some f
    → empty_point Closed ≡ f
closed_rows p f [] is = cc
closed_rows p f (q ∷ qs) is = by_test (q.number == p) refl (closed_rows p f qs)
  where
    by_test : (b : Bool) → (q.number == p) ≡ b
        → (row_of p (points_of qs) ≡ Some f → empty_point Closed ≡ f)
        → empty_point Closed ≡ f
    by_test true at behind =
        let first : row_of p (points_of (q ∷ qs)) ≡ Some (empty_point Closed) = rw at refl in
        told_once (empty_point Closed) f (sym first ∙ is)
    by_test false at behind =
        let later : row_of p (points_of (q ∷ qs)) ≡ row_of p (points_of qs) = rw at refl in
        behind (sym later ∙ is)

none_out : (n : ℕ) → None ≡ Some n → ⊥
none_out n is = cc

closed_point : (s : SiteState) (p : ℕ) → IsPointSound s p (empty_point Closed)
closed_point s p = record {
  whole = stays_whole.begins;
  nozzle = λ n out. absurd (none_out n out);
  held = λ is. absurd (false≢true is);
  flowed = λ is. absurd (false≢true is);
  price = λ is. absurd (false≢true is);
  room = λ is. absurd (false≢true is);
}

-- ---- the products of the nozzles

-- a test that each nozzle's product passes
abbrev each_product : (ℕ → Bool) → List Nozzle → Bool
each_product test xs = list_all (λ x. test x.product) xs

product_passes : (test : ℕ → Bool) (p n q : ℕ) (xs : List Nozzle) → each_product test xs ≡ true
    → product_of p n xs ≡ Some q → test q ≡ true
product_passes test p n q [] all is = cc
product_passes test p n q (x ∷ xs) all is =
    by_test (is_nozzle p n x) refl (product_passes test p n q xs parts.1)
  where
    parts : (test x.product ≡ true) × (each_product test xs ≡ true)
    parts = and_parts (test x.product) (each_product test xs) all

    by_test : (b : Bool) → is_nozzle p n x ≡ b → (product_of p n xs ≡ Some q → test q ≡ true)
        → test q ≡ true
    by_test true at behind =
        let first : product_of p n (x ∷ xs) ≡ Some x.product = rw at refl in
        ap test (sym (told_once x.product q (sym first ∙ is))) ∙ parts.0
    by_test false at behind =
        let later : product_of p n (x ∷ xs) ≡ product_of p n xs = rw at refl in
        behind (sym later ∙ is)

numbered_products : (test : ℕ → Bool) (p n : ℕ) (es : List NozzleEntry)
    → list_all (λ e. test e.product) es ≡ true → each_product test (number_nozzles p n es) ≡ true
numbered_products test p n [] all = refl
numbered_products test p n (e ∷ es) all =
    let parts = and_parts (test e.product) (list_all (λ x. test x.product) es) all in
    and_from (test e.product) (each_product test (number_nozzles p (n + 1) es)) parts.0
    (numbered_products test p (n + 1) es parts.1)

opening_products : (products : List ProductEntry) (ps : List PointEntry)
    → list_all (λ p. are_nozzles products p.nozzles) ps ≡ true
    → each_product (has_product products) (nozzles_of_points ps) ≡ true
opening_products products [] all = refl
opening_products products (p ∷ ps) all =
    let parts = and_parts (are_nozzles products p.nozzles)
    (list_all (λ q. are_nozzles products q.nozzles) ps) all in
    let nozzles = and_parts (is_between 1 NOZZLES (length p.nozzles))
    (list_all (λ n. has_product products n.product) p.nozzles) parts.0 in
    list_all-append (λ (x : Nozzle). has_product products x.product) (nozzles_of_point p)
    (nozzles_of_points ps)
    ∙ and_from (each_product (has_product products) (nozzles_of_point p))
    (each_product (has_product products) (nozzles_of_points ps))
    (numbered_products (has_product products) p.number 1 p.nozzles nozzles.1)
    (opening_products products ps parts.1)

-- a product that is there has a price, and a number that a product may have
product_there : (q : ℕ) (ps : List ProductEntry) → has_product ps q ≡ true
    → are_numbered ps ≡ true
    → (is_some (row_of q (prices_of ps)) ≡ true) × (is_between 1 PRODUCTS q ≡ true)
product_there q [] has all = cc
product_there q (p ∷ ps) has all = by_test (p.number == q) refl (product_there q ps)
  where
    parts : (is_between 1 PRODUCTS p.number ≡ true)
        × (are_numbered ps ≡ true)
    parts = and_parts (is_between 1 PRODUCTS p.number)
        (are_numbered ps) all

    by_test : (b : Bool) → (p.number == q) ≡ b
        → (has_product ps q ≡ true → are_numbered ps ≡ true
        → (is_some (row_of q (prices_of ps)) ≡ true) × (is_between 1 PRODUCTS q ≡ true))
        → (is_some (row_of q (prices_of (p ∷ ps))) ≡ true) × (is_between 1 PRODUCTS q ≡ true)
    by_test true at behind =
        (rw at refl, ap (is_between 1 PRODUCTS) (sym (same p.number q at)) ∙ parts.0)
    by_test false at behind =
        let later : has_product (p ∷ ps) q ≡ has_product ps q = rw at refl in
        rw at (behind (sym later ∙ has) parts.1)

-- ---- the meters

opened_metered : (p n : ℕ) (es : List NozzleEntry)
    → are_readable es ≡ true → EachMetered (number_nozzles p n es)
opened_metered p n [] all = tt
opened_metered p n (e ∷ es) all =
    let parts = and_parts (nat_le e.reading GREATEST_READING)
    (are_readable es) all in
    let high : e.reading ≤ GREATEST_READING = leb-true e.reading GREATEST_READING parts.0 in (
      record { risen = omega arith; within = high; few = omega arith; earlier = omega arith },
      opened_metered p (n + 1) es parts.1,
    )

opening_metered : (ps : List PointEntry)
    → list_all (λ p. are_readable p.nozzles) ps ≡ true
    → EachMetered (nozzles_of_points ps)
opening_metered [] all = tt
opening_metered (p ∷ ps) all =
    let parts = and_parts (are_readable p.nozzles)
    (list_all (λ q. are_readable q.nozzles) ps) all in
    each_joined (nozzles_of_point p) (nozzles_of_points ps)
    (opened_metered p.number 1 p.nozzles parts.0) (opening_metered ps parts.1)

-- what the meters' bounds say of the readings that they opened with
each_parts : (xs ys : List Nozzle) → EachMetered (xs ++ ys) → EachMetered xs × EachMetered ys
each_parts [] ys each = (tt, each)
each_parts (x ∷ xs) ys each =
    let parts = each_parts xs ys each.1 in
    ((each.0, parts.0), parts.1)

metered_readable : (p n : ℕ) (es : List NozzleEntry) → EachMetered (number_nozzles p n es)
    → are_readable es ≡ true
metered_readable p n [] each = refl
metered_readable p n (e ∷ es) each =
    and_from (nat_le e.reading GREATEST_READING) (are_readable es)
    (le-leb e.reading GREATEST_READING each.0.within) (metered_readable p (n + 1) es each.1)

pub readable_when_metered : (ps : List PointEntry) → EachMetered (nozzles_of_points ps)
    → list_all (λ p. are_readable p.nozzles) ps ≡ true
readable_when_metered [] each = refl
readable_when_metered (p ∷ ps) each =
    let parts = each_parts (nozzles_of_point p) (nozzles_of_points ps) each in
    and_from (are_readable p.nozzles) (list_all (λ q. are_readable q.nozzles) ps)
    (metered_readable p.number 1 p.nozzles parts.0) (readable_when_metered ps parts.1)

numbered_length : (p n : ℕ) (es : List NozzleEntry) → length (number_nozzles p n es) ≡ length es
numbered_length p n [] = refl
numbered_length p n (e ∷ es) = ap suc (numbered_length p (n + 1) es)

between_high : (low high n : ℕ) → is_between low high n ≡ true → n ≤ high
between_high low high n is = grind (arith, nat_tests)

between_low : (low high n : ℕ) → is_between low high n ≡ true → low ≤ n
between_low low high n is = grind (arith, nat_tests)

opening_length : (products : List ProductEntry) (ps : List PointEntry)
    → list_all (λ p. are_nozzles products p.nozzles) ps ≡ true
    → length (nozzles_of_points ps) ≤ length ps * NOZZLES
opening_length products [] all = omega arith
opening_length products (p ∷ ps) all =
    let parts = and_parts (are_nozzles products p.nozzles)
    (list_all (λ q. are_nozzles products q.nozzles) ps) all in
    let count = and_parts (is_between 1 NOZZLES (length p.nozzles))
    (list_all (λ n. has_product products n.product) p.nozzles) parts.0 in
    let few : length p.nozzles ≤ NOZZLES = between_high 1 NOZZLES (length p.nozzles) count.0 in
    let here = numbered_length p.number 1 p.nozzles in
    let rest = opening_length products ps parts.1 in
    let both = length-append (nozzles_of_point p) (nozzles_of_points ps) in
    omega arith

-- ---- sales and volumes

no_sale : (p : ℕ) → sales_at p no_sales ≡ []
no_sale p = ap (λ (o : Option (List Sale)). unwrap_or o []) (get-empty nat_cmp p)

pub closed_volumes : (w : ℕ → ℕ) (nozzles : List Nozzle) (ps : List PointEntry)
    → running_by w nozzles (points_of ps) ≡ 0
closed_volumes w nozzles [] = refl
closed_volumes w nozzles (p ∷ ps) = omega (arith, mul-zero (w 0), closed_volumes w nozzles ps)

pub nothing_weighs : (w : ℕ → ℕ) → drawn_by w (nothing_drawn ∷ []) ≡ 0
nothing_weighs w = omega arith

no_unpaid : (p : ℕ) → unpaid_at p no_sales ≡ 0
no_unpaid p = ap unpaid_among (no_sale p)

none_made : (p h : ℕ) → made_at p h no_sales ≡ 0
none_made p h = ap (made_in h) (no_sale p)

none_named : (k : Key) (x : Sale) → sale_of k no_sales ≡ Some x → ⊥
none_named k x is =
    let nothing : None ≡ Some x = sym (ap (sale_in k.shift k.number) (no_sale k.point)) ∙ is in cc

pub balanced : (metered running sold drawn : ℕ) → metered ≡ 0 → running ≡ 0 → sold ≡ 0 → drawn ≡ 0
    → metered ≡ running + sold + drawn
balanced metered running sold drawn m r s d = omega arith

-- ---- the opening site

-- what is_site says of the points
record FitPoints (c : Configured) : Type 0 where
  count : is_between 1 POINTS (length c.points) ≡ true
  nozzles : list_all (λ p. are_nozzles c.products p.nozzles) c.points ≡ true
  alone : none_alike same_point c.points ≡ true

fit_points : (c : Configured) → is_site c ≡ true → FitPoints c
fit_points c site =
    let points = and_parts (is_between 1 GREATEST_ROWS c.rows && none_alike nat_eq c.managers
    && are_products c.products) (are_points c.products c.points) site in
    let counted : Bool = is_between 1 POINTS (length c.points) in
    let served : Bool = list_all (λ p. are_nozzles c.products p.nozzles) c.points in
    let parts = and_parts (counted && served) (none_alike same_point c.points) points.1 in
    let firsts = and_parts counted served parts.0 in
    record { count = firsts.0; nozzles = firsts.1; alone = parts.1 }

opening_nozzles_are : (c : Configured) → IsFit c → FitPoints c → AreNozzles (opening_nozzles c)
opening_nozzles_are c fit points =
    let all = opening_length c.products c.points points.nozzles in
    let count = between_high 1 POINTS (length c.points) points.count in
    record {
      few = omega (arith, all, count);
      each = opening_metered c.points fit.readings;
    }

supplied : (c : Configured) (q : ℕ) → IsFit c → has_product c.products q ≡ true
    → IsSupplied (opening c) q
supplied c q fit has =
    let there = product_there q c.products has fit.products in
    record {
      low = between_low 1 PRODUCTS q there.1;
      high = between_high 1 PRODUCTS q there.1;
      priced = there.0;
    }

pub opening_sound : (c : Configured) → IsFit c → Sound (opening c)
opening_sound c fit =
    let points = fit_points c fit.site in
    record {
      numbers = numbers_alone c.points ∙ points.alone;
      points = λ p f is. subst (IsPointSound (opening c) p) (closed_rows p f c.points is)
          (closed_point (opening c) p);
      products = λ p n q is. supplied c q fit
          (product_passes (has_product c.products) p n q (opening_nozzles c)
          (opening_products c.products c.points points.nozzles) is);
      prices = fit.prices;
      meters = opening_nozzles_are c fit points;
      unpaid = λ p. omega (arith, no_unpaid p);
      order = λ p h later. none_made p h;
      sales = λ k x is. absurd (none_named k x is);
      standings = λ k x is. absurd (none_named k x is);
      shift = record { low = omega arith; high = omega arith };
      draws = refl;
      conserved = λ w. balanced (metered_by w (opening_nozzles c))
          (running_by w (opening_nozzles c) (points_of c.points)) (sold_by w no_sales)
          (drawn_by w (nothing_drawn ∷ []))
          (open_nothing w c.points) (closed_volumes w (opening_nozzles c) c.points)
          (nothing_sold (λ x. w x.product * x.volume)) (nothing_weighs w);
    }
