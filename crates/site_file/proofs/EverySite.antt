-- Each fit site is said by the tree of it.
use Rattle.std.proofs.Common.{◌≡◌, ℕ, true, false, ◌==◌, List, [], ◌∷◌, ◌++◌, length, Ok, nat_eq}
use Rattle.std.proofs.Common.{refl, sym, ap, ◌∙◌, append_assoc, append-nil, arith}
use Rattle.std.proofs.lemmas.Bool.{and_parts}
use Rattle.std.specs.List.{list_any, list_all}
use Rattle.std.specs.Str.{bytes_eq}
use Rattle.toml.specs.Data.{Data}
use Rattle.site_base.specs.declared.config.NozzleEntry.{NozzleEntry}
use Rattle.site_base.specs.declared.amounts.TheConstants.{GREATEST_PRICE}
use Rattle.site_base.specs.declared.amounts.TheConstants.{GREATEST_READING}
use Rattle.site_base.specs.declared.limits.TheConstants.{NOZZLES, POINTS, PRODUCTS}
use Rattle.site_base.specs.declared.config.TheConstants.{GREATEST_ROWS}
use Rattle.site_base.specs.declared.limits.TheConstants.{TILLS}
use Rattle.site_base.specs.Names.{is_name}
use Rattle.site_base.specs.Ranges.{is_between}
use Rattle.site_base.specs.declared.config.PointEntry.{PointEntry}
use Rattle.site_base.specs.declared.config.ProductEntry.{ProductEntry}
use Rattle.site_base.specs.Configured.{Configured, none_alike, same_product, same_point}
use Rattle.site_base.specs.Configured.{are_products, has_product, are_nozzles, are_points, is_site}
use Rattle.site_file.specs.declared.key.Key.{Key}
use Rattle.site_file.specs.declared.key.Key.TheVariants.{Rows, Managers, Number, Price, Reading}
use Rattle.site_file.specs.Laws.{list_tree, number_tree, product_tree, nozzle_tree, point_tree}
use Rattle.site_file.specs.Laws.{site_tree, is_product_in_range, is_nozzle_in_range}
use Rattle.site_file.specs.Laws.{is_point_in_range, IsInRange}
use Rattle.site_file.specs.SiteFile.{with_keys, value_at, number_in, number_at, count, list_at}
use Rattle.site_file.specs.SiteFile.{manager_of, managers_from, managers_of, product_number}
use Rattle.site_file.specs.SiteFile.{has_name, product_name, product_of, products_from, products_of}
use Rattle.site_file.specs.SiteFile.{nozzle_of, nozzles_from, nozzles_of, has_point, point_number}
use Rattle.site_file.specs.SiteFile.{point_of, points_from, points_of, site_of}
use Rattle.site_file.proofs.Lists.{alike-middle, any_turned_back, neither}

number-said : (key : Key) (low high n : ℕ) → is_between low high n ≡ true
    → number_in key low high (number_tree n) ≡ Ok n
unfolding number_in
number-said key low high n between = rw between refl

count-tree : {A : Type 0} (tree : A → Data) (xs : List A) → count (list_tree tree xs) ≡ length xs
count-tree tree [] = refl
count-tree tree (x ∷ xs) = grind (arith, count-tree tree xs)

-- ---- managers

manager-said : (taken : List ℕ) (t : ℕ) → is_between 1 TILLS t ≡ true
    → list_any (nat_eq t) taken ≡ false → manager_of taken (number_tree t) ≡ Ok t
unfolding manager_of
manager-said taken t between new = rw (number-said Managers 1 TILLS t between, new) refl

managers-said : (taken rest : List ℕ) → list_all (is_between 1 TILLS) rest ≡ true
    → none_alike nat_eq (taken ++ rest) ≡ true
    → managers_from taken (list_tree number_tree rest) ≡ Ok (taken ++ rest)
managers-said taken [] between apart = ap Ok (sym (append-nil taken))
managers-said taken (t ∷ rest) between apart =
    let (here, later) = and_parts (is_between 1 TILLS t) _ between in
    let joined : (taken ++ t ∷ []) ++ rest ≡ taken ++ t ∷ rest = append_assoc taken (t ∷ []) rest in
    let new : list_any (nat_eq t) taken ≡ false =
    any_turned_back t taken (alike-middle nat_eq taken rest t apart) in
    let apart_too = ap (none_alike nat_eq) joined ∙ apart in
    rw (manager-said taken t here new)
    (managers-said (taken ++ t ∷ []) rest later apart_too ∙ ap Ok joined)

-- ---- products

product-said : (taken : List ProductEntry) (p : ProductEntry)
    → is_between 1 PRODUCTS p.number ≡ true → is_between 1 GREATEST_PRICE p.price ≡ true
    → is_name p.name ≡ true → has_product taken p.number ≡ false → has_name taken p.name ≡ false
    → product_of taken (product_tree p) ≡ Ok p
unfolding product_of with_keys value_at number_at product_number product_name
product-said taken p number price name new_number new_name =
    rw (
      number-said Number 1 PRODUCTS p.number number,
      new_number,
      name,
      new_name,
      number-said Price 1 GREATEST_PRICE p.price price,
    ) refl

products-said : (taken rest : List ProductEntry)
    → list_all is_product_in_range rest ≡ true
    → list_all (λ p. is_name p.name) rest ≡ true → none_alike same_product (taken ++ rest) ≡ true
    → products_from taken (list_tree product_tree rest) ≡ Ok (taken ++ rest)
products-said taken [] between named apart = ap Ok (sym (append-nil taken))
products-said taken (p ∷ rest) between named apart =
    let (here, later) = and_parts (is_product_in_range p) _ between in
    let (number, price) = and_parts (is_between 1 PRODUCTS p.number) _ here in
    let (name, names) = and_parts (is_name p.name) _ named in
    let joined : (taken ++ p ∷ []) ++ rest ≡ taken ++ p ∷ rest = append_assoc taken (p ∷ []) rest in
    let unlike = alike-middle same_product taken rest p apart in
    let (new_number, new_name) =
    neither (λ q. q.number == p.number) (λ q. bytes_eq q.name p.name) taken unlike in
    let apart_too = ap (none_alike same_product) joined ∙ apart in
    rw (product-said taken p number price name new_number new_name)
    (products-said (taken ++ p ∷ []) rest later names apart_too ∙ ap Ok joined)

-- ---- points

nozzle-said : (products : List ProductEntry) (n : NozzleEntry)
    → has_product products n.product ≡ true → is_between 0 GREATEST_READING n.reading ≡ true
    → nozzle_of products (nozzle_tree n) ≡ Ok n
unfolding nozzle_of with_keys value_at number_at
nozzle-said products n there reading =
    rw (there, number-said Reading 0 GREATEST_READING n.reading reading) refl

nozzles-said : (products : List ProductEntry) (taken rest : List NozzleEntry)
    → list_all (λ n. has_product products n.product) rest ≡ true
    → list_all is_nozzle_in_range rest ≡ true
    → nozzles_from products taken (list_tree nozzle_tree rest) ≡ Ok (taken ++ rest)
nozzles-said products taken [] supplied between = ap Ok (sym (append-nil taken))
nozzles-said products taken (n ∷ rest) supplied between =
    let (there, others) = and_parts (has_product products n.product) _ supplied in
    let (reading, readings) = and_parts (is_nozzle_in_range n) _ between in
    rw (nozzle-said products n there reading)
    (nozzles-said products (taken ++ n ∷ []) rest others readings
    ∙ ap Ok (append_assoc taken (n ∷ []) rest))

point-said : (products : List ProductEntry) (taken : List PointEntry) (p : PointEntry)
    → is_between 1 POINTS p.number ≡ true
    → list_all is_nozzle_in_range p.nozzles ≡ true
    → are_nozzles products p.nozzles ≡ true → has_point taken p.number ≡ false
    → point_of products taken (point_tree p) ≡ Ok p
unfolding point_of with_keys value_at number_at list_at point_number nozzles_of
point-said products taken p number readings fit new =
    let (many, supplied) = and_parts (is_between 1 NOZZLES (length p.nozzles)) _ fit in
    rw (
      number-said Number 1 POINTS p.number number,
      new,
      count-tree nozzle_tree p.nozzles,
      many,
      nozzles-said products [] p.nozzles supplied readings,
    ) refl

points-said : (products : List ProductEntry) (taken rest : List PointEntry)
    → list_all is_point_in_range rest ≡ true
    → list_all (λ p. are_nozzles products p.nozzles) rest ≡ true
    → none_alike same_point (taken ++ rest) ≡ true
    → points_from products taken (list_tree point_tree rest) ≡ Ok (taken ++ rest)
points-said products taken [] between fit apart = ap Ok (sym (append-nil taken))
points-said products taken (p ∷ rest) between fit apart =
    let (here, later) = and_parts (is_point_in_range p) _ between in
    let (number, readings) = and_parts (is_between 1 POINTS p.number) _ here in
    let (nozzles, others) = and_parts (are_nozzles products p.nozzles) _ fit in
    let joined : (taken ++ p ∷ []) ++ rest ≡ taken ++ p ∷ rest = append_assoc taken (p ∷ []) rest in
    let new = alike-middle same_point taken rest p apart in
    let apart_too = ap (none_alike same_point) joined ∙ apart in
    rw (point-said products taken p number readings nozzles new)
    (points-said products (taken ++ p ∷ []) rest later others apart_too ∙ ap Ok joined)

-- ---- the site

pub every_site_is_said : (c : Configured) → is_site c ≡ true → IsInRange c
    → site_of (site_tree c) ≡ Ok c
unfolding site_of with_keys value_at list_at managers_of products_of points_of
every_site_is_said c fit range =
    let (most, points) = and_parts _ (are_points c.products c.points) fit in
    let (more, products) = and_parts _ (are_products c.products) most in
    let (rows, managers) = and_parts _ (none_alike nat_eq c.managers) more in
    let (named, products_apart) = and_parts _ (none_alike same_product c.products) products in
    let (many_products, names) = and_parts _ (list_all (λ p. is_name p.name) c.products) named in
    let (supplied, points_apart) = and_parts _ (none_alike same_point c.points) points in
    let (many_points, nozzles) =
    and_parts _ (list_all (λ p. are_nozzles c.products p.nozzles) c.points) supplied in
    rw (
      number-said Rows 1 GREATEST_ROWS c.rows rows,
      managers-said [] c.managers range.managers managers,
      count-tree product_tree c.products,
      many_products,
      products-said [] c.products range.products names products_apart,
      count-tree point_tree c.points,
      many_points,
      points-said c.products [] c.points range.points nozzles points_apart,
    ) refl
