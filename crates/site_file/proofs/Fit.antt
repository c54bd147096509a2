-- What a site file says is a fit site: what the judge accepts, a configuration accepts.
use Rattle.std.proofs.Common.{◌≡◌, ℕ, ◌+◌, ℤ, pos, negsuc, Bool, true, false, not, ◌==◌, List, []}
use Rattle.std.proofs.Common.{◌∷◌, ◌++◌, length, Option, Some, None, Result, Ok, Err, IfOk, nat_eq}
use Rattle.std.proofs.Common.{refl, subst, arith}
use Rattle.std.proofs.lemmas.Result.{IfOk-weaker, IfOk-at_ok}
use Rattle.std.specs.List.{list_any, list_all}
use Rattle.std.specs.Str.{bytes_eq}
use Rattle.toml.specs.Data.{Data, Items, no_items, item, Members, get_member}
use Rattle.site_base.specs.declared.config.NozzleEntry.{NozzleEntry}
use Rattle.site_base.specs.declared.amounts.TheConstants.{GREATEST_PRICE}
use Rattle.site_base.specs.declared.amounts.TheConstants.{GREATEST_READING}
use Rattle.site_base.specs.declared.limits.TheConstants.{NOZZLES, POINTS, PRODUCTS}
use Rattle.site_base.specs.declared.config.TheConstants.{GREATEST_ROWS}
use Rattle.site_base.specs.declared.limits.TheConstants.{TILLS}
use Rattle.site_base.specs.Names.{is_name}
use Rattle.site_base.specs.Ranges.{is_between}
use Rattle.site_base.specs.declared.config.PointEntry.{PointEntry}
use Rattle.site_base.specs.declared.config.ProductEntry.{ProductEntry}
use Rattle.site_base.specs.Configured.{Configured, none_alike, same_product, same_point}
use Rattle.site_base.specs.Configured.{are_products, has_product, are_nozzles, are_points, is_site}
use Rattle.site_file.proofs.Lists.{all-push, alike-push, any_or, any_turned, length-push}
use Rattle.site_file.specs.declared.fault.ConfigFault.{ConfigFault}
use Rattle.site_file.specs.declared.key.Key.{Key}
use Rattle.site_file.specs.declared.key.Key.TheVariants.{Rows, Managers, Product, Point, Number}
use Rattle.site_file.specs.declared.key.Key.TheVariants.{Name, Price, Nozzles, Reading}
use Rattle.site_file.specs.Keys.{key_text}
use Rattle.site_file.specs.SiteFile.{◌>>=◌, only_if, with_keys, value_at, whole_number, text, list}
use Rattle.site_file.specs.SiteFile.{table_of, in_range, number_in, number_at, count, list_at}
use Rattle.site_file.specs.SiteFile.{rows_of, manager_of, managers_from, managers_of}
use Rattle.site_file.specs.SiteFile.{product_number, has_name, product_name, product_of}
use Rattle.site_file.specs.SiteFile.{products_from, products_of, product_in, nozzle_of}
use Rattle.site_file.specs.SiteFile.{nozzles_from, nozzles_of, has_point, point_number, point_of}
use Rattle.site_file.specs.SiteFile.{points_from, points_of, site_of}

-- ---- stages

-- what a stage gives, if it gives anything, is what the next one begins with
stage : {A B : Type 0} (r : Result A ConfigFault) (f : A → Result B ConfigFault)
    (P : A → Type 0) (Q : B → Type 0)
    → IfOk r P → ((x : A) → P x → IfOk (f x) Q) → IfOk (r >>= f) Q
stage (Ok x) f P Q gives next = next x gives
stage (Err e) f P Q gives next = tt

-- a stage of which nothing matters but that it gave something
later : {A B : Type 0} (r : Result A ConfigFault) (f : A → Result B ConfigFault) (Q : B → Type 0)
    → ((x : A) → IfOk (f x) Q) → IfOk (r >>= f) Q
later (Ok x) f Q next = next x
later (Err e) f Q next = tt

-- a value that is given only if it passes a test, and one only if it doesn't
passed : {A : Type 0} (test : A → Bool) (fault : ConfigFault) (x : A)
    → IfOk (only_if (test x) fault x) (λ y. test y ≡ true)
passed {A} test fault x = by (test x) refl
  where
    by : (b : Bool) → test x ≡ b → IfOk (only_if b fault x) (λ (y : A). test y ≡ true)
    by true is = is
    by false is = tt

failed : {A : Type 0} (test : A → Bool) (fault : ConfigFault) (x : A)
    → IfOk (only_if (not (test x)) fault x) (λ y. test y ≡ false)
failed {A} test fault x = by (test x) refl
  where
    by : (b : Bool) → test x ≡ b → IfOk (only_if (not b) fault x) (λ (y : A). test y ≡ false)
    by true is = tt
    by false is = is

-- ---- numbers and lists of a table

in_range-fit : (key : Key) (low high : ℕ) (z : ℤ)
    → IfOk (in_range key low high z) (λ n. is_between low high n ≡ true)
in_range-fit key low high (pos n) = passed (is_between low high) _ n
in_range-fit key low high (negsuc n) = tt

number_in-fit : (key : Key) (low high : ℕ) (value : Data)
    → IfOk (number_in key low high value) (λ n. is_between low high n ≡ true)
unfolding number_in
number_in-fit key low high value =
    later (whole_number key value) (in_range key low high) _ (λ z. in_range-fit key low high z)

list_at-fit : (key : Key) (most : ℕ) (file : Members)
    → IfOk (list_at key most file) (λ items. is_between 1 most (count items) ≡ true)
unfolding list_at
list_at-fit key most file =
    later (value_at key file) _ _ (λ value. later (list key value) _ _ (λ items.
    passed (λ (xs : Items). is_between 1 most (count xs)) _ items))

-- ---- rows and managers

rows_of-fit : (value : Option Data)
    → IfOk (rows_of value) (λ n. is_between 1 GREATEST_ROWS n ≡ true)
rows_of-fit None = refl
rows_of-fit (Some value) = number_in-fit Rows 1 GREATEST_ROWS value

manager_of-fit : (taken : List ℕ) (value : Data)
    → IfOk (manager_of taken value) (λ t. list_any (nat_eq t) taken ≡ false)
unfolding manager_of
manager_of-fit taken value =
    later (number_in Managers 1 TILLS value) _ _ (λ t.
    failed (λ (n : ℕ). list_any (nat_eq n) taken) _ t)

managers_from-fit : (taken : List ℕ) (items : Items) → none_alike nat_eq taken ≡ true
    → IfOk (managers_from taken items) (λ ts. none_alike nat_eq ts ≡ true)
managers_from-fit taken no_items fit = fit
managers_from-fit taken (item value more) fit =
    stage (manager_of taken value) _ _ _ (manager_of-fit taken value) (λ t new.
    let apart = alike-push nat_eq taken t fit (any_turned t taken new) in
    managers_from-fit (taken ++ t ∷ []) more apart)

managers_of-fit : (value : Option Data)
    → IfOk (managers_of value) (λ ts. none_alike nat_eq ts ≡ true)
unfolding managers_of
managers_of-fit None = refl
managers_of-fit (Some value) =
    later (list Managers value) _ _ (λ items. managers_from-fit [] items refl)

-- ---- products

product_number-fit : (taken : List ProductEntry) (file : Members)
    → IfOk (product_number taken file) (λ n. has_product taken n ≡ false)
unfolding product_number
product_number-fit taken file =
    later (number_at Number 1 PRODUCTS file) _ _ (λ n. failed (has_product taken) _ n)

-- a fit name that is new
abbrev IsNewName : List ProductEntry → List ℕ → Type 0
IsNewName taken name = (is_name name ≡ true) × (has_name taken name ≡ false)

named : (taken : List ProductEntry) (fault : ConfigFault) (name : List ℕ) → is_name name ≡ true
    → IfOk (only_if (not (has_name taken name)) fault name) (IsNewName taken)
named taken fault name fit = by (has_name taken name) refl
  where
    by : (b : Bool) → has_name taken name ≡ b → IfOk (only_if (not b) fault name) (IsNewName taken)
    by true is = tt
    by false is = (fit, is)

product_name-fit : (taken : List ProductEntry) (file : Members)
    → IfOk (product_name taken file) (IsNewName taken)
unfolding product_name
product_name-fit taken file =
    later (value_at Name file) _ _ (λ value. later (text Name value) _ _ (λ octets.
    stage (only_if (is_name octets) _ octets) _ _ _ (passed is_name _ octets) (λ name fit.
    named taken _ name fit)))

-- a product that may follow those taken
abbrev IsNewProduct : List ProductEntry → ProductEntry → Type 0
IsNewProduct taken p =
    (is_name p.name ≡ true) × (has_product taken p.number ≡ false) × (has_name taken p.name ≡ false)

product_of-fit : (taken : List ProductEntry) (value : Data)
    → IfOk (product_of taken value) (IsNewProduct taken)
unfolding product_of
product_of-fit taken value =
    later (table_of Product value) _ _ (λ members. later (with_keys _ members) _ _ (λ file.
    stage (product_number taken file) _ _ _ (product_number-fit taken file) (λ number new.
    stage (product_name taken file) _ _ _ (product_name-fit taken file) (λ name fit.
    later (number_at Price 1 GREATEST_PRICE file) _ _ (λ price. (fit.0, new, fit.1))))))

abbrev FitProducts : List ProductEntry → Type 0
FitProducts ps = (list_all (λ p. is_name p.name) ps ≡ true) × (none_alike same_product ps ≡ true)

FitProducts-push : (ps : List ProductEntry) (p : ProductEntry) → FitProducts ps
    → IsNewProduct ps p → FitProducts (ps ++ p ∷ [])
FitProducts-push ps p fit new = (
  all-push (λ q. is_name q.name) ps p fit.0 new.0,
  alike-push same_product ps p fit.1
      (any_or (λ q. q.number == p.number) (λ q. bytes_eq q.name p.name) ps new.1 new.2),
)

-- as many as there are members, and fit
abbrev Counted : {A : Type 0} → (List A → Type 0) → ℕ → List A → Type 0
Counted P n xs = (length xs ≡ n) × P xs

one_more : {A : Type 0} (taken : List A) (x : A) (more : Items)
    → length (taken ++ x ∷ []) + count more ≡ length taken + (1 + count more)
one_more taken x more = omega (arith, length-push taken x)

products_from-fit : (taken : List ProductEntry) (items : Items) → FitProducts taken
    → IfOk (products_from taken items) (Counted FitProducts (length taken + count items))
products_from-fit taken no_items fit = (omega arith, fit)
products_from-fit taken (item value more) fit =
    stage (product_of taken value) _ _ _ (product_of-fit taken value) (λ p new.
    subst (λ (n : ℕ). IfOk (products_from (taken ++ p ∷ []) more) (Counted FitProducts n))
    (one_more taken p more)
    (products_from-fit (taken ++ p ∷ []) more (FitProducts-push taken p fit new)))

are_products-made : (n : ℕ) (ps : List ProductEntry) → is_between 1 PRODUCTS n ≡ true
    → Counted FitProducts (0 + n) ps → are_products ps ≡ true
are_products-made n ps between (long, (names, apart)) =
    let as_many : length ps ≡ n = omega (arith, long) in
    rw (as_many, between, names, apart) refl

products_of-fit : (file : Members) → IfOk (products_of file) (λ ps. are_products ps ≡ true)
unfolding products_of
products_of-fit file =
    stage (list_at Product PRODUCTS file) (products_from []) _ _ (list_at-fit Product PRODUCTS file)
    (λ items between.
    IfOk-weaker (products_from [] items) _ _
    (λ ps made. are_products-made (count items) ps between made)
    (products_from-fit [] items (refl, refl)))

-- ---- points

product_in-fit : (products : List ProductEntry) (z : ℤ)
    → IfOk (product_in products z) (λ n. has_product products n ≡ true)
product_in-fit products (pos n) = passed (has_product products) _ n
product_in-fit products (negsuc n) = tt

nozzle_of-fit : (products : List ProductEntry) (value : Data)
    → IfOk (nozzle_of products value) (λ n. has_product products n.product ≡ true)
unfolding nozzle_of
nozzle_of-fit products value =
    later (table_of Nozzles value) _ _ (λ members. later (with_keys _ members) _ _ (λ file.
    later (value_at Product file) _ _ (λ named. later (whole_number Product named) _ _ (λ z.
    stage (product_in products z) _ _ _ (product_in-fit products z) (λ n there.
    later (number_at Reading 0 GREATEST_READING file) _ _ (λ reading. there))))))

abbrev Supplied : List ProductEntry → List NozzleEntry → Type 0
Supplied products ns = list_all (λ n. has_product products n.product) ns ≡ true

nozzles_from-fit : (products : List ProductEntry) (taken : List NozzleEntry) (items : Items)
    → Supplied products taken
    → IfOk (nozzles_from products taken items)
    (Counted (Supplied products) (length taken + count items))
nozzles_from-fit products taken no_items fit = (omega arith, fit)
nozzles_from-fit products taken (item value more) fit =
    stage (nozzle_of products value) _ _ _ (nozzle_of-fit products value) (λ n there.
    let supplied = all-push (λ m. has_product products m.product) taken n fit there in
    subst
    (λ (m : ℕ). IfOk (nozzles_from products (taken ++ n ∷ []) more) (Counted (Supplied products) m))
    (one_more taken n more)
    (nozzles_from-fit products (taken ++ n ∷ []) more supplied))

are_nozzles-made : (products : List ProductEntry) (n : ℕ) (ns : List NozzleEntry)
    → is_between 1 NOZZLES n ≡ true → Counted (Supplied products) (0 + n) ns
    → are_nozzles products ns ≡ true
are_nozzles-made products n ns between (long, supplied) =
    let as_many : length ns ≡ n = omega (arith, long) in
    rw (as_many, between, supplied) refl

nozzles_of-fit : (products : List ProductEntry) (file : Members)
    → IfOk (nozzles_of products file) (λ ns. are_nozzles products ns ≡ true)
unfolding nozzles_of
nozzles_of-fit products file =
    stage (list_at Nozzles NOZZLES file) (nozzles_from products []) _ _
    (list_at-fit Nozzles NOZZLES file) (λ items between.
    IfOk-weaker (nozzles_from products [] items) _ _
    (λ ns made. are_nozzles-made products (count items) ns between made)
    (nozzles_from-fit products [] items refl))

point_number-fit : (taken : List PointEntry) (file : Members)
    → IfOk (point_number taken file) (λ n. has_point taken n ≡ false)
unfolding point_number
point_number-fit taken file =
    later (number_at Number 1 POINTS file) _ _ (λ n. failed (has_point taken) _ n)

-- a point that may follow those taken
abbrev IsNewPoint : List ProductEntry → List PointEntry → PointEntry → Type 0
IsNewPoint products taken p =
    (has_point taken p.number ≡ false) × (are_nozzles products p.nozzles ≡ true)

point_of-fit : (products : List ProductEntry) (taken : List PointEntry) (value : Data)
    → IfOk (point_of products taken value) (IsNewPoint products taken)
unfolding point_of
point_of-fit products taken value =
    later (table_of Point value) _ _ (λ members. later (with_keys _ members) _ _ (λ file.
    stage (point_number taken file) _ _ _ (point_number-fit taken file) (λ number new.
    stage (nozzles_of products file) _ _ _ (nozzles_of-fit products file) (λ nozzles fit.
    (new, fit)))))

abbrev FitPoints : List ProductEntry → List PointEntry → Type 0
FitPoints products ps =
    (list_all (λ p. are_nozzles products p.nozzles) ps ≡ true) × (none_alike same_point ps ≡ true)

FitPoints-push : (products : List ProductEntry) (ps : List PointEntry) (p : PointEntry)
    → FitPoints products ps → IsNewPoint products ps p → FitPoints products (ps ++ p ∷ [])
FitPoints-push products ps p fit new = (
  all-push (λ q. are_nozzles products q.nozzles) ps p fit.0 new.1,
  alike-push same_point ps p fit.1 new.0,
)

points_from-fit : (products : List ProductEntry) (taken : List PointEntry) (items : Items)
    → FitPoints products taken
    → IfOk (points_from products taken items)
    (Counted (FitPoints products) (length taken + count items))
points_from-fit products taken no_items fit = (omega arith, fit)
points_from-fit products taken (item value more) fit =
    stage (point_of products taken value) _ _ _ (point_of-fit products taken value) (λ p new.
    subst (λ (n : ℕ). IfOk (points_from products (taken ++ p ∷ []) more)
    (Counted (FitPoints products) n))
    (one_more taken p more)
    (points_from-fit products (taken ++ p ∷ []) more (FitPoints-push products taken p fit new)))

are_points-made : (products : List ProductEntry) (n : ℕ) (ps : List PointEntry)
    → is_between 1 POINTS n ≡ true → Counted (FitPoints products) (0 + n) ps
    → are_points products ps ≡ true
are_points-made products n ps between (long, (supplied, apart)) =
    let as_many : length ps ≡ n = omega (arith, long) in
    rw (as_many, between, supplied, apart) refl

points_of-fit : (products : List ProductEntry) (file : Members)
    → IfOk (points_of products file) (λ ps. are_points products ps ≡ true)
unfolding points_of
points_of-fit products file =
    stage (list_at Point POINTS file) (points_from products []) _ _ (list_at-fit Point POINTS file)
    (λ items between.
    IfOk-weaker (points_from products [] items) _ _
    (λ ps made. are_points-made products (count items) ps between made)
    (points_from-fit products [] items (refl, refl)))

-- ---- the site

site_of-fit : (members : Members) → IfOk (site_of members) (λ c. is_site c ≡ true)
unfolding site_of
site_of-fit members =
    later (with_keys _ members) _ _ (λ file.
    let said_rows = get_member (key_text Rows) file in
    let tills = get_member (key_text Managers) file in
    stage (rows_of said_rows) _ _ _ (rows_of-fit said_rows) (λ rows between.
    stage (managers_of tills) _ _ _ (managers_of-fit tills) (λ managers apart.
    stage (products_of file) _ _ _ (products_of-fit file) (λ products named.
    stage (points_of products file) _ _ _ (points_of-fit products file) (λ points supplied.
    rw (between, apart, named, supplied) refl)))))

-- what a site file says is fit
pub site_is_fit : (members : Members) (c : Configured) → site_of members ≡ Ok c → is_site c ≡ true
site_is_fit members c said =
    IfOk-at_ok (λ (x : Configured). is_site x ≡ true) said (site_of-fit members)
