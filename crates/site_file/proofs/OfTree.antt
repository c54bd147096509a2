-- Which faults are of a text, and which of what it says.
use Rattle.std.proofs.Common.{◌≡◌, ◌≢◌, ℕ, ℤ, pos, negsuc, Bool, true, false, List, [], ◌∷◌, ◌++◌}
use Rattle.std.proofs.Common.{if◌then◌else◌, Option, Some, None, Result, Ok, Err, IfErr, refl, inl}
use Rattle.std.proofs.Common.{inr}
use Rattle.std.specs.Prelude.{◌⊎◌}
use Rattle.std.proofs.lemmas.Bool.{false≢true}
use Rattle.std.proofs.lemmas.Result.{IfErr-at_err}
use Rattle.std.specs.Str.{is_utf8}
use Rattle.toml.specs.Data.{Data, string, integer, array, table, Items, no_items, item, Members}
use Rattle.toml.specs.Data.{get_member}
use Rattle.toml.specs.Parse.{parse_document}
use Rattle.site_base.specs.declared.config.NozzleEntry.{NozzleEntry}
use Rattle.site_base.specs.declared.amounts.TheConstants.{GREATEST_PRICE}
use Rattle.site_base.specs.declared.amounts.TheConstants.{GREATEST_READING}
use Rattle.site_base.specs.declared.limits.TheConstants.{NOZZLES, POINTS, PRODUCTS}
use Rattle.site_base.specs.declared.config.TheConstants.{GREATEST_ROWS}
use Rattle.site_base.specs.declared.limits.TheConstants.{TILLS}
use Rattle.site_base.specs.Names.{is_name}
use Rattle.site_base.specs.declared.config.PointEntry.{PointEntry}
use Rattle.site_base.specs.declared.config.ProductEntry.{ProductEntry}
use Rattle.site_base.specs.Configured.{Configured}
use Rattle.site_file.specs.declared.fault.ConfigFault.{ConfigFault}
use Rattle.site_file.specs.declared.fault.ConfigFault.TheVariants.{NoMemory, NotToml, OutOfRange}
use Rattle.site_file.specs.declared.key.Key.{Key}
use Rattle.site_file.specs.declared.key.Key.TheVariants.{Rows, Managers, Product, Point, Number}
use Rattle.site_file.specs.declared.key.Key.TheVariants.{Name, Price, Nozzles, Reading}
use Rattle.site_file.specs.Keys.{key_text, least}
use Rattle.site_file.specs.Laws.{is_of_tree}
use Rattle.site_file.specs.SiteFile.{◌>>=◌, only_if, refuse_least, with_keys, unknown_keys}
use Rattle.site_file.specs.SiteFile.{expect_value}
use Rattle.site_file.specs.SiteFile.{value_at, whole_number, text, list, table_of, in_range}
use Rattle.site_file.specs.SiteFile.{number_in}
use Rattle.site_file.specs.SiteFile.{number_at, list_at, rows_of, manager_of, managers_from}
use Rattle.site_file.specs.SiteFile.{managers_of, product_number, product_name, product_of}
use Rattle.site_file.specs.SiteFile.{products_from, products_of, product_in, nozzle_of}
use Rattle.site_file.specs.SiteFile.{nozzles_from, nozzles_of, point_number, point_of, points_from}
use Rattle.site_file.specs.SiteFile.{points_of, site_of, of_document, tree_of, config_of}

-- a fault, if there is one, is of the tree
abbrev OfTree : {A : Type 0} → Result A ConfigFault → Type 0
OfTree r = IfErr r (λ fault. is_of_tree fault ≡ true)

stages : {A B : Type 0} (r : Result A ConfigFault) (f : A → Result B ConfigFault)
    → OfTree r → ((x : A) → OfTree (f x)) → OfTree (r >>= f)
stages (Ok x) f of_tree next = next x
stages (Err e) f of_tree next = of_tree

only_if-tree : {A : Type 0} (b : Bool) (fault : ConfigFault) (x : A) → is_of_tree fault ≡ true
    → OfTree (only_if b fault x)
only_if-tree true fault x of_tree = tt
only_if-tree false fault x of_tree = of_tree

-- ---- one value

with_keys-tree : (known : List Key) (file : Members) → OfTree (with_keys known file)
unfolding with_keys
with_keys-tree known file = by (least (unknown_keys known file))
  where
    by : (first : Option (List ℕ)) → OfTree (refuse_least file first)
    by None = tt
    by (Some key) = refl

value_at-tree : (key : Key) (file : Members) → OfTree (value_at key file)
unfolding value_at
value_at-tree key file = by (get_member (key_text key) file)
  where
    by : (value : Option Data) → OfTree (expect_value key value)
    by None = refl
    by (Some value) = tt

whole-tree : (key : Key) (value : Data) → OfTree (whole_number key value)
whole-tree key (integer z) = tt
whole-tree key value = refl

text-tree : (key : Key) (value : Data) → OfTree (text key value)
text-tree key (string s) = tt
text-tree key value = refl

list-tree : (key : Key) (value : Data) → OfTree (list key value)
list-tree key (array ds) = tt
list-tree key value = refl

table-tree : (key : Key) (value : Data) → OfTree (table_of key value)
table-tree key (table ms) = tt
table-tree key value = refl

in_range-tree : (key : Key) (low high : ℕ) (z : ℤ) → OfTree (in_range key low high z)
in_range-tree key low high (pos n) = only_if-tree _ _ n refl
in_range-tree key low high (negsuc n) = refl

number_in-tree : (key : Key) (low high : ℕ) (value : Data) → OfTree (number_in key low high value)
unfolding number_in
number_in-tree key low high value =
    stages (whole_number key value) _ (whole-tree key value) (λ z. in_range-tree key low high z)

number_at-tree : (key : Key) (low high : ℕ) (file : Members) → OfTree (number_at key low high file)
unfolding number_at
number_at-tree key low high file =
    stages (value_at key file) _ (value_at-tree key file)
    (λ value. number_in-tree key low high value)

list_at-tree : (key : Key) (most : ℕ) (file : Members) → OfTree (list_at key most file)
unfolding list_at
list_at-tree key most file =
    stages (value_at key file) _ (value_at-tree key file) (λ value.
    stages (list key value) _ (list-tree key value) (λ items. only_if-tree _ _ items refl))

-- ---- rows and managers

rows_of-tree : (value : Option Data) → OfTree (rows_of value)
rows_of-tree None = tt
rows_of-tree (Some value) = number_in-tree Rows 1 GREATEST_ROWS value

manager_of-tree : (taken : List ℕ) (value : Data) → OfTree (manager_of taken value)
unfolding manager_of
manager_of-tree taken value =
    stages (number_in Managers 1 TILLS value) _ (number_in-tree Managers 1 TILLS value) (λ t.
    only_if-tree _ _ t refl)

managers_from-tree : (taken : List ℕ) (items : Items) → OfTree (managers_from taken items)
managers_from-tree taken no_items = tt
managers_from-tree taken (item value more) =
    stages (manager_of taken value) _ (manager_of-tree taken value) (λ t.
    managers_from-tree (taken ++ t ∷ []) more)

managers_of-tree : (value : Option Data) → OfTree (managers_of value)
unfolding managers_of
managers_of-tree None = tt
managers_of-tree (Some value) =
    stages (list Managers value) _ (list-tree Managers value) (λ items. managers_from-tree [] items)

-- ---- products

product_number-tree : (taken : List ProductEntry) (file : Members)
    → OfTree (product_number taken file)
unfolding product_number
product_number-tree taken file =
    stages (number_at Number 1 PRODUCTS file) _ (number_at-tree Number 1 PRODUCTS file) (λ n.
    only_if-tree _ _ n refl)

product_name-tree : (taken : List ProductEntry) (file : Members)
    → OfTree (product_name taken file)
unfolding product_name
product_name-tree taken file =
    stages (value_at Name file) _ (value_at-tree Name file) (λ value.
    stages (text Name value) _ (text-tree Name value) (λ octets.
    let fit = only_if (is_name octets) (OutOfRange Name) octets in
    stages fit _ (only_if-tree (is_name octets) (OutOfRange Name) octets refl) (λ name.
    only_if-tree _ _ name refl)))

product_of-tree : (taken : List ProductEntry) (value : Data) → OfTree (product_of taken value)
unfolding product_of
product_of-tree taken value =
    stages (table_of Product value) _ (table-tree Product value) (λ members.
    stages (with_keys _ members) _ (with_keys-tree _ members) (λ file.
    stages (product_number taken file) _ (product_number-tree taken file) (λ number.
    stages (product_name taken file) _ (product_name-tree taken file) (λ name.
    stages (number_at Price 1 GREATEST_PRICE file) _ (number_at-tree Price 1 GREATEST_PRICE file)
    (λ price. tt)))))

products_from-tree : (taken : List ProductEntry) (items : Items)
    → OfTree (products_from taken items)
products_from-tree taken no_items = tt
products_from-tree taken (item value more) =
    stages (product_of taken value) _ (product_of-tree taken value) (λ p.
    products_from-tree (taken ++ p ∷ []) more)

products_of-tree : (file : Members) → OfTree (products_of file)
unfolding products_of
products_of-tree file =
    stages (list_at Product PRODUCTS file) _ (list_at-tree Product PRODUCTS file) (λ items.
    products_from-tree [] items)

-- ---- points

product_in-tree : (products : List ProductEntry) (z : ℤ) → OfTree (product_in products z)
product_in-tree products (pos n) = only_if-tree _ _ n refl
product_in-tree products (negsuc n) = refl

nozzle_of-tree : (products : List ProductEntry) (value : Data)
    → OfTree (nozzle_of products value)
unfolding nozzle_of
nozzle_of-tree products value =
    stages (table_of Nozzles value) _ (table-tree Nozzles value) (λ members.
    stages (with_keys _ members) _ (with_keys-tree _ members) (λ file.
    stages (value_at Product file) _ (value_at-tree Product file) (λ named.
    stages (whole_number Product named) _ (whole-tree Product named) (λ z.
    stages (product_in products z) _ (product_in-tree products z) (λ n.
    stages (number_at Reading 0 GREATEST_READING file) _
    (number_at-tree Reading 0 GREATEST_READING file) (λ reading. tt))))))

nozzles_from-tree : (products : List ProductEntry) (taken : List NozzleEntry) (items : Items)
    → OfTree (nozzles_from products taken items)
nozzles_from-tree products taken no_items = tt
nozzles_from-tree products taken (item value more) =
    stages (nozzle_of products value) _ (nozzle_of-tree products value) (λ n.
    nozzles_from-tree products (taken ++ n ∷ []) more)

nozzles_of-tree : (products : List ProductEntry) (file : Members)
    → OfTree (nozzles_of products file)
unfolding nozzles_of
nozzles_of-tree products file =
    stages (list_at Nozzles NOZZLES file) _ (list_at-tree Nozzles NOZZLES file) (λ items.
    nozzles_from-tree products [] items)

point_number-tree : (taken : List PointEntry) (file : Members) → OfTree (point_number taken file)
unfolding point_number
point_number-tree taken file =
    stages (number_at Number 1 POINTS file) _ (number_at-tree Number 1 POINTS file) (λ n.
    only_if-tree _ _ n refl)

point_of-tree : (products : List ProductEntry) (taken : List PointEntry) (value : Data)
    → OfTree (point_of products taken value)
unfolding point_of
point_of-tree products taken value =
    stages (table_of Point value) _ (table-tree Point value) (λ members.
    stages (with_keys _ members) _ (with_keys-tree _ members) (λ file.
    stages (point_number taken file) _ (point_number-tree taken file) (λ number.
    stages (nozzles_of products file) _ (nozzles_of-tree products file) (λ nozzles. tt))))

points_from-tree : (products : List ProductEntry) (taken : List PointEntry) (items : Items)
    → OfTree (points_from products taken items)
points_from-tree products taken no_items = tt
points_from-tree products taken (item value more) =
    stages (point_of products taken value) _ (point_of-tree products taken value) (λ p.
    points_from-tree products (taken ++ p ∷ []) more)

points_of-tree : (products : List ProductEntry) (file : Members)
    → OfTree (points_of products file)
unfolding points_of
points_of-tree products file =
    stages (list_at Point POINTS file) _ (list_at-tree Point POINTS file) (λ items.
    points_from-tree products [] items)

-- ---- the site and its text

site_of-tree : (members : Members) → OfTree (site_of members)
unfolding site_of
site_of-tree members =
    stages (with_keys _ members) _ (with_keys-tree _ members) (λ file.
    let said_rows = get_member (key_text Rows) file in
    let tills = get_member (key_text Managers) file in
    stages (rows_of said_rows) _ (rows_of-tree said_rows) (λ rows.
    stages (managers_of tills) _ (managers_of-tree tills) (λ managers.
    stages (products_of file) _ (products_of-tree file) (λ products.
    stages (points_of products file) _ (points_of-tree products file) (λ points. tt)))))

pub of_tree : (file : Members) (fault : ConfigFault) → site_of file ≡ Err fault
    → is_of_tree fault ≡ true
of_tree file fault said = IfErr-at_err (λ (f : ConfigFault). is_of_tree f ≡ true) said
    (site_of-tree file)

-- what is said of the octets, by whether they are UTF-8 and which document they are
abbrev said_of : Bool → Option Members → Result Configured ConfigFault
said_of utf8 document = (if utf8 then of_document document else Err NotToml) >>= site_of

text_by : (utf8 : Bool) (document : Option Members) → said_of utf8 document ≡ Err NotToml
    → (utf8 ≡ false) ⊎ (document ≡ None)
text_by false document said = inl refl
text_by true None said = inr refl
text_by true (Some file) said = absurd (false≢true (of_tree file NotToml said))

memory_by : (utf8 : Bool) (document : Option Members) → said_of utf8 document ≡ Err NoMemory → ⊥
memory_by false document said = cc
memory_by true None said = cc
memory_by true (Some file) said = false≢true (of_tree file NoMemory said)

pub of_text : (octets : List ℕ) → config_of octets ≡ Err NotToml → (is_utf8 octets ≡ false)
    ⊎ (parse_document octets ≡ None)
unfolding config_of tree_of
of_text octets said = text_by (is_utf8 octets) (parse_document octets) said

pub never_memory : (octets : List ℕ) → config_of octets ≢ Err NoMemory
unfolding config_of tree_of
never_memory octets said = memory_by (is_utf8 octets) (parse_document octets) said
