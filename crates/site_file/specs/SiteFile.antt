-- What a site file says: the table of its keys, line by line, over the tree of its text. The stages
-- stand in the order in which they are judged, so the first that fails gives the fault.
use Rattle.std.specs.Prelude.{ℕ, ◌+◌, ℤ, pos, negsuc, Bool, true, false, not, ◌==◌, List, [], ◌∷◌}
use Rattle.std.specs.Prelude.{◌++◌, Option, Some, None, Result, Ok, Err, if◌then◌else◌, nat_eq}
use Rattle.std.specs.List.{list_any}
use Rattle.std.specs.Str.{bytes_eq, is_utf8}
use Rattle.toml.specs.Parse.{parse_document}
use Rattle.toml.specs.Data.{Data, string, integer, array, table, Items, no_items, item, Members}
use Rattle.toml.specs.Data.{no_members, member, get_member}
use Rattle.site_base.specs.declared.config.NozzleEntry.{NozzleEntry}
use Rattle.site_base.specs.declared.amounts.TheConstants.{GREATEST_PRICE}
use Rattle.site_base.specs.declared.amounts.TheConstants.{GREATEST_READING}
use Rattle.site_base.specs.declared.limits.TheConstants.{NOZZLES, POINTS, PRODUCTS}
use Rattle.site_base.specs.declared.config.TheConstants.{GREATEST_ROWS}
use Rattle.site_base.specs.declared.limits.TheConstants.{TILLS}
use Rattle.site_base.specs.Names.{is_name}
use Rattle.site_base.specs.Ranges.{is_between}
use Rattle.site_base.specs.declared.config.PointEntry.{PointEntry}
use Rattle.site_base.specs.declared.config.ProductEntry.{ProductEntry}
use Rattle.site_base.specs.Configured.{Configured, has_product}
use Rattle.site_file.specs.declared.fault.ConfigFault.{ConfigFault}
use Rattle.site_file.specs.declared.fault.ConfigFault.TheVariants.{NotToml, UnknownKey, MissingKey}
use Rattle.site_file.specs.declared.fault.ConfigFault.TheVariants.{WrongKind, OutOfRange, Repeated}
use Rattle.site_file.specs.declared.fault.ConfigFault.TheVariants.{UnknownProduct}
use Rattle.site_file.specs.declared.key.Key.{Key}
use Rattle.site_file.specs.declared.key.Key.TheVariants.{Rows, Managers, Product, Point, Number}
use Rattle.site_file.specs.declared.key.Key.TheVariants.{Name, Price, Nozzles, Reading}
use Rattle.site_file.specs.Keys.{key_text, printed_key, is_known, least}

-- ---- stages

-- a stage, and then the next one, unless it failed
infixl 10 ◌>>=◌
abbrev pub ◌>>=◌ : {A B : Type 0} → Result A ConfigFault → (A → Result B ConfigFault)
    → Result B ConfigFault
(Ok x) >>= next = next x
(Err fault) >>= next = Err fault

-- the value, if this is so
abbrev pub only_if : {A : Type 0} → Bool → ConfigFault → A → Result A ConfigFault
only_if true fault x = Ok x
only_if false fault x = Err fault

-- ---- one value

-- the unknown keys of a table
abbrev pub unknown_keys : List Key → Members → List (List ℕ)
unknown_keys known no_members = []
unknown_keys known (member key value more) =
    if is_known known key then unknown_keys known more else key ∷ unknown_keys known more

-- a table has these keys alone, or its least unknown one is told
abbrev pub refuse_least : Members → Option (List ℕ) → Result Members ConfigFault
refuse_least entries None = Ok entries
refuse_least entries (Some key) = Err (UnknownKey (printed_key key))

unfoldable pub with_keys : List Key → Members → Result Members ConfigFault
with_keys known entries = refuse_least entries (least (unknown_keys known entries))

-- what stands at a key, which must be there
abbrev pub expect_value : Key → Option Data → Result Data ConfigFault
expect_value key None = Err (MissingKey key)
expect_value key (Some value) = Ok value

unfoldable pub value_at : Key → Members → Result Data ConfigFault
value_at key entries = expect_value key (get_member (key_text key) entries)

-- a whole number, a text, a list, a table, or the wrong kind
abbrev pub whole_number : Key → Data → Result ℤ ConfigFault
whole_number key (integer z) = Ok z
whole_number key value = Err (WrongKind key)

abbrev pub text : Key → Data → Result (List ℕ) ConfigFault
text key (string octets) = Ok octets
text key value = Err (WrongKind key)

abbrev pub list : Key → Data → Result Items ConfigFault
list key (array items) = Ok items
list key value = Err (WrongKind key)

abbrev pub table_of : Key → Data → Result Members ConfigFault
table_of key (table entries) = Ok entries
table_of key value = Err (WrongKind key)

-- a whole number from low to high
abbrev pub in_range : Key → ℕ → ℕ → ℤ → Result ℕ ConfigFault
in_range key low high (pos n) = only_if (is_between low high n) (OutOfRange key) n
in_range key low high (negsuc n) = Err (OutOfRange key)

unfoldable pub number_in : Key → ℕ → ℕ → Data → Result ℕ ConfigFault
number_in key low high value = whole_number key value >>= in_range key low high

unfoldable pub number_at : Key → ℕ → ℕ → Members → Result ℕ ConfigFault
number_at key low high entries = value_at key entries >>= number_in key low high

-- how many members a list has
abbrev pub count : Items → ℕ
count no_items = 0
count (item value more) = 1 + count more

-- a list of 1 to most members
unfoldable pub list_at : Key → ℕ → Members → Result Items ConfigFault
list_at key most entries = do
  value ← value_at key entries
  items ← list key value
  only_if (is_between 1 most (count items)) (OutOfRange key) items

-- ---- rows and managers

-- rows: a whole number 1 to 1000000; 1000000 where not there
abbrev pub rows_of : Option Data → Result ℕ ConfigFault
rows_of None = Ok GREATEST_ROWS
rows_of (Some value) = number_in Rows 1 GREATEST_ROWS value

-- managers: till numbers 1 to 32, none repeated; none where not there
unfoldable pub manager_of : List ℕ → Data → Result ℕ ConfigFault
manager_of taken value = do
  till ← number_in Managers 1 TILLS value
  only_if (not (list_any (nat_eq till) taken)) (Repeated Managers) till

abbrev pub managers_from : List ℕ → Items → Result (List ℕ) ConfigFault
managers_from taken no_items = Ok taken
managers_from taken (item value more) =
    manager_of taken value >>= λ till. managers_from (taken ++ till ∷ []) more

unfoldable pub managers_of : Option Data → Result (List ℕ) ConfigFault
managers_of None = Ok []
managers_of (Some value) = list Managers value >>= managers_from []

-- ---- products

-- number: 1 to 8, not repeated
unfoldable pub product_number : List ProductEntry → Members → Result ℕ ConfigFault
product_number taken product = do
  number ← number_at Number 1 PRODUCTS product
  only_if (not (has_product taken number)) (Repeated Number) number

-- a product of this name is there
abbrev pub has_name : List ProductEntry → List ℕ → Bool
has_name products name = list_any (λ p. bytes_eq p.name name) products

-- name: 1 to 20 of a to z, 0 to 9 and hyphen, not repeated
unfoldable pub product_name : List ProductEntry → Members → Result (List ℕ) ConfigFault
product_name taken product = do
  value ← value_at Name product
  octets ← text Name value
  name ← only_if (is_name octets) (OutOfRange Name) octets
  only_if (not (has_name taken name)) (Repeated Name) name

-- a product, after those taken: number, name, price
unfoldable pub product_of : List ProductEntry → Data → Result ProductEntry ConfigFault
product_of taken value = do
  entries ← table_of Product value
  product ← with_keys (Number ∷ Name ∷ Price ∷ []) entries
  number ← product_number taken product
  name ← product_name taken product
  price ← number_at Price 1 GREATEST_PRICE product
  Ok (record { number = number; name = name; price = price })

abbrev pub products_from : List ProductEntry → Items
    → Result (List ProductEntry) ConfigFault
products_from taken no_items = Ok taken
products_from taken (item value more) =
    product_of taken value >>= λ product. products_from (taken ++ product ∷ []) more

-- product: a list of 1 to 8 tables
unfoldable pub products_of : Members → Result (List ProductEntry) ConfigFault
products_of file = list_at Product PRODUCTS file >>= products_from []

-- ---- points

-- a nozzle's product: the number of a product of the file
abbrev pub product_in : List ProductEntry → ℤ → Result ℕ ConfigFault
product_in products (pos n) = only_if (has_product products n) UnknownProduct n
product_in products (negsuc n) = Err UnknownProduct

-- a nozzle: product, reading
unfoldable pub nozzle_of : List ProductEntry → Data → Result NozzleEntry ConfigFault
nozzle_of products value = do
  entries ← table_of Nozzles value
  nozzle ← with_keys (Product ∷ Reading ∷ []) entries
  named ← value_at Product nozzle
  number ← whole_number Product named
  product ← product_in products number
  reading ← number_at Reading 0 GREATEST_READING nozzle
  Ok (record { product = product; reading = reading })

abbrev pub nozzles_from : List ProductEntry → List NozzleEntry → Items
    → Result (List NozzleEntry) ConfigFault
nozzles_from products taken no_items = Ok taken
nozzles_from products taken (item value more) =
    nozzle_of products value >>= λ nozzle. nozzles_from products (taken ++ nozzle ∷ []) more

-- nozzles: a list of 1 to 8 tables; nozzle n is the nth
unfoldable pub nozzles_of : List ProductEntry → Members → Result (List NozzleEntry) ConfigFault
nozzles_of products point = list_at Nozzles NOZZLES point >>= nozzles_from products []

-- a point of this number is there
abbrev pub has_point : List PointEntry → ℕ → Bool
has_point points number = list_any (λ p. p.number == number) points

-- number: 1 to 64, not repeated
unfoldable pub point_number : List PointEntry → Members → Result ℕ ConfigFault
point_number taken point = do
  number ← number_at Number 1 POINTS point
  only_if (not (has_point taken number)) (Repeated Number) number

-- a point, after those taken: number, nozzles
unfoldable pub point_of : List ProductEntry → List PointEntry → Data
    → Result PointEntry ConfigFault
point_of products taken value = do
  entries ← table_of Point value
  point ← with_keys (Number ∷ Nozzles ∷ []) entries
  number ← point_number taken point
  nozzles ← nozzles_of products point
  Ok (record { number = number; nozzles = nozzles })

abbrev pub points_from : List ProductEntry → List PointEntry → Items
    → Result (List PointEntry) ConfigFault
points_from products taken no_items = Ok taken
points_from products taken (item value more) =
    point_of products taken value >>= λ point. points_from products (taken ++ point ∷ []) more

-- point: a list of 1 to 64 tables
unfoldable pub points_of : List ProductEntry → Members
    → Result (List PointEntry) ConfigFault
points_of products file = list_at Point POINTS file >>= points_from products []

-- ---- the site: rows, managers, product, point
unfoldable pub site_of : Members → Result Configured ConfigFault
site_of entries = do
  file ← with_keys (Rows ∷ Managers ∷ Product ∷ Point ∷ []) entries
  rows ← rows_of (get_member (key_text Rows) file)
  managers ← managers_of (get_member (key_text Managers) file)
  products ← products_of file
  points ← points_of products file
  Ok (record { rows = rows; managers = managers; products = products; points = points })

-- ---- the text of a site file

-- the tree of a text that is a document
abbrev pub of_document : Option Members → Result Members ConfigFault
of_document None = Err NotToml
of_document (Some file) = Ok file

-- the tree of the octets, if they are UTF-8 and a document by TOML's grammar
unfoldable pub tree_of : List ℕ → Result Members ConfigFault
tree_of octets = if is_utf8 octets then of_document (parse_document octets) else Err NotToml

-- what the octets of a site file say: the site, or the first fault
unfoldable pub config_of : List ℕ → Result Configured ConfigFault
config_of octets = tree_of octets >>= site_of
