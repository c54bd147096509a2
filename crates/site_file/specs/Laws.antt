-- What the table of the site file is checked by: a file says fit sites, and every fit site; and
-- which faults are of the text, and which of what it says.
use Rattle.std.specs.Prelude.{◌≡◌, ◌≢◌, ◌⊎◌, ℕ, pos, Bool, true, false, ◌&&◌, List, [], ◌∷◌, None}
use Rattle.std.specs.Prelude.{Ok, Err, codes}
use Rattle.std.specs.List.{list_all}
use Rattle.std.specs.Str.{is_utf8}
use Rattle.toml.specs.Data.{Data, string, integer, array, table, Items, no_items, item, Members}
use Rattle.toml.specs.Data.{no_members, member}
use Rattle.toml.specs.Parse.{parse_document}
use Rattle.site_base.specs.declared.config.NozzleEntry.{NozzleEntry}
use Rattle.site_base.specs.declared.limits.TheConstants.{POINTS}
use Rattle.site_base.specs.declared.amounts.TheConstants.{GREATEST_PRICE}
use Rattle.site_base.specs.declared.amounts.TheConstants.{GREATEST_READING}
use Rattle.site_base.specs.declared.limits.TheConstants.{PRODUCTS, TILLS}
use Rattle.site_base.specs.Ranges.{is_between}
use Rattle.site_base.specs.declared.config.PointEntry.{PointEntry}
use Rattle.site_base.specs.declared.config.ProductEntry.{ProductEntry}
use Rattle.site_base.specs.Configured.{Configured, is_site}
use Rattle.site_file.specs.declared.fault.ConfigFault.{ConfigFault}
use Rattle.site_file.specs.declared.fault.ConfigFault.TheVariants.{NoMemory, NotToml}
use Rattle.site_file.specs.SiteFile.{site_of, config_of}

-- ---- the tree by which a file can say a site

-- a list of what its members are said by
abbrev pub list_tree : {A : Type 0} → (A → Data) → List A → Items
list_tree tree [] = no_items
list_tree tree (x ∷ xs) = item (tree x) (list_tree tree xs)

abbrev pub number_tree : ℕ → Data
number_tree n = integer (pos n)

abbrev pub product_tree : ProductEntry → Data
product_tree p =
    table (member (codes "name") (string p.name)
    (member (codes "number") (number_tree p.number)
    (member (codes "price") (number_tree p.price) no_members)))

abbrev pub nozzle_tree : NozzleEntry → Data
nozzle_tree n =
    table (member (codes "product") (number_tree n.product)
    (member (codes "reading") (number_tree n.reading) no_members))

abbrev pub point_tree : PointEntry → Data
point_tree p =
    table (member (codes "nozzles") (array (list_tree nozzle_tree p.nozzles))
    (member (codes "number") (number_tree p.number) no_members))

abbrev pub site_tree : Configured → Members
site_tree c =
    member (codes "managers") (array (list_tree number_tree c.managers))
    (member (codes "point") (array (list_tree point_tree c.points))
    (member (codes "product") (array (list_tree product_tree c.products))
    (member (codes "rows") (number_tree c.rows) no_members)))

-- ---- the laws

-- the numbers of a configuration are in the ranges of their types
abbrev pub is_product_in_range : ProductEntry → Bool
is_product_in_range p = is_between 1 PRODUCTS p.number && is_between 1 GREATEST_PRICE p.price

abbrev pub is_nozzle_in_range : NozzleEntry → Bool
is_nozzle_in_range n = is_between 0 GREATEST_READING n.reading

abbrev pub is_point_in_range : PointEntry → Bool
is_point_in_range p = is_between 1 POINTS p.number && list_all is_nozzle_in_range p.nozzles

pub record IsInRange (c : Configured) : Type 0 where
  pub managers : list_all (is_between 1 TILLS) c.managers ≡ true
  pub products : list_all is_product_in_range c.products ≡ true
  pub points : list_all is_point_in_range c.points ≡ true

-- What is accepted is a fit site, and each fit site is accepted as it is, of the tree that says it.
pub record AcceptsTheFitSites : Type 0 where
  pub fit : (file : Members) (c : Configured) → site_of file ≡ Ok c → is_site c ≡ true
  pub every : (c : Configured) → is_site c ≡ true → IsInRange c → site_of (site_tree c) ≡ Ok c

-- a fault of what a text says, and not of the text itself or of memory
abbrev pub is_of_tree : ConfigFault → Bool
is_of_tree NoMemory = false
is_of_tree NotToml = false
is_of_tree fault = true

-- A tree has no fault but 71 to 76. The octets of a file are no TOML only where they aren't UTF-8
-- or no document by TOML's grammar. What a file says is never want of memory.
pub record TellsTheTextApart : Type 0 where
  pub tree : (file : Members) (fault : ConfigFault)
      → site_of file ≡ Err fault → is_of_tree fault ≡ true
  pub text : (octets : List ℕ) → config_of octets ≡ Err NotToml
      → (is_utf8 octets ≡ false) ⊎ (parse_document octets ≡ None)
  pub memory : (octets : List ℕ) → config_of octets ≢ Err NoMemory
