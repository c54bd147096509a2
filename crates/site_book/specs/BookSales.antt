-- The sales of a book, in the order in which they were sold.
use Rattle.std.specs.Prelude.{◌≡◌, ℕ, ◌≤◌, Bool, List, [], length, take, drop, filter, filter_map}
use Rattle.std.specs.Prelude.{Option, option_and_then, option_map}
use Rattle.std.specs.List.{cons_option}
use Rattle.transaction_buffer.specs.Sales.{Key, Sale, key, sale_of, same_key}
use Rattle.written_site.specs.Histories.{Moment, moments_of}
use Rattle.written_site.specs.RowWords.{open_after}
use Rattle.written_site.specs.SaleWords.{sold_as}
use Rattle.written_site.specs.SiteState.{SiteState}
use Rattle.site_book.specs.declared.named_sale.NamedSale.{NamedSale}
use Rattle.site_book.specs.Book.{Book, site_of_book}

-- a sale with its name
abbrev pub with_name : Key → Sale → NamedSale
with_name k x = record { shift = k.shift; point = k.point; number = k.number; sale = x }

-- the sale of this name as it stands at the site, with its name
abbrev pub sale_named : SiteState → Key → Option NamedSale
sale_named s k = option_map (with_name k) (sale_of k s.sales)

-- the sale that a moment made, as it stands at the site
abbrev pub sale_made : SiteState → Moment → Option NamedSale
sale_made s m = option_and_then (sale_named s) (sold_as m)

-- the sales that the rows from this place on made, as they stand at the book's site
abbrev pub sales_from : ℕ → Book → List NamedSale
sales_from place b =
    filter_map (sale_made (site_of_book b)) (drop place (moments_of b.config b.rows))

-- the sales of a book: in the order in which its rows made them, as they stand at its site
abbrev pub book_sales : Book → List NamedSale
book_sales b = filter_map (sale_made (site_of_book b)) (moments_of b.config b.rows)

-- the sale is told under this name
abbrev pub is_under : Key → NamedSale → Bool
is_under k x = same_key k (key x.shift x.point x.number)

-- these are all sales of the site, each told once: under each name just the sale that the site has
-- of it, and none where it has none
abbrev pub AreAllSales : List NamedSale → SiteState → Type 0
AreAllSales told s = (k : Key) → filter (is_under k) told ≡ cons_option (sale_named s k) []

-- of a book that has forgotten no row, the rows before this place are read, after which shift h is
-- open
pub record IsReadTo (place h : ℕ) (b : Book) : Type 0 where
  pub whole : b.forgotten ≡ 0
  pub within : place ≤ length b.rows
  pub shift : h ≡ open_after (take place b.rows)
