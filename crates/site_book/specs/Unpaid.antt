-- The unpaid transactions of a book, as they are found row by row.
use Rattle.std.specs.Prelude.{◌≡◌, ◌≤◌, ℕ, Bool, List, length, take, filter, filter_map, IsSome}
use Rattle.std.specs.List.{AllByRecursion}
use Rattle.transaction_buffer.specs.Sales.{Key, is_unpaid, key}
use Rattle.written_site.specs.Histories.{moments_of}
use Rattle.written_site.specs.RowWords.{open_after}
use Rattle.written_site.specs.SiteRun.{IsLegal}
use Rattle.written_site.specs.SiteState.{SiteState, opening}
use Rattle.site_book.specs.declared.named_sale.NamedSale.{NamedSale}
use Rattle.site_book.specs.Book.{Book, site_of_book}
use Rattle.site_book.specs.BookSales.{book_sales, sale_made, sale_named}

-- what is kept: how many rows are read, the shift that is open after them, and the transactions
-- that were unpaid when they were read
pub record Kept : Type 0 where
  pub place : ℕ
  pub shift : ℕ
  pub sales : List NamedSale

-- payable or locked
abbrev pub is_due : NamedSale → Bool
is_due x = is_unpaid x.sale.standing

-- the unpaid transactions of a book, in the order in which they were sold, as they stand
abbrev pub unpaid_sales : Book → List NamedSale
unpaid_sales b = filter is_due (book_sales b)

-- those that the rows before this place sold
abbrev pub unpaid_before : ℕ → Book → List NamedSale
unpaid_before place b = filter is_due
    (filter_map (sale_made (site_of_book b)) (take place (moments_of b.config b.rows)))

abbrev pub name_of : NamedSale → Key
name_of x = key x.shift x.point x.number

-- these transactions as they stand at the site
abbrev pub as_they_stand : SiteState → List NamedSale → List NamedSale
as_they_stand s sales = filter_map (λ x. sale_named s (name_of x)) sales

-- the site has a transaction of its name
abbrev pub IsOfSite : SiteState → NamedSale → Type 0
IsOfSite s x = IsSome (sale_named s (name_of x))

-- What is kept goes by this book: so many of its rows are read, the forgotten ones among them, they
-- are a legal history, and that shift is open after them. The site has each transaction that is
-- kept, and of what these rows sold just the transactions that are kept may be unpaid.
pub record GoesBy (kept : Kept) (b : Book) : Type 0 where
  pub behind : b.forgotten ≤ kept.place
  pub within : kept.place ≤ length b.rows
  pub legal : IsLegal (opening b.config) (take kept.place b.rows)
  pub shift : kept.shift ≡ open_after (take kept.place b.rows)
  pub there : AllByRecursion (IsOfSite (site_of_book b)) kept.sales
  pub unpaid : filter is_due (as_they_stand (site_of_book b) kept.sales)
      ≡ unpaid_before kept.place b
