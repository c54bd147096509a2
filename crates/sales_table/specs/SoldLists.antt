-- The table of a history's sales, whose rows are read one after another, and that of what they drew
-- in tests.
use Rattle.std.specs.Prelude.{ℕ, List, [], ◌++◌, Option, Some, None, flat_map}
use Rattle.stamps.specs.declared.span.TimeSpan.{TimeSpan}
use Rattle.site_base.specs.declared.config.ProductEntry.{ProductEntry}
use Rattle.site_book.specs.declared.draw.Draw.{Draw}
use Rattle.site_book.specs.declared.named_sale.NamedSale.{NamedSale}
use Rattle.site_book.specs.Book.{Book, site_of_book}
use Rattle.site_book.specs.BookSales.{sale_named}
use Rattle.sales_table.specs.declared.form.Form.{Form}
use Rattle.sales_table.specs.declared.timed_sale.TimedSale.{TimedSale}
use Rattle.sales_table.specs.Tables.{draw_titles, sale_titles}
use Rattle.sales_table.specs.Texts.{draw_text, head_text}
use Rattle.sales_table.specs.TimedSales.{asked_sales, key_of, time_titles, timed_text}

-- the line of a sale with these times, if there is one
abbrev pub line_if : Form → List ProductEntry → TimedSale → Option NamedSale → List ℕ
line_if form products t None = []
line_if form products t (Some x) = timed_text form products t x

-- the line of a sale, as it stands at the book's site
abbrev pub sold_line : Form → Book → TimedSale → List ℕ
sold_line form b t =
    line_if form b.config.products t (sale_named (site_of_book b) (key_of t.name))

-- the table of these sales
abbrev pub sold_text : Form → Book → List TimedSale → List ℕ
sold_text form b sales =
    head_text form (sale_titles ++ time_titles) ++ flat_map (sold_line form b) sales

-- The table is the filter: with a span, it is the table of just those of the sales that were
-- cleared in it.
abbrev pub table_of_span : Form → Book → Option TimeSpan → List TimedSale → List ℕ
table_of_span form b span sales = sold_text form b (asked_sales span sales)

-- the table of these draws
abbrev pub drawn_text : Form → List ProductEntry → List Draw → List ℕ
drawn_text form products draws =
    head_text form draw_titles ++ flat_map (draw_text form products) draws
