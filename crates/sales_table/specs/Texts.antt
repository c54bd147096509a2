-- The whole texts of the tables, in either form.
use Rattle.std.specs.Prelude.{ℕ, List, [], ◌++◌, codes, flat_map}
use Rattle.csv.specs.Writing.{default_writer, row_text}
use Rattle.serde_json.specs.Written.{compact_text}
use Rattle.site_base.specs.declared.config.ProductEntry.{ProductEntry}
use Rattle.site_book.specs.declared.draw.Draw.{Draw}
use Rattle.site_book.specs.declared.named_sale.NamedSale.{NamedSale}
use Rattle.site_book.specs.Book.{Book}
use Rattle.site_book.specs.BookDraws.{book_draws}
use Rattle.site_book.specs.BookSales.{book_sales}
use Rattle.sales_table.specs.declared.form.Form.{Form}
use Rattle.sales_table.specs.declared.form.Form.TheVariants.{Csv, Json}
use Rattle.sales_table.specs.Objects.{draw_data, sale_data}
use Rattle.sales_table.specs.Tables.{draw_line, draw_titles, sale_line, sale_titles}

-- what stands above the lines: the titles, in comma-separated values
abbrev pub head_text : Form → List (List ℕ) → List ℕ
head_text Csv titles = row_text default_writer titles
head_text Json titles = []

-- the line of a sale
abbrev pub sale_text : Form → List ProductEntry → NamedSale → List ℕ
sale_text Csv products x = sale_line products [] x
sale_text Json products x = compact_text (sale_data products x) ++ codes "\n"

-- the table of a book's sales: a line for each, in the order in which they were sold
abbrev pub sales_text : Form → Book → List ℕ
sales_text form b =
    head_text form sale_titles ++ flat_map (sale_text form b.config.products) (book_sales b)

-- the line of a draw
abbrev pub draw_text : Form → List ProductEntry → Draw → List ℕ
draw_text Csv products x = draw_line products x
draw_text Json products x = compact_text (draw_data products x) ++ codes "\n"

-- the table of a book's draws: a line for each, in the order in which they were drawn
abbrev pub draws_text : Form → Book → List ℕ
draws_text form b =
    head_text form draw_titles ++ flat_map (draw_text form b.config.products) (book_draws b)
