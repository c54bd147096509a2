-- The report for people: litres with three decimals, money with two, in columns.
use Rattle.std.specs.Prelude.{ℕ, ◌+◌, ◌/◌, ◌%◌, List, [], ◌∷◌, ◌++◌, map, sum, codes, decimal}
use Rattle.site_base.specs.declared.config.ProductEntry.{ProductEntry}
use Rattle.site_base.specs.declared.totals.Totals.{Totals}
use Rattle.site_base.specs.declared.view.ProductView.{ProductView}
use Rattle.day_report.specs.declared.column.Column.{Column}
use Rattle.day_report.specs.declared.column.Column.TheVariants.{Metered, Running, Payable, Locked}
use Rattle.day_report.specs.declared.column.Column.TheVariants.{Cleared, Adjusted}
use Rattle.day_report.specs.Columns.{Line, table_text}
use Rattle.day_report.specs.Takings.{all_cents, all_clears}

-- the last digit of a number
abbrev pub last_digit : ℕ → ℕ
last_digit n = 48 + n % 10

-- litres with three decimals, of so many millilitres: `12.345`
abbrev pub litres : ℕ → List ℕ
litres n = decimal (n / 1000)
    ++ (codes "." ++ (last_digit (n / 100) ∷ last_digit (n / 10) ∷ last_digit n ∷ []))

-- money with two, of so many cents: `12.34`
abbrev pub money : ℕ → List ℕ
money n = decimal (n / 100) ++ (codes "." ++ (last_digit (n / 10) ∷ last_digit n ∷ []))

-- ---- the columns, from the left

abbrev pub columns : List Column
columns = Metered ∷ Running ∷ Payable ∷ Locked ∷ Cleared ∷ Adjusted ∷ []

-- the title of a column
abbrev pub column_word : Column → List ℕ
column_word Metered = codes "metered"
column_word Running = codes "running"
column_word Payable = codes "payable"
column_word Locked = codes "locked"
column_word Cleared = codes "cleared"
column_word Adjusted = codes "adjusted"

-- the millilitres of a product in a column
abbrev pub volume_in : Column → ProductView → ℕ
volume_in Metered v = v.metered
volume_in Running v = v.running
volume_in Payable v = v.payable
volume_in Locked v = v.locked
volume_in Cleared v = v.cleared
volume_in Adjusted v = v.adjusted

-- the millilitres of all products in a column
abbrev pub sum_in : Column → List ProductView → ℕ
sum_in column views = sum (map (volume_in column) views)

-- ---- the lines of the table

abbrev pub title_line : Line
title_line = record { title = codes "litres"; figures = map column_word columns }

-- a product: its number and its name, and its volumes
abbrev pub product_line : ProductEntry → ProductView → Line
product_line p v = record {
  title = decimal p.number ++ (codes " " ++ p.name);
  figures = map (λ column. litres (volume_in column v)) columns;
}

-- the sums of all products
abbrev pub total_line : List ProductView → Line
total_line views = record {
  title = codes "total";
  figures = map (λ column. litres (sum_in column views)) columns;
}

-- a line for each product
abbrev pub product_lines : List ProductEntry → List ProductView → List Line
product_lines (p ∷ ps) (v ∷ vs) = product_line p v ∷ product_lines ps vs
product_lines ps vs = []

-- titles, products, and their sums
abbrev pub table_lines : List ProductEntry → List ProductView → List Line
table_lines products views = title_line ∷ (product_lines products views ++ total_line views ∷ [])

-- ---- the whole text

abbrev pub rows_text : ℕ → List ℕ
rows_text rows = decimal rows ++ codes " rows\n"

abbrev pub clears_text : List (ℕ × ℕ × ℕ) → List ℕ
clears_text tills = decimal (all_clears tills)
    ++ (codes " cleared for " ++ (money (all_cents tills) ++ codes "\n\n"))

-- the report of these totals: the rows, what all tills cleared, and the table of the products
abbrev pub people_text : List ProductEntry → Totals → List ℕ
people_text products t =
    rows_text t.rows
    ++ (clears_text t.tills ++ table_text (table_lines products t.products))
