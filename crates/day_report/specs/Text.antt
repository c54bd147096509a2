-- The report as text: a line for each figure.
use Rattle.std.specs.Prelude.{ℕ, List, [], ◌∷◌, ◌++◌, codes, decimal}
use Rattle.site_base.specs.declared.config.ProductEntry.{ProductEntry}
use Rattle.site_base.specs.Configured.{Configured}
use Rattle.site_base.specs.declared.totals.Totals.{Totals}
use Rattle.site_base.specs.declared.view.ProductView.{ProductView}
use Rattle.day_report.specs.Takings.{all_cents, all_clears}

-- how many rows there are; the clears of all tills, and their cents
abbrev pub head_lines : ℕ → List (ℕ × ℕ × ℕ) → List ℕ
head_lines rows tills =
    codes "rows " ++ decimal rows ++ codes "\nclears " ++ decimal (all_clears tills)
    ++ codes " cents " ++ decimal (all_cents tills) ++ codes "\n"

-- which product a line is of: its number and its name
abbrev pub product_title : ProductEntry → List ℕ
product_title p = codes "product " ++ decimal p.number ++ codes " " ++ p.name

-- what was metered of a product, and what of it is in a fuelling under way
abbrev pub metered_words : ProductView → List ℕ
metered_words v = codes " metered " ++ decimal v.metered ++ codes " running " ++ decimal v.running

-- what was sold of it, by its status, and last what tests drew
abbrev pub sold_words : ProductView → List ℕ
sold_words v =
    codes " payable " ++ decimal v.payable ++ codes " locked " ++ decimal v.locked
    ++ codes " cleared " ++ decimal v.cleared ++ codes " adjusted " ++ decimal v.adjusted
    ++ codes "\n"

-- the line of a product with its figures
abbrev pub product_line : ProductEntry → ProductView → List ℕ
product_line p v = product_title p ++ metered_words v ++ sold_words v

-- a line for each product with its figures, in this order
abbrev pub product_lines : List ProductEntry → List ProductView → List ℕ
product_lines (p ∷ ps) (v ∷ vs) = product_line p v ++ product_lines ps vs
product_lines ps vs = []

-- how many shares settled
abbrev pub shares_line : ℕ → List ℕ
shares_line shares = codes "shares " ++ decimal shares ++ codes " settled\n"

-- the report of these totals: the rows and the clears, the products, and how many shares settled
abbrev pub report_text : Configured → Totals → ℕ → List ℕ
report_text c totals shares =
    head_lines totals.rows totals.tills ++ product_lines c.products totals.products
    ++ shares_line shares
