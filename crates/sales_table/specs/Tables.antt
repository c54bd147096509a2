-- The lines of a day's tables as comma-separated values: of its sales, and of the draws of its
-- tests.
use Rattle.std.specs.Prelude.{ℕ, ◌==◌, if◌then◌else◌, List, [], ◌∷◌, ◌++◌, codes, decimal, Option}
use Rattle.std.specs.Prelude.{Some, None}
use Rattle.csv.specs.Writing.{default_writer, row_text}
use Rattle.site_base.specs.declared.config.ProductEntry.{ProductEntry}
use Rattle.site_base.specs.declared.state.Status.{Status}
use Rattle.site_base.specs.declared.state.Status.TheVariants.{Payable, Locked, Cleared}
use Rattle.transaction_buffer.specs.declared.standing.Standing.{Standing}
use Rattle.transaction_buffer.specs.declared.standing.Standing.TheVariants.{ClearedBy}
use Rattle.transaction_buffer.specs.Sales.{status_of, till_of}
use Rattle.site_book.specs.declared.draw.Draw.{Draw}
use Rattle.site_book.specs.declared.named_sale.NamedSale.{NamedSale}

-- ---- what a field says

-- a number in decimal, or nothing
abbrev pub decimal_if : Option ℕ → List ℕ
decimal_if None = []
decimal_if (Some n) = decimal n

-- the name of the product with this number; of a product that isn't configured, nothing
abbrev pub name_of : ℕ → List ProductEntry → List ℕ
name_of q [] = []
name_of q (p ∷ ps) = if p.number == q then p.name else name_of q ps

abbrev pub status_word : Status → List ℕ
status_word Payable = codes "payable"
status_word Locked = codes "locked"
status_word Cleared = codes "cleared"

-- the shift in which a sale that stands so was cleared
abbrev pub cleared_in : Standing → Option ℕ
cleared_in (ClearedBy till shift) = Some shift
cleared_in standing = None

-- ---- sales

abbrev pub sale_titles : List (List ℕ)
sale_titles =
    codes "shift" ∷ codes "point" ∷ codes "number" ∷ codes "product" ∷ codes "name"
    ∷ codes "millilitres" ∷ codes "mills" ∷ codes "cents" ∷ codes "prepaid" ∷ codes "status"
    ∷ codes "till" ∷ codes "cleared in shift" ∷ []

abbrev pub sale_fields : List ProductEntry → NamedSale → List (List ℕ)
sale_fields products x =
    decimal x.shift ∷ decimal x.point ∷ decimal x.number
    ∷ decimal x.sale.product ∷ name_of x.sale.product products
    ∷ decimal x.sale.volume ∷ decimal x.sale.price ∷ decimal x.sale.cents
    ∷ decimal_if x.sale.prepaid ∷ status_word (status_of x.sale.standing)
    ∷ decimal_if (till_of x.sale.standing) ∷ decimal_if (cleared_in x.sale.standing) ∷ []

-- the line of a sale, with these fields more
abbrev pub sale_line : List ProductEntry → List (List ℕ) → NamedSale → List ℕ
sale_line products more x = row_text default_writer (sale_fields products x ++ more)

-- ---- draws

abbrev pub draw_titles : List (List ℕ)
draw_titles =
    codes "shift" ∷ codes "point" ∷ codes "product" ∷ codes "name" ∷ codes "millilitres" ∷ []

abbrev pub draw_fields : List ProductEntry → Draw → List (List ℕ)
draw_fields products x =
    decimal x.shift ∷ decimal x.point ∷ decimal x.product ∷ name_of x.product products
    ∷ decimal x.volume ∷ []

abbrev pub draw_line : List ProductEntry → Draw → List ℕ
draw_line products x = row_text default_writer (draw_fields products x)
