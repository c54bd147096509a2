-- A transaction as JSON. Members stand in the order of their names.
use Rattle.std.specs.Prelude.{ℕ, ◌-◌, ◌==◌, List, Option, Some, None, codes, filter, map}
use Rattle.std.specs.Prelude.{sum_by, unwrap_or}
use Rattle.serde_json.specs.Data.{Data, string, object, member, no_members}
use Rattle.site_base.specs.declared.state.Status.{Status}
use Rattle.site_base.specs.declared.state.Status.TheVariants.{Payable, Locked, Cleared}
use Rattle.transaction_buffer.specs.Sales.{status_of, till_of}
use Rattle.site_book.specs.declared.named_sale.NamedSale.{NamedSale}
use Rattle.day_report.specs.Figures.{figure, listed}
use Rattle.site_json.specs.Figures.{figure_if}

-- the name of a status
abbrev pub status_word : Status → List ℕ
status_word Payable = codes "payable"
status_word Locked = codes "locked"
status_word Cleared = codes "cleared"

-- what is still due of a transaction: what it costs above what was prepaid
abbrev pub due_of : NamedSale → ℕ
due_of x = x.sale.cents - unwrap_or x.sale.prepaid 0

-- what goes back of it: what was prepaid above what it costs
abbrev pub back_of : NamedSale → ℕ
back_of x = unwrap_or x.sale.prepaid 0 - x.sale.cents

abbrev pub transaction_data : NamedSale → Data
transaction_data x =
    object
    (member (codes "back cents") (figure (back_of x))
    (member (codes "cents") (figure x.sale.cents)
    (member (codes "due cents") (figure (due_of x))
    (member (codes "millilitres") (figure x.sale.volume)
    (member (codes "mills") (figure x.sale.price)
    (member (codes "number") (figure x.number)
    (member (codes "point") (figure x.point)
    (member (codes "prepaid") (figure_if x.sale.prepaid)
    (member (codes "product") (figure x.sale.product)
    (member (codes "shift") (figure x.shift)
    (member (codes "status") (string (status_word (status_of x.sale.standing)))
    (member (codes "till") (figure_if (till_of x.sale.standing))
    no_members))))))))))))

abbrev pub transactions_data : List NamedSale → List Data
transactions_data sales = map transaction_data sales

-- those of these transactions that are at a point; without a point all
abbrev pub sales_at : Option ℕ → List NamedSale → List NamedSale
sales_at None sales = sales
sales_at (Some p) sales = filter (λ x. x.point == p) sales

-- the unpaid transactions of a point, or of all, as JSON
abbrev pub unpaid_data : Option ℕ → List NamedSale → Data
unpaid_data point unpaid = listed (transactions_data (sales_at point unpaid))

-- the cents of these transactions, in all
abbrev pub cents_of : List NamedSale → ℕ
cents_of sales = sum_by (λ (x : NamedSale). x.sale.cents) sales

-- what is due of these transactions, in all
abbrev pub dues_of : List NamedSale → ℕ
dues_of sales = sum_by due_of sales
