-- A sale and a draw as JSON. Members stand in the order of their names.
use Rattle.std.specs.Prelude.{ℕ, List, codes, Option, Some, None}
use Rattle.serde_json.specs.Data.{Data, null, number, string, object, unsigned}
use Rattle.serde_json.specs.Data.{Members, member, no_members, put}
use Rattle.site_base.specs.declared.config.ProductEntry.{ProductEntry}
use Rattle.transaction_buffer.specs.Sales.{status_of, till_of}
use Rattle.site_book.specs.declared.draw.Draw.{Draw}
use Rattle.site_book.specs.declared.named_sale.NamedSale.{NamedSale}
use Rattle.sales_table.specs.declared.timed_sale.TimedSale.{TimedSale}
use Rattle.sales_table.specs.Tables.{cleared_in, name_of, status_word}

-- a time, or null
abbrev pub time_if : Option (List ℕ) → Data
time_if None = null
time_if (Some time) = string time

-- a number, or null
abbrev pub number_if : Option ℕ → Data
number_if None = null
number_if (Some n) = number (unsigned n)

abbrev pub sale_members : List ProductEntry → NamedSale → Members
sale_members products x =
    member (codes "cents") (number (unsigned x.sale.cents))
    (member (codes "cleared in shift") (number_if (cleared_in x.sale.standing))
    (member (codes "millilitres") (number (unsigned x.sale.volume))
    (member (codes "mills") (number (unsigned x.sale.price))
    (member (codes "name") (string (name_of x.sale.product products))
    (member (codes "number") (number (unsigned x.number))
    (member (codes "point") (number (unsigned x.point))
    (member (codes "prepaid") (number_if x.sale.prepaid)
    (member (codes "product") (number (unsigned x.sale.product))
    (member (codes "shift") (number (unsigned x.shift))
    (member (codes "status") (string (status_word (status_of x.sale.standing)))
    (member (codes "till") (number_if (till_of x.sale.standing))
    no_members)))))))))))

abbrev pub sale_data : List ProductEntry → NamedSale → Data
sale_data products x = object (sale_members products x)

-- a sale of a history: its times are members more, at their places
abbrev pub timed_data : List ProductEntry → TimedSale → NamedSale → Data
timed_data products t x =
    object
    (put (codes "sold at") (time_if t.sold_at)
    (put (codes "cleared at") (time_if t.cleared_at) (sale_members products x)))

abbrev pub draw_data : List ProductEntry → Draw → Data
draw_data products x =
    object
    (member (codes "millilitres") (number (unsigned x.volume))
    (member (codes "name") (string (name_of x.product products))
    (member (codes "point") (number (unsigned x.point))
    (member (codes "product") (number (unsigned x.product))
    (member (codes "shift") (number (unsigned x.shift))
    no_members)))))
