use Rattle.std.proofs.Common.{◌≡◌, ◌++◌, ℕ, List, [], ap, refl, sym, ◌∙◌}
use Rattle.sales_table.specs.Tables.{sale_line}
use Rattle.sales_table.specs.Texts.{sale_text}
use Rattle.sales_table.proofs.tables.put_sale.Goals as goal

pub returns-in_ok-extend_from_slice-in-Csv : goal.returns-in_ok-extend_from_slice-in-Csv
returns-in_ok-extend_from_slice-in-Csv c =
    let line : sale_text c.args.form c.args.products.now c.args.sold.now
    ≡ sale_line c.args.products.now [] c.args.sold.now = rw c.in-Csv.is refl in
    c.in_ok-extend_from_slice-in-Csv.ensures.items
    ∙ ap (λ (l : List ℕ). c.args.text.now.items ++ l)
    (c.deref.ensures.value ∙ c.in_ok-sale_line-in-Csv.ensures ∙ sym line)
