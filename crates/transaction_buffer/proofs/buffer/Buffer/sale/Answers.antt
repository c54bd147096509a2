use Rattle.std.proofs.Common.{get_or, Some, sym, ap, ◌∙◌, arith}
use Rattle.transaction_buffer.specs.Sales.{Sale, sale_in}
use Rattle.transaction_buffer.proofs.FoundSales.{found_there}
use Rattle.transaction_buffer.proofs.OnShelves.{sales_there}
use Rattle.transaction_buffer.proofs.buffer.Buffer.sale.Goals as goal

pub at-requires : goal.at-requires
at-requires c =
    let placed = rw (← c.self.view_is) at c.requires in
    (found_there c.args.found.now c.self.inside.shelves c.cell.result c.index-self-cell.result
    c.cell.ensures.place (omega arith) placed).within

pub returns : goal.returns
returns c =
    let found = c.args.found.now in
    let placed = rw (← c.self.view_is) at c.requires in
    let at = found_there found c.self.inside.shelves c.cell.result c.index-self-cell.result
    c.cell.ensures.place (omega arith) placed in
    let here = sales_there c.self.inside.shelves c.cell.result found.point
    c.index-self-cell.result c.cell.ensures.place (omega arith) in
    rw (← c.self.view_is) (ap (sale_in found.shift found.number) here
    ∙ at.sale c.at.result ∙ ap (λ (x : Sale). Some x) (sym (c.at.ensures c.at.result)))
