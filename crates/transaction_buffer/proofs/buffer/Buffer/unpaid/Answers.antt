use Rattle.std.proofs.Common.{sym, ap, ◌∙◌, arith}
use Rattle.transaction_buffer.specs.Sales.{unpaid_among}
use Rattle.transaction_buffer.proofs.OnShelves.{sales_there}
use Rattle.transaction_buffer.proofs.buffer.Buffer.unpaid.Goals as goal

pub returns-clause-value : goal.returns-clause-value
returns-clause-value c =
    let there = sales_there c.self.inside.shelves c.cell.result c.args.p c.index-self-cell.result
    c.cell.ensures.place (omega arith) in
    rw (← c.self.view_is) (c.unpaid.ensures.value ∙ sym (ap unpaid_among there))
