use Rattle.std.proofs.Common.{List, sym, ap, ◌∙◌, arith}
use Rattle.transaction_buffer.specs.Sales.{Sale, made_in, next_after}
use Rattle.transaction_buffer.proofs.OnShelves.{sales_there}
use Rattle.transaction_buffer.proofs.buffer.Buffer.next_seq.Goals as goal

pub returns : goal.returns
returns c =
    let there = sales_there c.self.inside.shelves c.cell.result c.args.p c.index-self-cell.result
    c.cell.ensures.place (omega arith) in
    rw (← c.self.view_is) (c.next_seq.ensures
    ∙ sym (ap (λ (xs : List Sale). next_after (made_in c.args.shift xs)) there))
