use Rattle.std.proofs.Common.{List, get_or, is_some, sym, ap, ◌∙◌, arith}
use Rattle.transaction_buffer.specs.Sales.{Sale, sale_in}
use Rattle.transaction_buffer.specs.Shelves.{place_in, shifts_of}
use Rattle.transaction_buffer.proofs.FoundSales.{place_tells}
use Rattle.transaction_buffer.proofs.OnShelves.{sales_there}
use Rattle.transaction_buffer.proofs.buffer.Buffer.find.Goals as goal

pub returns-in-Some-clause-there : goal.returns-in-Some-clause-there
returns-in-Some-clause-there c =
    let d = c.index-self-cell.result in
    let here = sales_there c.self.inside.shelves c.cell.result c.args.p d c.cell.ensures.place
    (omega arith) in
    rw (← c.self.view_is) (ap is_some (sym c.in-Some.is ∙ c.find.ensures)
    ∙ place_tells c.args.shift c.args.s (get_or c.self.inside.shelves c.cell.result d).sales
    ∙ ap (λ (xs : List Sale). is_some (sale_in c.args.shift c.args.s xs)) (sym here))

pub returns-in-Some-clause-placed : goal.returns-in-Some-clause-placed
returns-in-Some-clause-placed c =
    let here = sales_there c.self.inside.shelves c.cell.result c.args.p c.index-self-cell.result
    c.cell.ensures.place (omega arith) in
    rw (← c.self.view_is)
    (ap (λ (xs : List Sale). place_in c.args.shift c.args.s (shifts_of xs)) here
    ∙ sym c.find.ensures ∙ c.in-Some.is)

pub returns-in-None-clause-there : goal.returns-in-None-clause-there
returns-in-None-clause-there c =
    let d = c.index-self-cell.result in
    let here = sales_there c.self.inside.shelves c.cell.result c.args.p d c.cell.ensures.place
    (omega arith) in
    rw (← c.self.view_is) (ap is_some (sym c.in-None.is ∙ c.find.ensures)
    ∙ place_tells c.args.shift c.args.s (get_or c.self.inside.shelves c.cell.result d).sales
    ∙ ap (λ (xs : List Sale). is_some (sale_in c.args.shift c.args.s xs)) (sym here))
