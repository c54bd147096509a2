use Rattle.transaction_buffer.proofs.Lockers.{told}
use Rattle.transaction_buffer.proofs.shelf.Shelf.lockers.Goals as goal

pub returns-clause-told : goal.returns-clause-told
returns-clause-told c = rw (← c.self.view_is)
    (told c.self.inside.sales.items c.self.inside.unpaid.one c.self.inside.unpaid.other
    c.self.invariant.places)
