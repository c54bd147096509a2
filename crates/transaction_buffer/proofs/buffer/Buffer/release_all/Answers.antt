use Rattle.std.proofs.Common.{◌≡◌, get_or, arith}
use Rattle.std.proofs.lemmas.List.{get_or_default}
use Rattle.transaction_buffer.proofs.Lockers.{noted_let_go, rooms_let_go, sales_let_go}
use Rattle.transaction_buffer.proofs.OnShelves.{let_go_there}
use Rattle.transaction_buffer.proofs.buffer.Buffer.release_all.Goals as goal

pub returns-clause-sales : goal.returns-clause-sales
returns-clause-sales c =
    let k = c.cell-cell.result in
    let locked = c.self.inside.locked in
    let one = get_or locked.one k c.index-self-cell.result in
    let other = get_or locked.other k c.index-self-cell-2.result in
    let is_one : one ≡ get_or locked.one k 0 = get_or_default locked.one k _ _ (omega arith) in
    let is_other : other ≡ get_or locked.other k 0 =
    get_or_default locked.other k _ _ (omega arith) in
    rw (← c.self.view_is)
    (let_go_there c.args.t c.self.inside.shelves c.unlock_at-2.new.shelves
    (sales_let_go c.args.t k one other
    c.self.inside.shelves c.unlock_at.new.shelves c.unlock_at-2.new.shelves
    locked c.forget.new.self c.self.invariant.noted c.cell-cell.ensures.place (omega arith) is_one
    is_other
    c.unlock_at.ensures.cells c.unlock_at-2.ensures.cells
    c.unlock_at.ensures.shelves c.unlock_at-2.ensures.shelves
    c.forget.ensures))

pub returns-clause-rooms : goal.returns-clause-rooms
returns-clause-rooms c =
    let k = c.cell-cell.result in
    let locked = c.self.inside.locked in
    let one = get_or locked.one k c.index-self-cell.result in
    let other = get_or locked.other k c.index-self-cell-2.result in
    rw (← c.self.view_is)
    (rooms_let_go c.args.t k one other
    c.self.inside.shelves c.unlock_at.new.shelves c.unlock_at-2.new.shelves
    locked c.forget.new.self c.self.invariant.noted c.cell-cell.ensures.place (omega arith)
    (get_or_default locked.one k _ _ (omega arith))
    (get_or_default locked.other k _ _ (omega arith))
    c.unlock_at.ensures.cells c.unlock_at-2.ensures.cells
    c.unlock_at.ensures.shelves c.unlock_at-2.ensures.shelves
    c.forget.ensures)

pub invariant_of-self : goal.invariant_of-self
invariant_of-self c =
    let k = c.cell-cell.result in
    let locked = c.self.inside.locked in
    let one = get_or locked.one k c.index-self-cell.result in
    let other = get_or locked.other k c.index-self-cell-2.result in
    let is_one : one ≡ get_or locked.one k 0 = get_or_default locked.one k _ _ (omega arith) in
    let is_other : other ≡ get_or locked.other k 0 =
    get_or_default locked.other k _ _ (omega arith) in
    record {
      sums = c.unlock_at-2.ensures.sums;
      noted = noted_let_go c.args.t k one other
          c.self.inside.shelves c.unlock_at.new.shelves
          c.unlock_at-2.new.shelves locked c.forget.new.self c.self.invariant.noted
          c.cell-cell.ensures.place (omega arith) is_one is_other
          c.unlock_at.ensures.cells
          c.unlock_at-2.ensures.cells c.unlock_at.ensures.shelves
          c.unlock_at-2.ensures.shelves c.forget.ensures;
    }
