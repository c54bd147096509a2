use Rattle.std.proofs.Common.{◌≡◌, Result, Ok, Err, OnErr, refl, sym, subst, arith}
use Rattle.std.proofs.Math.ListN.{set}
use Rattle.transaction_buffer.proofs.OnShelves.{shelf_same, room_written, room_elsewhere, room_kept}
use Rattle.transaction_buffer.proofs.OnShelves.{rooms_same}
use Rattle.transaction_buffer.specs.Rooms.{Buffered}
use Rattle.transaction_buffer.specs.Shelves.{sales_on, rooms_on}
use Rattle.transaction_buffer.proofs.Lockers.{noted_same}
use Rattle.transaction_buffer.specs.KeptSums.{AreSums}
use Rattle.transaction_buffer.proofs.buffer.Buffer.reserve.Goals as goal

-- what an error tells, told otherwise
on_err : {T E P : Type 0} (r : Result T E) (Q : Type 0) → (P → Q) → OnErr r P → OnErr r Q
on_err (Ok x) Q f is = is
on_err (Err e) Q f is = f is

pub returns-clause-sales : goal.returns-clause-sales
returns-clause-sales c =
    rw (← c.self.view_is) (shelf_same c.self.inside.shelves c.cell.result c.reserve.new.self
    c.index-self-cell.result (omega arith) c.reserve.ensures.sales)

pub returns-clause-room : goal.returns-clause-room
returns-clause-room c =
    let room = room_written c.self.inside.shelves c.cell.result c.args.p c.reserve.new.self
    c.cell.ensures.place (omega arith) in
    rw room c.reserve.ensures.room

pub returns-clause-kept : goal.returns-clause-kept
returns-clause-kept c =
    rw (← c.self.view_is) (room_kept c.self.inside.shelves c.cell.result c.args.p c.reserve.new.self
    c.index-self-cell.result c.cell.ensures.place (omega arith) c.reserve.ensures.kept)

pub returns-clause-others : goal.returns-clause-others
returns-clause-others c =
    rw (← c.self.view_is) (λ q other. room_elsewhere c.self.inside.shelves c.cell.result c.args.p q
    c.reserve.new.self c.cell.ensures.place other)

pub returns-clause-err : goal.returns-clause-err
returns-clause-err c =
    let shelves = c.self.inside.shelves in
    let new = c.reserve.new.self in
    let sales : sales_on (set shelves c.cell.result new) ≡ sales_on shelves =
    shelf_same shelves c.cell.result new c.index-self-cell.result (omega arith)
    c.reserve.ensures.sales in
    let before : Buffered = record { sales = sales_on shelves; rooms = rooms_on shelves } in
    let after : Buffered = record {
      sales = sales_on (set shelves c.cell.result new);
      rooms = rooms_on (set shelves c.cell.result new);
    } in
    rw (← c.self.view_is) (on_err c.reserve.result (after ≡ before) (λ room.
    let rooms : rooms_on (set shelves c.cell.result new) ≡ rooms_on shelves =
    rooms_same shelves c.cell.result new c.index-self-cell.result (omega arith) room in
    rw (sales, rooms) refl) c.reserve.ensures.err)

pub invariant_of-self : goal.invariant_of-self
invariant_of-self c = record {
  sums = subst (λ s. AreSums s c.self.inside.sums)
      (sym (shelf_same c.self.inside.shelves c.cell.result c.reserve.new.self
      c.index-self-cell.result (omega arith) c.reserve.ensures.sales)) c.self.invariant.sums;
  noted = noted_same c.self.inside.shelves c.cell.result c.reserve.new.self
      c.index-self-cell.result c.self.inside.locked c.self.invariant.noted (omega arith)
      c.reserve.ensures.sales c.reserve.ensures.lockers;
}
