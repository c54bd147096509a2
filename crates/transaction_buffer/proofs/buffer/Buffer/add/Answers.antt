use Rattle.std.proofs.Common.{◌≡◌, ◌+◌, ◌^◌, ◌<◌, ◌++◌, ◌∷◌, [], List, get_or, Some, is_some, sym}
use Rattle.std.proofs.Common.{ap, subst, ◌∙◌, arith}
use Rattle.std.specs.FinMap as finite
use Rattle.std.proofs.Math.ListN.{set}
use Rattle.transaction_buffer.specs.KeptSums.{AreSums}
use Rattle.transaction_buffer.specs.Sales.{Sale, made_in, next_after, with_new}
use Rattle.transaction_buffer.specs.Sums.{volume_of}
use Rattle.transaction_buffer.specs.Shelves.{sales_on, stock}
use Rattle.transaction_buffer.proofs.OnShelves.{sales_there, room_taken, room_there, shelf_filled}
use Rattle.transaction_buffer.proofs.OnShelves.{stock_push}
use Rattle.transaction_buffer.proofs.SumsAfter.{fits_more, kept_sold}
use Rattle.transaction_buffer.proofs.Lockers.{noted_there, noted_after}
use Rattle.transaction_buffer.proofs.Spans.{made_counts}
use Rattle.transaction_buffer.proofs.buffer.Buffer.add.Goals as goal
use Rattle.transaction_buffer.proofs.buffer.Buffer.add.Goals.{After-push}

pub unwrap-seq-requires : goal.unwrap-seq-requires
unwrap-seq-requires c =
    let there = sales_there c.self.inside.shelves c.cell.result c.args.p c.index-self-cell.result
    c.cell.ensures.place (omega arith) in
    let required = rw (← c.self.view_is) at c.requires.number in
    ap is_some (c.next_seq.ensures
    ∙ sym (ap (λ (xs : List Sale). next_after (made_in c.args.shift xs)) there))
    ∙ required

pub push-requires-clause-room : goal.push-requires-clause-room
push-requires-clause-room c =
    let room = room_there c.self.inside.shelves c.cell.result c.args.p c.index-self-cell.result
    c.cell.ensures.place (omega arith) in
    let required = rw (← c.self.view_is) at c.requires.room in
    rw (← room) required

pub push-requires-clause-unpaid : goal.push-requires-clause-unpaid
push-requires-clause-unpaid c =
    let there = sales_there c.self.inside.shelves c.cell.result c.args.p c.index-self-cell.result
    c.cell.ensures.place (omega arith) in
    let required = rw (← c.self.view_is) at c.requires.unpaid in
    rw (← there) required

pub returns-clause-number : goal.returns-clause-number
returns-clause-number c =
    let there = sales_there c.self.inside.shelves c.cell.result c.args.p c.index-self-cell.result
    c.cell.ensures.place (omega arith) in
    rw (← c.self.view_is) (ap (λ (xs : List Sale). next_after (made_in c.args.shift xs)) there
    ∙ sym c.next_seq.ensures ∙ c.unwrap-seq.ensures)

sold : (c : After-push) → sales_on (set c.self.inside.shelves c.cell.result c.push.new.self)
    ≡ with_new c.args.p c.new-sale.result (sales_on c.self.inside.shelves)
sold c =
    let shelves = c.self.inside.shelves in
    let x : Sale = c.new-sale.result in
    let old : List Sale = (get_or shelves c.cell.result c.index-self-cell.result).sales in
    let there = sales_there shelves c.cell.result c.args.p c.index-self-cell.result
    c.cell.ensures.place (omega arith) in
    let added : c.push.new.self.sales ≡ old ++ x ∷ [] = c.push.ensures.sales in
    let some : stock c.push.new.self.sales ≡ Some c.push.new.self.sales =
    ap stock added ∙ stock_push old x ∙ ap Some (sym added) in
    shelf_filled shelves c.cell.result c.args.p c.push.new.self c.cell.ensures.place (omega arith)
    some
    ∙ ap (finite.insert (sales_on shelves) c.args.p)
    (added ∙ ap (λ (xs : List Sale). xs ++ x ∷ []) (sym there))

fitting : (c : After-push)
    → volume_of c.new-sale.result.product (sales_on c.self.inside.shelves)
    + c.new-sale.result.volume
    < 2 ^ 64
fitting c =
    let required = rw (← c.self.view_is) at c.requires.fits in
    subst (λ (x : Sale). volume_of x.product (sales_on c.self.inside.shelves) + x.volume < 2 ^ 64)
    (sym c.new-sale.ensures.value) required

pub push-requires-clause-order : goal.push-requires-clause-order
push-requires-clause-order c =
    let there = sales_there c.self.inside.shelves c.cell.result c.args.p c.index-self-cell.result
    c.cell.ensures.place (omega arith) in
    let required = rw (← c.self.view_is) at c.requires.order in
    let shift : c.new-sale.result.shift ≡ c.args.shift =
    ap (λ (x : Sale). x.shift) c.new-sale.ensures.value in
    λ g later high. sym (made_counts g (get_or c.self.inside.shelves c.cell.result
    c.index-self-cell.result).sales) ∙ ap (made_in g) (sym there)
    ∙ required g (omega (arith, shift, later)) high

pub returns-clause-sales : goal.returns-clause-sales
returns-clause-sales c =
    rw (← c.self.view_is) (sold (goal.at.returns-clause-sales c).After-push
    ∙ ap (λ (x : Sale). with_new c.args.p x (sales_on c.self.inside.shelves))
    c.new-sale.ensures.value)

pub returns-clause-rooms : goal.returns-clause-rooms
returns-clause-rooms c =
    rw (← c.self.view_is) (room_taken c.self.inside.shelves c.cell.result c.args.p c.push.new.self
    c.index-self-cell.result c.cell.ensures.place (omega arith) c.push.ensures.room)

pub add-requires : goal.add-requires
add-requires c =
    let product : c.new-sale.result.product ≡ c.args.view.product =
    ap (λ (x : Sale). x.product) c.new-sale.ensures.value in
    fits_more (sales_on c.self.inside.shelves) c.self.inside.sums c.args.p c.new-sale.result
    c.self.invariant.sums (fitting (goal.at.add-requires c).After-push)
    (omega (arith, product, c.new-sale.ensures.range))
    (omega (arith, product, c.new-sale.ensures.range))

pub note-requires : goal.note-requires
note-requires c =
    noted_there c.self.inside.shelves c.cell.result c.args.p c.index-self-cell.result
    c.self.inside.locked c.lockers-before.result c.self.invariant.noted c.cell.ensures.place
    (omega arith) c.lockers-before.ensures.value

pub invariant_of-self : goal.invariant_of-self
invariant_of-self c =
    let d = (goal.at.invariant_of-self c).After-push in
    record {
      sums = subst (λ s. AreSums s c.add.new.self) (sym (sold d))
          (kept_sold (sales_on c.self.inside.shelves) c.self.inside.sums c.args.p c.new-sale.result
          c.self.invariant.sums (fitting d) c.add.new.self c.add.ensures);
      noted = noted_after c.self.inside.shelves c.cell.result c.args.p c.push.new.self
          c.self.inside.locked c.note.new.self c.lockers-after.result c.self.invariant.noted
          c.cell.ensures.place (omega arith) c.lockers-after.ensures.value
          c.lockers-after.ensures.told c.note.ensures.noted c.note.ensures.others;
    }
