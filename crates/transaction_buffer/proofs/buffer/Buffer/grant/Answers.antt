use Rattle.std.proofs.Common.{◌≡◌, ℕ, List, get_or, Option, Some, None, sym, ap, subst, ◌∙◌, arith}
use Rattle.std.proofs.Common.{refl}
use Rattle.std.proofs.Math.ListN.{set}
use Rattle.std.specs.FinMap as finite
use Rattle.transaction_buffer.specs.KeptSums.{AreSums}
use Rattle.transaction_buffer.specs.FoundSales.{key_of}
use Rattle.transaction_buffer.specs.Sales.{Sale, is_unpaid, sale_in, sale_of, sales_at, with_in}
use Rattle.transaction_buffer.specs.Sales.{with_sale}
use Rattle.transaction_buffer.specs.Shelves.{stock, sales_on}
use Rattle.transaction_buffer.specs.TransactionTable.{line_for, line_of, refusal_in}
use Rattle.transaction_buffer.specs.TransactionTable.{sale_after_request}
use Rattle.transaction_buffer.proofs.AcceptedRequests.{IsAccepted, accepted, granted}
use Rattle.transaction_buffer.proofs.FoundSales.{found_there}
use Rattle.transaction_buffer.proofs.SumsAfter.{among, fits_again, kept_replaced}
use Rattle.transaction_buffer.proofs.Lockers.{noted_there, noted_after}
use Rattle.transaction_buffer.proofs.OnShelves.{rooms_same, sales_there, shelf_filled, stock_with}
use Rattle.transaction_buffer.proofs.Spans.{StandsAt}
use Rattle.transaction_buffer.proofs.buffer.Buffer.grant.Goals as goal
use Rattle.transaction_buffer.proofs.buffer.Buffer.grant.Goals.{After-lockers-before, After-put}

-- the sales of its point
abbrev sales_here : After-lockers-before → List Sale
sales_here c = (get_or c.self.inside.shelves c.cell.result c.index-self-cell.result).sales

-- where it stands there
at : (c : After-lockers-before)
    → StandsAt c.args.found.now.shift c.args.found.now.number
    (get_or c.self.inside.shelves c.cell.result c.index-self-cell.result).sales
    c.args.found.now.place
at c =
    let placed = rw (← c.self.view_is) at c.requires.placed in
    found_there c.args.found.now c.self.inside.shelves c.cell.result c.index-self-cell.result
    c.cell.ensures.place (omega arith) placed

-- the sale of its name
there : (c : After-lockers-before)
    → sale_of (key_of c.args.found.now) (sales_on c.self.inside.shelves) ≡ Some c.sale-old.result
there c = rw (← c.self.view_is) at c.sale-old.ensures

-- it is the one at its place
is_it : (c : After-lockers-before) (d : Sale)
    → get_or (sales_here c) c.args.found.now.place d ≡ c.sale-old.result
is_it c d =
    let here = sales_there c.self.inside.shelves c.cell.result c.args.found.now.point
    c.index-self-cell.result c.cell.ensures.place (omega arith) in
    let both : Some (get_or (sales_here c) c.args.found.now.place d) ≡ Some c.sale-old.result =
    sym ((at c).sale d)
    ∙ sym (ap (sale_in c.args.found.now.shift c.args.found.now.number) here) ∙ there c in
    cc

-- the table's line for it accepts
taken : (c : After-lockers-before)
    → refusal_in (line_for c.args.request.now c.args.t c.sale-old.result) ≡ None
taken c =
    let required = rw (← c.self.view_is) at c.requires.accepted in
    sym (ap (λ (o : Option Sale). refusal_in (line_of c.args.request.now c.args.t o)) (there c))
    ∙ required

-- what the request leaves
left : (c : After-lockers-before) → IsAccepted c.sale-old.result c.grant-new.result.0
left c =
    subst (λ (y : Sale). IsAccepted c.sale-old.result y) (sym c.grant-new.ensures.sale)
    (accepted c.args.request.now c.args.t c.sale-old.result (taken c))

-- the sales once it is replaced
written : (c : After-put) → sales_on (set c.self.inside.shelves c.cell.result c.put.new.self)
    ≡ with_sale (key_of c.args.found.now) c.grant-new.result.0 (sales_on c.self.inside.shelves)
written c =
    let found = c.args.found.now in
    let shelves = c.self.inside.shelves in
    let d = c.index-self-cell.result in
    let old : List Sale = (get_or shelves c.cell.result d).sales in
    let new : Sale = c.grant-new.result.0 in
    let here = sales_there shelves c.cell.result found.point d c.cell.ensures.place (omega arith) in
    let placed = rw (← c.self.view_is) at c.requires.placed in
    let stands = found_there found shelves c.cell.result d c.cell.ensures.place (omega arith)
    placed in
    let put : c.put.new.self.sales ≡ with_in found.shift found.number new old =
    c.put.ensures.sales ∙ sym (stands.write new) in
    let some : stock c.put.new.self.sales ≡ Some c.put.new.self.sales =
    ap stock put
    ∙ stock_with found.shift found.number old (get_or old found.place new) new (stands.sale new)
    ∙ ap (λ (xs : List Sale). Some xs) (sym put) in
    let changed : c.put.new.self.sales
    ≡ with_in found.shift found.number new (sales_at found.point (sales_on shelves)) =
    put ∙ ap (with_in found.shift found.number new) (sym here) in
    shelf_filled shelves c.cell.result found.point c.put.new.self c.cell.ensures.place (omega arith)
    some
    ∙ ap (finite.insert (sales_on shelves) found.point) changed

pub put-requires-clause-within : goal.put-requires-clause-within
put-requires-clause-within c =
    (at (goal.at.put-requires-clause-within c).After-lockers-before).within

pub put-requires-clause-unpaid : goal.put-requires-clause-unpaid
put-requires-clause-unpaid c =
    let e = (goal.at.put-requires-clause-unpaid c).After-lockers-before in
    λ d. ap (λ (x : Sale). is_unpaid x.standing) (is_it e d) ∙ (left e).unpaid

pub put-requires-clause-shift : goal.put-requires-clause-shift
put-requires-clause-shift c =
    let e = (goal.at.put-requires-clause-shift c).After-lockers-before in
    λ d. ap (λ (x : Sale). x.shift) (is_it e d) ∙ sym (left e).shift

pub remove-requires : goal.remove-requires
remove-requires c =
    let e = (goal.at.remove-requires c).After-lockers-before in
    let range = c.grant-new.ensures.range in
    among (sales_on c.self.inside.shelves) c.self.inside.sums (key_of c.args.found.now)
    c.sale-old.result c.grant-new.result.0 c.self.invariant.sums (there e) (left e).product
    (left e).volume range.0 range.1

pub add-requires : goal.add-requires
add-requires c =
    let e = (goal.at.add-requires c).After-lockers-before in
    let range = c.grant-new.ensures.range in
    fits_again (sales_on c.self.inside.shelves) c.self.inside.sums (key_of c.args.found.now)
    c.sale-old.result c.grant-new.result.0 c.self.invariant.sums (there e) (left e).product
    (left e).volume range.0 range.1 c.remove.new.self c.remove.ensures

pub note-requires : goal.note-requires
note-requires c =
    noted_there c.self.inside.shelves c.cell.result c.args.found.now.point c.index-self-cell.result
    c.self.inside.locked c.lockers-before.result c.self.invariant.noted c.cell.ensures.place
    (omega arith) c.lockers-before.ensures.value

pub invariant_of-self : goal.invariant_of-self
invariant_of-self c =
    let e = (goal.at.invariant_of-self c).After-lockers-before in
    let range = c.grant-new.ensures.range in
    record {
      sums = subst (λ s. AreSums s c.add.new.self)
          (sym (written (goal.at.invariant_of-self c).After-put))
          (kept_replaced (sales_on c.self.inside.shelves) c.self.inside.sums
          (key_of c.args.found.now) c.sale-old.result c.grant-new.result.0 c.self.invariant.sums
          (there e) (left e).product (left e).volume range.0 range.1 c.remove.new.self
          c.remove.ensures c.add.new.self c.add.ensures);
      noted = noted_after c.self.inside.shelves c.cell.result c.args.found.now.point
          c.put.new.self c.self.inside.locked c.note.new.self c.lockers-after.result
          c.self.invariant.noted c.cell.ensures.place (omega arith) c.lockers-after.ensures.value
          c.lockers-after.ensures.told c.note.ensures.noted c.note.ensures.others;
    }

pub returns-clause-sales : goal.returns-clause-sales
returns-clause-sales c =
    let e = (goal.at.returns-clause-sales c).After-lockers-before in
    let k = key_of c.args.found.now in
    rw (← c.self.view_is)
    (written (goal.at.returns-clause-sales c).After-put
    ∙ ap (λ (x : Sale). with_sale k x (sales_on c.self.inside.shelves)) c.grant-new.ensures.sale
    ∙ granted c.args.request.now c.args.t k c.sale-old.result (sales_on c.self.inside.shelves)
    (there e) (taken e))

pub returns-clause-rooms : goal.returns-clause-rooms
returns-clause-rooms c =
    rw (← c.self.view_is) (rooms_same c.self.inside.shelves c.cell.result c.put.new.self
    c.index-self-cell.result (omega arith) c.put.ensures.room)
