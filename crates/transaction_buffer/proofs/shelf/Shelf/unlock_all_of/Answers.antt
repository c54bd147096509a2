use Rattle.std.proofs.Common.{◌≡◌, ◌++◌, length, map, drop, take, sym, ap, subst, ◌∙◌, arith, refl}
use Rattle.std.proofs.lemmas.List.{length-map, take_at}
use Rattle.transaction_buffer.specs.Sales.{unpaid_among}
use Rattle.transaction_buffer.specs.TransactionTable.{unlock_all_of}
use Rattle.transaction_buffer.specs.Shelves.{AreSpans}
use Rattle.transaction_buffer.proofs.Lockers.{lockers_let_go, told}
use Rattle.transaction_buffer.proofs.Reading.{let_go_shift}
use Rattle.transaction_buffer.proofs.Spans.{shifts_mapped}
use Rattle.transaction_buffer.proofs.Unpaid.{unpaid_let_go}
use Rattle.transaction_buffer.proofs.PlacesUnpaid.{places_let_go}
use Rattle.transaction_buffer.proofs.shelf.Shelf.unlock_all_of.Goals as goal
use Rattle.transaction_buffer.proofs.shelf.Shelf.unlock_all_of.Goals.{After-unlock_unpaid}

-- the sales as they stand then
all_moved : (c : After-unlock_unpaid)
    → take c.self.inside.sales.len
    (c.unlock_unpaid.new.sales ++ drop (length c.unlock_unpaid.new.sales) c.self.inside.sales.items)
    ≡ map (unlock_all_of c.args.t) c.self.inside.sales.items
all_moved c =
    let new = c.unlock_unpaid.new.sales in
    let old = c.self.inside.sales.items in
    let count : length new ≡ c.self.inside.sales.len =
    ap length c.unlock_unpaid.ensures ∙ length-map c.deref_mut.result.now (unlock_all_of c.args.t)
    ∙ c.deref_mut.ensures.len in
    take_at new (drop (length new) old) c.self.inside.sales.len count
    ∙ c.unlock_unpaid.ensures ∙ ap (map (unlock_all_of c.args.t)) c.deref_mut.ensures.value

pub returns : goal.returns
returns c =
    let old = c.self.inside.sales.items in
    let a = c.self.inside.unpaid.one in
    let b = c.self.inside.unpaid.other in
    rw (← c.self.view_is, all_moved (goal.at.returns c).After-unlock_unpaid) (record {
      sales = refl;
      room = refl;
      lockers = lockers_let_go c.args.t a b old;
      told = told (map (unlock_all_of c.args.t) old) a b
          (places_let_go c.args.t old a b c.self.invariant.places);
    })

pub invariant_of-self : goal.invariant_of-self
invariant_of-self c =
    let old = c.self.inside.sales.items in
    let as_many : length (map (unlock_all_of c.args.t) old) ≡ length old =
    length-map old (unlock_all_of c.args.t) in
    let unpaid : unpaid_among (map (unlock_all_of c.args.t) old) ≡ unpaid_among old =
    unpaid_let_go c.args.t old in
    let shifts = shifts_mapped (unlock_all_of c.args.t) old (let_go_shift c.args.t) in
    rw (all_moved (goal.at.invariant_of-self c).After-unlock_unpaid) (record {
      unpaid = omega (arith, c.self.invariant.unpaid);
      places = places_let_go c.args.t old c.self.inside.unpaid.one c.self.inside.unpaid.other
          c.self.invariant.places;
      few = c.self.invariant.few;
      spans = subst (λ gs. AreSpans gs c.self.inside.spans.items) (sym shifts)
          c.self.invariant.spans;
    })
