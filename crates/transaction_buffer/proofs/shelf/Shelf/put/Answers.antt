use Rattle.std.proofs.Common.{◌≡◌, ◌+◌, ◌≤◌, cond, if◌then◌else◌, true, List, get_or, sym, ap}
use Rattle.std.proofs.Common.{subst, arith}
use Rattle.std.proofs.Math.ListN.{set}
use Rattle.transaction_buffer.specs.Sales.{Sale, is_unpaid, unpaid_among}
use Rattle.transaction_buffer.specs.Shelves.{AreSpans, shifts_of}
use Rattle.transaction_buffer.specs.UnpaidPlaces.{AreUnpaid, place_without}
use Rattle.transaction_buffer.proofs.Spans.{shifts_put}
use Rattle.transaction_buffer.proofs.Unpaid.{unpaid_put, unpaid_set}
use Rattle.transaction_buffer.proofs.PlacesUnpaid.{places_put}
use Rattle.transaction_buffer.proofs.shelf.Shelf.put.Goals as goal

pub invariant_of-self : goal.invariant_of-self
invariant_of-self c =
    let xs : List Sale = c.self.inside.sales.items in
    let x = c.args.sale in
    let i = c.args.place in
    let requires = rw (← c.self.view_is) at c.requires in
    let within = requires.within in
    let unpaid : is_unpaid (get_or xs i x).standing ≡ true = requires.unpaid x in
    let moved : unpaid_among (set xs i x) + 1 ≡ unpaid_among xs + cond (is_unpaid x.standing) 1 0 =
    unpaid_put xs i x x within unpaid in
    let fewer : unpaid_among (set xs i x) ≤ unpaid_among xs = unpaid_set xs i x x within unpaid in
    let a = c.self.inside.unpaid.one in
    let b = c.self.inside.unpaid.other in
    let places : AreUnpaid (set xs i x) c.after_change-self-inside.result.one
    c.after_change-self-inside.result.other =
    subst (λ o. AreUnpaid (set xs i x) o c.after_change-self-inside.result.other)
    (sym c.after_change-self-inside.ensures.one)
    (subst (λ o. AreUnpaid (set xs i x) (if c.is_unpaid.result then a else place_without a i) o)
    (sym c.after_change-self-inside.ensures.other)
    (places_put xs i x x a b c.self.invariant.places within unpaid moved c.is_unpaid.result
    c.is_unpaid.ensures)) in
    record {
      unpaid = omega (arith, fewer, c.self.invariant.unpaid);
      places = places;
      few = c.self.invariant.few;
      spans = subst (λ gs. AreSpans gs c.self.inside.spans.items)
          (sym (shifts_put xs i x x within (requires.shift x))) c.self.invariant.spans;
    }
