use Rattle.std.proofs.Common.{arith}
use Rattle.app_message.proofs.Bodies.{address_written, begun}
use Rattle.app_message.proofs.draft.Draft.try_new.Goals as goal

pub invariant_of-result : goal.invariant_of-result
invariant_of-result c =
    let text = address_written c.args.address.now _ _ _ c.in_ok-body.ensures.items
    c.in_ok-push.ensures.items c.in_ok-extend_from_slice.ensures.items in
    (begun c.args.to c.args.from c.args.kind c.args.token c.args.address.now
    c.extend_from_slice.new.self.items c.know_types.ensures
    (λ i. omega (arith, c.type_inv.address i)) c.in_ok-check_address.ensures.least
    c.in_ok-check_address.ensures.most text).1

pub returns-clause-made : goal.returns-clause-made
returns-clause-made c =
    let text = address_written c.args.address.now _ _ _ c.in_ok-body.ensures.items
    c.in_ok-push.ensures.items c.in_ok-extend_from_slice.ensures.items in
    (begun c.args.to c.args.from c.args.kind c.args.token c.args.address.now
    c.extend_from_slice.new.self.items c.know_types.ensures
    (λ i. omega (arith, c.type_inv.address i)) c.in_ok-check_address.ensures.least
    c.in_ok-check_address.ensures.most text).0
