use Rattle.std.proofs.Common.{◌≡◌, ◌∷◌, length, refl}
use Rattle.app_message.proofs.Bodies.{begun}
use Rattle.app_message.proofs.draft.Draft.back.Goals as goal

pub invariant_of-result : goal.invariant_of-result
invariant_of-result c =
    let request = c.args.request.now in
    let valid = c.spelled_address.ensures.valid in
    let text : c.put_address.new.out.items ≡ length request.address ∷ request.address =
    rw (
      c.in_ok-put_address.ensures,
      c.in_ok-reserve.ensures.items,
      c.clear.ensures.items,
      c.spelled_address.ensures.text,
    ) refl in
    (begun c.from-to.result c.args.from c.args.kind c.token-token.result request.address
    c.put_address.new.out.items c.know_types.ensures valid.address_octets valid.address_least
    valid.address_most text).1

pub returns-clause-made : goal.returns-clause-made
returns-clause-made c =
    let request = c.args.request.now in
    let valid = c.spelled_address.ensures.valid in
    let text : c.put_address.new.out.items ≡ length request.address ∷ request.address =
    rw (
      c.in_ok-put_address.ensures,
      c.in_ok-reserve.ensures.items,
      c.clear.ensures.items,
      c.spelled_address.ensures.text,
    ) refl in
    rw (← c.from-to.ensures, ← c.token-token.ensures)
    (begun c.from-to.result c.args.from c.args.kind
    c.token-token.result request.address c.put_address.new.out.items c.know_types.ensures
    valid.address_octets valid.address_least valid.address_most text).0
