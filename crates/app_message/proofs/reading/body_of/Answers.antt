use Rattle.std.proofs.Common.{arith}
use Rattle.app_message.specs.Reading.{header}
use Rattle.app_message.proofs.Bodies.{body_from, is_body}
use Rattle.app_message.proofs.reading.body_of.Goals as goal

pub new-requires : goal.new-requires
new-requires c =
    let items = rw c.split.ensures.items at c.in_ok-check_items.ensures in
    is_body c.args.head.to c.args.head.from c.args.head.kind c.args.head.token c.args.octets.now
    c.requires.head (λ i. omega (arith, c.type_inv.octets i)) c.requires.least c.requires.most
    c.in_ok-check_address.ensures.exact items

pub returns : goal.returns
returns c =
    let items = rw c.split.ensures.items at c.in_ok-check_items.ensures in
    rw c.new.ensures (body_from (header c.args.head) c.args.octets.now
    c.in_ok-check_address.ensures.exact items)
