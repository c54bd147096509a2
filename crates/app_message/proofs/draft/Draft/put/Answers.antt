use Rattle.std.proofs.Common.{arith}
use Rattle.app_message.specs.Telegram.{entry, IsEntry}
use Rattle.app_message.proofs.Bodies.{item_put}
use Rattle.app_message.proofs.draft.Draft.put.Goals as goal

pub invariant_of-self-2 : goal.invariant_of-self-2
invariant_of-self-2 c =
    let valid : IsEntry (entry c.args.id c.args.content.now) =
    record {
      id = omega (arith, c.ranges.id.fits);
      size = omega (arith, c.if-content-gt-LONGEST_CONTENT.false);
      octets = λ i. omega (arith, c.type_inv.content i);
    } in
    (item_put _ c.self.inside.body.items (entry c.args.id c.args.content.now)
    c.put_item.new.out.items c.self.invariant valid c.in_ok-put_item.ensures.ok).1

pub returns-clause-added : goal.returns-clause-added
returns-clause-added c =
    let valid : IsEntry (entry c.args.id c.args.content.now) =
    record {
      id = omega (arith, c.ranges.id.fits);
      size = omega (arith, c.if-content-gt-LONGEST_CONTENT.false);
      octets = λ i. omega (arith, c.type_inv.content i);
    } in
    rw (← c.self.view_is) (item_put _ c.self.inside.body.items (entry c.args.id c.args.content.now)
    c.put_item.new.out.items c.self.invariant valid c.in_ok-put_item.ensures.ok).0
