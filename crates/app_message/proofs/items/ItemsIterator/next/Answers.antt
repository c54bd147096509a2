use Rattle.std.proofs.Common.{◌<◌, length, arith}
use Rattle.app_message.specs.Bodies.{entries_in}
use Rattle.app_message.proofs.Bodies.{next_of, short_lists_none}
use Rattle.app_message.proofs.items.ItemsIterator.next.Goals as goal

pub returns-in_default-clause-steps : goal.returns-in_default-clause-steps
returns-in_default-clause-steps c =
    let none = short_lists_none c.self.inside.rest.now c.in_default.len_below in
    (cc (none, c.self.view_is), cc (none, c.self.view_is))

pub split_at-requires : goal.split_at-requires
split_at-requires c =
    let next = next_of c.self.inside.rest.now c.in-len2-up.len_at_least c.self.invariant in
    omega (arith, next.within, c.from.ensures)

pub new-requires : goal.new-requires
new-requires c =
    let next = next_of c.self.inside.rest.now c.in-len2-up.len_at_least c.self.invariant in
    rw (c.split_at.ensures.front, c.from.ensures) next.few

pub invariant_of-self : goal.invariant_of-self
invariant_of-self c =
    let next = next_of c.self.inside.rest.now c.in-len2-up.len_at_least c.self.invariant in
    rw (c.split_at.ensures.back, c.from.ensures) next.others

pub returns-clause-steps : goal.returns-clause-steps
returns-clause-steps c =
    let next = next_of c.self.inside.rest.now c.in-len2-up.len_at_least c.self.invariant in
    rw (
      ← c.self.view_is,
      c.new.ensures.value,
      c.split_at.ensures.front,
      c.split_at.ensures.back,
      c.from.ensures,
    ) next.is

pub returns-clause-goes : goal.returns-clause-goes
returns-clause-goes c =
    let next = next_of c.self.inside.rest.now c.in-len2-up.len_at_least c.self.invariant in
    let fewer : length (entries_in c.split_at.result.1.now) < length c.args.self.now =
    rw (← c.self.view_is, c.split_at.ensures.back, c.from.ensures, next.is) (omega arith) in
    record { on = λ _. (tt, tt, fewer); keeps = tt; rests = λ _. tt }
