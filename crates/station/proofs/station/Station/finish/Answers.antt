use Rattle.std.proofs.Common.{◌<◌, ◌∙◌, Some, ap, arith, length, refl}
use Rattle.station.specs.Moves.{rows_since}
use Rattle.station.proofs.Peers.{slots_size}
use Rattle.station.proofs.SlotSessions.{finished_there, told_size}
use Rattle.station.proofs.station.Station.finish.Goals as goal

pub put-requires : goal.put-requires
put-requires c =
    let slots = c.self.inside.slots in
    let within : c.args.key < length slots = c.in-Some.ensures.key refl in
    let size =
    told_size c.args.key c.in-Some.peer (rows_since c.self.inside.book c.finish.new.book) slots
    c.take.new.self c.finish.new.others within
    c.in-Some.ensures.slots c.finish.ensures.told in
    omega (arith, size, within)

pub invariant_of-self : goal.invariant_of-self
invariant_of-self c =
    let slots = c.self.inside.slots in
    let within : c.args.key < length slots = c.in-Some.ensures.key refl in
    let size =
    told_size c.args.key c.in-Some.peer (rows_since c.self.inside.book c.finish.new.book) slots
    c.take.new.self c.finish.new.others within
    c.in-Some.ensures.slots c.finish.ensures.told in
    let there : c.args.key < length c.finish.new.others = omega (arith, size, within) in
    let back =
    ap length c.put.ensures ∙ slots_size c.args.key (Some _) c.finish.new.others there in
    omega (arith, size, back, c.self.invariant)

pub returns-in-Some : goal.returns-in-Some
returns-in-Some c =
    rw (← c.self.view_is)
    (finished_there c.args.key c.self.inside.gates c.self.inside.book c.finish.new.book
    c.self.inside.slots c.take.new.self c.finish.new.others c.put.new.self c.in-Some.peer
    c.finish.new.peer c.in-Some.ensures.peer c.in-Some.ensures.slots c.finish.ensures.turn
    c.finish.ensures.told c.put.ensures)
