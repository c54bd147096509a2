use Rattle.std.proofs.Common.{◌<◌, ◌∙◌, Some, ap, arith, length, refl}
use Rattle.station.specs.PeerViews.{session_of}
use Rattle.station.proofs.Peers.{slots_size}
use Rattle.station.proofs.SlotSessions.{took, without_size}
use Rattle.station.proofs.station.Station.take.Goals as goal

pub put-requires : goal.put-requires
put-requires c =
    let slots = c.self.inside.slots in
    let size =
    ap length c.in-Some.ensures.slots
    ∙ without_size c.args.key (Some c.in-Some.peer) slots c.in-Some.ensures.key in
    let within : c.args.key < length slots = c.in-Some.ensures.key refl in
    omega (arith, size, within)

pub invariant_of-self : goal.invariant_of-self
invariant_of-self c =
    let slots = c.self.inside.slots in
    let size =
    ap length c.in-Some.ensures.slots
    ∙ without_size c.args.key (Some c.in-Some.peer) slots c.in-Some.ensures.key in
    let within : c.args.key < length slots = c.in-Some.ensures.key refl in
    let there : c.args.key < length c.take.new.self = omega (arith, size, within) in
    let back =
    ap length c.put.ensures ∙ slots_size c.args.key (Some _) c.take.new.self there in
    omega (arith, size, back, c.self.invariant)

pub returns-in-Some : goal.returns-in-Some
returns-in-Some c =
    rw (← c.self.view_is)
    (took c.args.key c.args.n c.self.inside.gates c.self.inside.book c.self.inside.slots
    c.take.new.self c.put.new.self c.in-Some.peer _ c.in-Some.ensures.peer
    c.in-Some.ensures.slots (ap (λ o. record (session_of c.in-Some.peer) { owed = o })
    c.take-in-Some.ensures) c.put.ensures)
