use Rattle.std.proofs.Common.{◌∙◌, ap, arith, length}
use Rattle.station.proofs.SlotSessions.{without_size}
use Rattle.station.proofs.station.Station.leave.Goals as goal

pub invariant_of-self : goal.invariant_of-self
invariant_of-self c =
    let size =
    ap length c.take.ensures.slots
    ∙ without_size c.args.key c.take.result c.self.inside.slots c.take.ensures.key in
    omega (arith, size, c.self.invariant)
